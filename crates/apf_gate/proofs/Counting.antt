-- The numbers of decisions, as requests are added.
use Rattle.std.proofs.Common.{◌≡◌, ℕ, zero, suc, ◌+◌, ◌<◌, ◌≤◌, List, [], ◌∷◌, ◌++◌, length, get_or, take, append_assoc, Option, Some, None, sym, refl, ap, ◌∙◌, subst, arith}
use Rattle.std.proofs.Math.Seq.{take-suc}
use Rattle.std.proofs.lemmas.List.{append-nil}
use Rattle.apf_words.specs.declared.decision.Decision.{Decision}
use Rattle.apf_words.specs.declared.decision.Decision.TheVariants.{Execute, QueueFull, Closed, Cancelled, ConcurrencyLimit}
use Rattle.apf_gate.specs.declared.counts.Counts.{Counts}
use Rattle.apf_gate.specs.Records.{told_more}
use Rattle.apf_gate.specs.Counted.{counted, counted_if, added, total, decided_so, AreCounts}
use Rattle.apf_gate.specs.Tokens.{PassToken}
use Rattle.apf_gate.specs.LifeEnds.{pasts, presents}

abbrev pub no_counts : Counts
no_counts = record { executed = 0; queue_full = 0; closed = 0; concurrency_limit = 0; cancelled = 0 }

pub counts_none : AreCounts no_counts []
counts_none = record { executed = refl; queue_full = refl; closed = refl; concurrency_limit = refl; cancelled = refl; all = refl }

-- one decision more
pub counts_more : (c : Counts) (ds : List (ℕ × Decision)) (r : ℕ) (d : Decision) → AreCounts c ds → AreCounts (counted c d) ((r, d) ∷ ds)
counts_more c ds r Execute k =
    let a = k.executed in let b = k.queue_full in let l = k.closed in let m = k.concurrency_limit in let n = k.cancelled in let s = k.all in
    record { executed = omega arith; queue_full = omega arith; closed = omega arith; concurrency_limit = omega arith; cancelled = omega arith; all = omega arith }
counts_more c ds r QueueFull k =
    let a = k.executed in let b = k.queue_full in let l = k.closed in let m = k.concurrency_limit in let n = k.cancelled in let s = k.all in
    record { executed = omega arith; queue_full = omega arith; closed = omega arith; concurrency_limit = omega arith; cancelled = omega arith; all = omega arith }
counts_more c ds r Closed k =
    let a = k.executed in let b = k.queue_full in let l = k.closed in let m = k.concurrency_limit in let n = k.cancelled in let s = k.all in
    record { executed = omega arith; queue_full = omega arith; closed = omega arith; concurrency_limit = omega arith; cancelled = omega arith; all = omega arith }
counts_more c ds r Cancelled k =
    let a = k.executed in let b = k.queue_full in let l = k.closed in let m = k.concurrency_limit in let n = k.cancelled in let s = k.all in
    record { executed = omega arith; queue_full = omega arith; closed = omega arith; concurrency_limit = omega arith; cancelled = omega arith; all = omega arith }
counts_more c ds r ConcurrencyLimit k =
    let a = k.executed in let b = k.queue_full in let l = k.closed in let m = k.concurrency_limit in let n = k.cancelled in let s = k.all in
    record { executed = omega arith; queue_full = omega arith; closed = omega arith; concurrency_limit = omega arith; cancelled = omega arith; all = omega arith }

-- and where one was found
pub counts_told : (c : Counts) (ds : List (ℕ × Decision)) (r : ℕ) (found : Option Decision) → AreCounts c ds → AreCounts (counted_if c found) (told_more ds r found)
counts_told c ds r None k = k
counts_told c ds r (Some d) k = counts_more c ds r d k

pub length_told : (ds : List (ℕ × Decision)) (r : ℕ) (found : Option Decision) → length (told_more ds r found) ≤ length ds + 1
length_told ds r None = omega arith
length_told ds r (Some d) = omega arith

pub total_if : (c : Counts) (found : Option Decision) → total (counted_if c found) ≤ total c + 1
total_if c None = omega arith
total_if c (Some Execute) = omega arith
total_if c (Some QueueFull) = omega arith
total_if c (Some Closed) = omega arith
total_if c (Some Cancelled) = omega arith
total_if c (Some ConcurrencyLimit) = omega arith

-- both lists together
so_both : (d : Decision) (xs ys : List (ℕ × Decision)) → decided_so d (xs ++ ys) ≡ decided_so d xs + decided_so d ys
so_both d [] ys = omega arith
so_both d (x ∷ xs) ys = let h = so_both d xs ys in omega arith

length_both : (xs ys : List (ℕ × Decision)) → length (xs ++ ys) ≡ length xs + length ys
length_both [] ys = omega arith
length_both (x ∷ xs) ys = let h = length_both xs ys in omega arith

pub counts_both : (c e : Counts) (xs ys : List (ℕ × Decision)) → AreCounts c xs → AreCounts e ys → AreCounts (added c e) (xs ++ ys)
counts_both c e xs ys k m = record {
  executed = let a = k.executed in let b = m.executed in let s = so_both Execute xs ys in omega arith;
  queue_full = let a = k.queue_full in let b = m.queue_full in let s = so_both QueueFull xs ys in omega arith;
  closed = let a = k.closed in let b = m.closed in let s = so_both Closed xs ys in omega arith;
  concurrency_limit = let a = k.concurrency_limit in let b = m.concurrency_limit in let s = so_both ConcurrencyLimit xs ys in omega arith;
  cancelled = let a = k.cancelled in let b = m.cancelled in let s = so_both Cancelled xs ys in omega arith;
  all = let a = k.all in let b = m.all in let s = length_both xs ys in omega arith;
}

-- one decision more, at the end
pub counts_push : (c : Counts) (ds : List (ℕ × Decision)) (r : ℕ) (d : Decision) → AreCounts c ds → AreCounts (counted c d) (ds ++ (r, d) ∷ [])
counts_push c ds r Execute k =
    let a = k.executed in let b = k.queue_full in let l = k.closed in let m = k.concurrency_limit in let n = k.cancelled in let s = k.all in
    let a' = so_both Execute ds ((r, Execute) ∷ []) in let b' = so_both QueueFull ds ((r, Execute) ∷ []) in let l' = so_both Closed ds ((r, Execute) ∷ []) in let m' = so_both ConcurrencyLimit ds ((r, Execute) ∷ []) in let n' = so_both Cancelled ds ((r, Execute) ∷ []) in let s' = length_both ds ((r, Execute) ∷ []) in
    record { executed = omega arith; queue_full = omega arith; closed = omega arith; concurrency_limit = omega arith; cancelled = omega arith; all = omega arith }
counts_push c ds r QueueFull k =
    let a = k.executed in let b = k.queue_full in let l = k.closed in let m = k.concurrency_limit in let n = k.cancelled in let s = k.all in
    let a' = so_both Execute ds ((r, QueueFull) ∷ []) in let b' = so_both QueueFull ds ((r, QueueFull) ∷ []) in let l' = so_both Closed ds ((r, QueueFull) ∷ []) in let m' = so_both ConcurrencyLimit ds ((r, QueueFull) ∷ []) in let n' = so_both Cancelled ds ((r, QueueFull) ∷ []) in let s' = length_both ds ((r, QueueFull) ∷ []) in
    record { executed = omega arith; queue_full = omega arith; closed = omega arith; concurrency_limit = omega arith; cancelled = omega arith; all = omega arith }
counts_push c ds r Closed k =
    let a = k.executed in let b = k.queue_full in let l = k.closed in let m = k.concurrency_limit in let n = k.cancelled in let s = k.all in
    let a' = so_both Execute ds ((r, Closed) ∷ []) in let b' = so_both QueueFull ds ((r, Closed) ∷ []) in let l' = so_both Closed ds ((r, Closed) ∷ []) in let m' = so_both ConcurrencyLimit ds ((r, Closed) ∷ []) in let n' = so_both Cancelled ds ((r, Closed) ∷ []) in let s' = length_both ds ((r, Closed) ∷ []) in
    record { executed = omega arith; queue_full = omega arith; closed = omega arith; concurrency_limit = omega arith; cancelled = omega arith; all = omega arith }
counts_push c ds r Cancelled k =
    let a = k.executed in let b = k.queue_full in let l = k.closed in let m = k.concurrency_limit in let n = k.cancelled in let s = k.all in
    let a' = so_both Execute ds ((r, Cancelled) ∷ []) in let b' = so_both QueueFull ds ((r, Cancelled) ∷ []) in let l' = so_both Closed ds ((r, Cancelled) ∷ []) in let m' = so_both ConcurrencyLimit ds ((r, Cancelled) ∷ []) in let n' = so_both Cancelled ds ((r, Cancelled) ∷ []) in let s' = length_both ds ((r, Cancelled) ∷ []) in
    record { executed = omega arith; queue_full = omega arith; closed = omega arith; concurrency_limit = omega arith; cancelled = omega arith; all = omega arith }
counts_push c ds r ConcurrencyLimit k =
    let a = k.executed in let b = k.queue_full in let l = k.closed in let m = k.concurrency_limit in let n = k.cancelled in let s = k.all in
    let a' = so_both Execute ds ((r, ConcurrencyLimit) ∷ []) in let b' = so_both QueueFull ds ((r, ConcurrencyLimit) ∷ []) in let l' = so_both Closed ds ((r, ConcurrencyLimit) ∷ []) in let m' = so_both ConcurrencyLimit ds ((r, ConcurrencyLimit) ∷ []) in let n' = so_both Cancelled ds ((r, ConcurrencyLimit) ∷ []) in let s' = length_both ds ((r, ConcurrencyLimit) ∷ []) in
    record { executed = omega arith; queue_full = omega arith; closed = omega arith; concurrency_limit = omega arith; cancelled = omega arith; all = omega arith }

take_all : {A : Type 0} (xs : List A) (j : ℕ) → length xs ≤ j → take j xs ≡ xs
take_all [] zero l = refl
take_all [] (suc j) l = refl
take_all (x ∷ xs) zero l = absurd (omega arith)
take_all (x ∷ xs) (suc j) l = ap (λ l. x ∷ l) (take_all xs j (omega arith))

-- the requests that hold slots, slot by slot
presents_join : (current : ℕ → ℕ) (i : ℕ) (xs ys : List (Option Decision)) → presents current i (xs ++ ys) ≡ presents current i xs ++ presents current (i + length xs) ys
presents_join current i [] ys = let z : i ≡ i + 0 = omega arith in ap (λ k. presents current k ys) z
presents_join current i (None ∷ xs) ys = let z : (i + 1) + length xs ≡ i + suc (length xs) = omega arith in presents_join current (i + 1) xs ys ∙ ap (λ k. presents current (i + 1) xs ++ presents current k ys) z
presents_join current i (Some d ∷ xs) ys = let z : (i + 1) + length xs ≡ i + suc (length xs) = omega arith in ap (λ l. (current i, d) ∷ l) (presents_join current (i + 1) xs ys ∙ ap (λ k. presents current (i + 1) xs ++ presents current k ys) z)

-- one slot more
pub slot_counted : (c : Counts) (current : ℕ → ℕ) (ds : List (Option Decision)) (j : ℕ) → j < length ds → AreCounts c (presents current 0 (take j ds)) → AreCounts (counted_if c (get_or ds j None)) (presents current 0 (take (j + 1) ds))
slot_counted c current ds j l k =
    subst (λ xs. AreCounts (counted_if c (get_or ds j None)) (presents current 0 xs)) (sym more)
    (subst (AreCounts (counted_if c (get_or ds j None))) (sym (presents_join current 0 (take j ds) (get_or ds j None ∷ []))) (by (get_or ds j None)))
  where
    more : take (j + 1) ds ≡ take j ds ++ get_or ds j None ∷ []
    more = ap (λ n. take n ds) (let z : j + 1 ≡ suc j = omega arith in z) ∙ take-suc ds j None l

    by : (y : Option Decision) → AreCounts (counted_if c y) (presents current 0 (take j ds) ++ presents current (0 + length (take j ds)) (y ∷ []))
    by None = subst (AreCounts c) (sym (append-nil (presents current 0 (take j ds)))) k
    by (Some d) = counts_push c (presents current 0 (take j ds)) (current (0 + length (take j ds))) d k

-- the requests that held them before, Pass by Pass
pasts_join : (ps qs : List PassToken) → pasts (ps ++ qs) ≡ pasts ps ++ pasts qs
pasts_join [] qs = refl
pasts_join (t ∷ ps) qs = ap (λ l. t.pass.past ++ l) (pasts_join ps qs) ∙ sym (append_assoc t.pass.past (pasts ps) (pasts qs))

pub pass_counted : (c e : Counts) (ps : List PassToken) (j : ℕ) (t : PassToken) → j < length ps → get_or ps j t ≡ t → AreCounts c (pasts (take j ps)) → AreCounts e t.pass.past → AreCounts (added c e) (pasts (take (j + 1) ps))
pass_counted c e ps j t l is k m =
    let more : take (j + 1) ps ≡ take j ps ++ t ∷ [] = ap (λ n. take n ps) (let z : j + 1 ≡ suc j = omega arith in z) ∙ (take-suc ps j t l ∙ ap (λ x. take j ps ++ x ∷ []) is) in
    subst (λ xs. AreCounts (added c e) (pasts xs)) (sym more) (subst (AreCounts (added c e)) (sym (pasts_join (take j ps) (t ∷ []) ∙ ap (λ l. pasts (take j ps) ++ l) (append-nil t.pass.past))) (counts_both c e (pasts (take j ps)) t.pass.past k m))

-- all of them
pub all_slots : (c : Counts) (current : ℕ → ℕ) (ds : List (Option Decision)) (j : ℕ) → length ds ≤ j → AreCounts c (presents current 0 (take j ds)) → AreCounts c (presents current 0 ds)
all_slots c current ds j l k = subst (λ xs. AreCounts c (presents current 0 xs)) (take_all ds j l) k

pub all_passes : (c : Counts) (ps : List PassToken) (j : ℕ) → length ps ≤ j → AreCounts c (pasts (take j ps)) → AreCounts c (pasts ps)
all_passes c ps j l k = subst (λ xs. AreCounts c (pasts xs)) (take_all ps j l) k
