-- Each request is in one line of a table.
use Rattle.std.proofs.Common.{rules, ◌≡◌, ℕ, suc, ◌+◌, ◌<◌, Bool, true, false, ◌||◌, cond, List, [], ◌∷◌, ◌++◌, length, map, fold, All, refl, sym, ap, ◌∙◌, subst, arith}
use Rattle.std.specs.Prelude.{nat_eq, nat_lt}
use Rattle.std.specs.Cmp.{IsEquivalence}
use Rattle.std.specs.List.{AllByRecursion, IsDistinct, list_any, sum_by}
use Rattle.std.proofs.lemmas.Bool.{eqb-true}
use Rattle.std.proofs.lemmas.List.Sorted.{sum_by-IsPermutation}
use Rattle.std.proofs.lemmas.List.Sums.{sum_by-cons}
use Rattle.std.proofs.lemmas.Map.Keys.{IsDistinct-from_apart, IsDistinct-head, IsDistinct-push, IsDistinct-tail}
use Rattle.apf_times.specs.declared.window.Arrival.{Arrival}
use Rattle.apf_traces.specs.declared.request.TraceRequest.{TraceRequest}
use Rattle.apf_stream.specs.declared.ended.Ended.{Ended}
use Rattle.apf_rows.specs.Accounts.{AreSums, total}
use Rattle.apf_rows.specs.Columns.{AddUp, column}
use Rattle.apf_rows.specs.Rows.{flows_of, is_among, max_flows, of_flow, of_others, with_flow}
use Rattle.apf_rows.specs.Tables.{IsLine, IsTable}
use Rattle.apf_rows.specs.declared.sums.Sums.{Sums}
use Rattle.apf_rows.specs.declared.table.Line.{Line}
use Rattle.apf_rows.specs.declared.table.Table.{Table}

-- a number where this is true
abbrev pub if_so : Bool → ℕ → ℕ
if_so true x = x
if_so false x = 0

-- ---- sums over flows

none_of : (hash x : ℕ) (hs : List ℕ) → AllByRecursion (λ y. nat_eq hash y ≡ false) hs → sum_by (λ h. if_so (nat_eq hash h) x) hs ≡ 0
none_of hash x [] all = refl
none_of hash x (h ∷ hs) all =
    let first : if_so (nat_eq hash h) x ≡ 0 = ap (λ (b : Bool). if_so b x) all.0 in
    let rest = none_of hash x hs all.1 in
    sum_by-cons (λ y. if_so (nat_eq hash y) x) h hs ∙ omega arith

-- a request is of one of flows that differ, at most
once : (hash x : ℕ) (hs : List ℕ) → IsDistinct nat_eq hs → sum_by (λ h. if_so (nat_eq hash h) x) hs ≡ if_so (is_among hs hash) x
once hash x [] distinct = refl
once hash x (h ∷ hs) distinct = sum_by-cons (λ y. if_so (nat_eq hash y) x) h hs ∙ by_first (once hash x hs (IsDistinct-tail nat_eq h hs distinct)) (nat_eq hash h) refl
  where
    by_first : sum_by (λ y. if_so (nat_eq hash y) x) hs ≡ if_so (is_among hs hash) x → (b : Bool) → nat_eq hash h ≡ b → if_so (nat_eq hash h) x + sum_by (λ y. if_so (nat_eq hash y) x) hs ≡ if_so (is_among (h ∷ hs) hash) x
    by_first rest_is true e =
        let same : hash ≡ h = eqb-true hash h e in
        let rest = none_of hash x hs (subst (λ (k : ℕ). AllByRecursion (λ y. nat_eq k y ≡ false) hs) (sym same) (IsDistinct-head nat_eq h hs distinct)) in
        let first : if_so (nat_eq hash h) x ≡ x = ap (λ (b : Bool). if_so b x) e in
        let among : if_so (is_among (h ∷ hs) hash) x ≡ x = ap (λ (b : Bool). if_so (b || list_any (nat_eq hash) hs) x) e in
        omega arith
    by_first rest false e =
        let first : if_so (nat_eq hash h) x ≡ 0 = ap (λ (b : Bool). if_so b x) e in
        let among : if_so (is_among (h ∷ hs) hash) x ≡ if_so (is_among hs hash) x = ap (λ (b : Bool). if_so (b || list_any (nat_eq hash) hs) x) e in
        omega arith

module _ (of : Ended → ℕ) where
  there : (b : Bool) (e : Ended) (told : List Ended) → total of (cond b (e ∷ told) told) ≡ if_so b (of e) + total of told
  there true e told = omega arith
  there false e told = omega arith

  elsewhere : (b : Bool) (e : Ended) (told : List Ended) → total of (cond b told (e ∷ told)) + if_so b (of e) ≡ of e + total of told
  elsewhere true e told = omega arith
  elsewhere false e told = omega arith

  -- with one request more
  more : (e : Ended) (told : List Ended) (hs : List ℕ)
      → sum_by (λ h. total of (of_flow h (e ∷ told))) hs ≡ sum_by (λ h. if_so (nat_eq e.hold.asked.hash h) (of e)) hs + sum_by (λ h. total of (of_flow h told)) hs
  more e told [] = refl
  more e told (h ∷ hs) =
      let a = sum_by-cons (λ k. total of (of_flow k (e ∷ told))) h hs in
      let b = sum_by-cons (λ k. if_so (nat_eq e.hold.asked.hash k) (of e)) h hs in
      let c = sum_by-cons (λ k. total of (of_flow k told)) h hs in
      let d = there (nat_eq e.hold.asked.hash h) e (of_flow h told) in
      let r = more e told hs in
      omega arith

  nothing : (hs : List ℕ) → sum_by (λ h. total of (of_flow h [])) hs ≡ 0
  nothing [] = refl
  nothing (h ∷ hs) = let r = nothing hs in sum_by-cons (λ k. total of (of_flow k [])) h hs ∙ omega arith

  -- all requests, by their flows
  all_of : (told : List Ended) (hs : List ℕ) → IsDistinct nat_eq hs → sum_by (λ h. total of (of_flow h told)) hs + total of (of_others hs told) ≡ total of told
  all_of [] hs distinct = let n = nothing hs in omega arith
  all_of (e ∷ told) hs distinct =
      let m = more e told hs in
      let o = once e.hold.asked.hash (of e) hs distinct in
      let x = elsewhere (is_among hs e.hold.asked.hash) e (of_others hs told) in
      let r = all_of told hs distinct in
      omega arith

-- ---- flows differ

nat_eq_laws : IsEquivalence nat_eq
nat_eq_laws = (search rules)

none_same : IsDistinct nat_eq []
none_same = IsDistinct-from_apart nat_eq [] (λ i j d low inside. absurd (omega arith))

with_distinct : (flows : List ℕ) (hash : ℕ) → IsDistinct nat_eq flows → IsDistinct nat_eq (with_flow flows hash)
with_distinct flows hash distinct = by_test (is_among flows hash) (nat_lt (length flows) max_flows) refl
  where
    by_test : (there room : Bool) → is_among flows hash ≡ there → IsDistinct nat_eq (cond there flows (cond room (flows ++ hash ∷ []) flows))
    by_test true room e = distinct
    by_test false true e = IsDistinct-push nat_eq_laws flows hash distinct e
    by_test false false e = distinct

fold_distinct : (came : List (Arrival TraceRequest)) (flows : List ℕ) → IsDistinct nat_eq flows → IsDistinct nat_eq (fold (λ fs (x : Arrival TraceRequest). with_flow fs x.item.hash) flows came)
fold_distinct [] flows distinct = distinct
fold_distinct (x ∷ came) flows distinct = fold_distinct came (with_flow flows x.item.hash) (with_distinct flows x.item.hash distinct)

-- ---- lines

-- what each line says of its flow
lines_sum : (of : Sums → ℕ) (by : ℕ → ℕ) (came : List (Arrival TraceRequest)) (told : List Ended) (lines : List Line)
    → ((l : Line) → IsLine came told l → of l.figures.sums ≡ by l.hash) → All (IsLine came told) lines → sum_by (λ (l : Line). of l.figures.sums) lines ≡ sum_by by (map (λ (l : Line). l.hash) lines)
lines_sum of by came told [] says each = refl
lines_sum of by came told (l ∷ lines) says each =
    let first = says l (each 0 l (omega arith)) in
    let rest = lines_sum of by came told lines says (λ i d low. each (suc i) d (omega arith)) in
    let a = sum_by-cons (λ (x : Line). of x.figures.sums) l lines in
    let b = sum_by-cons by l.hash (map (λ (x : Line). x.hash) lines) in
    omega arith

module _ (came : List (Arrival TraceRequest)) (told : List Ended) (t : Table) (is : IsTable came told t) where
  -- a column that is the sum of a number of each request
  adds : (of : Sums → ℕ) (number : Ended → ℕ) → ((xs : List Ended) (s : Sums) → AreSums xs s → of s ≡ total number xs) → column of t ≡ of t.all.sums
  adds of number says =
      let by : ℕ → ℕ = λ h. total number (of_flow h told) in
      let a = lines_sum of by came told t.lines.items (λ l line. says (of_flow l.hash told) l.figures.sums line.figures.sums) is.each in
      let b = sum_by-IsPermutation by (flows_of came) (map (λ (l : Line). l.hash) t.lines.items) is.flows in
      let c = all_of number told (flows_of came) (fold_distinct came [] none_same) in
      let o = says (of_others (flows_of came) told) t.others.sums is.others.sums in
      let w = says told t.all.sums is.all.sums in
      omega arith

many : (told : List Ended) → length told ≡ total (λ e. 1) told
many [] = refl
many (e ∷ told) = let r = many told in omega arith

pub adds_up : (came : List (Arrival TraceRequest)) (told : List Ended) (t : Table) → IsTable came told t → AddUp t
adds_up came told t is = record {
  requests = adds came told t is (λ s. s.requests) (λ e. 1) (λ xs s sums. sums.requests ∙ many xs);
  executed = adds came told t is (λ s. s.executed) _ (λ xs s sums. sums.executed);
  rejected = adds came told t is (λ s. s.rejected) _ (λ xs s sums. sums.rejected);
  cancelled = adds came told t is (λ s. s.cancelled) _ (λ xs s sums. sums.cancelled);
  seat_time = adds came told t is (λ s. s.seat_time) _ (λ xs s sums. sums.seat_time);
  waited = adds came told t is (λ s. s.waited) _ (λ xs s sums. sums.waited);
}
