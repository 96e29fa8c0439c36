-- What was answered stays so where more is read.
use Rattle.std.proofs.Common.{◌≡◌, ◌≤◌, ◌+◌, ◌⊎◌, ℕ, List, [], ◌∷◌, ◌++◌, Bool, true, false, Option, Some, None, length, refl, sym, ap, ◌∙◌, subst, inl, inr, cond, arith, append_assoc, append-nil}
use Rattle.std.specs.Prelude.{All, IsPermutation, count_by, option_to_list}
use Rattle.std.proofs.lemmas.List.{length-append, take-append-le}
use Rattle.std.proofs.lemmas.List.Concat.{flat_map-append}
use Rattle.std.proofs.lemmas.List.Elements.{All-weaker}
use Rattle.std.proofs.lemmas.List.Sorted.{sum_by-IsPermutation}
use Rattle.std.proofs.lemmas.List.Sums.{sum_by-append}
use Rattle.apf_request_halves.specs.Held.{Placed}
use Rattle.apf_request_halves.specs.Reading.{AreAnswered, Asked, HadToGo, IsAnswered, IsMissed, answers_of, is_behind, limit_after, limit_by, limit_from, most_lines, requests_from, takes_place}

-- ---- lines that had to go

-- as many of more requests pass
pub count_front : (p : Placed → Bool) (rs came : List Placed) → count_by p rs ≤ count_by p (rs ++ came)
count_front p rs came =
    let sum : count_by p (rs ++ came) ≡ count_by p rs + count_by p came = sum_by-append (λ x. cond (p x) 1 0) rs came in
    omega (arith, sum)

-- those that are held are among the requests
pub count_held : (p : Placed → Bool) (answers held gone all : List Placed) → IsPermutation all (answers ++ (held ++ gone)) → count_by p held ≤ count_by p all
count_held p answers held gone all parts =
    let same : count_by p (answers ++ (held ++ gone)) ≡ count_by p all = sum_by-IsPermutation (λ x. cond (p x) 1 0) all (answers ++ (held ++ gone)) parts in
    let first : count_by p (answers ++ (held ++ gone)) ≡ count_by p answers + count_by p (held ++ gone) = sum_by-append (λ x. cond (p x) 1 0) answers (held ++ gone) in
    let later : count_by p (held ++ gone) ≡ count_by p held + count_by p gone = sum_by-append (λ x. cond (p x) 1 0) held gone in
    omega (arith, same, first, later)

-- what had to go of some requests had to go of more
pub went_still : (rs ss gone : List Placed) → ((p : Placed → Bool) → count_by p rs ≤ count_by p ss) → All (HadToGo rs) gone → All (HadToGo ss) gone
went_still rs ss gone more went = All-weaker (HadToGo rs) (HadToGo ss) one gone went
  where
    one : (g : Placed) → HadToGo rs g → HadToGo ss g
    one g (inl later) = inl (omega (arith, later, more (takes_place g)))
    one g (inr full) = inr (omega (arith, full, more (is_behind g)))

-- ---- ids that were asked for

-- who was told that no line was there was told so of more lines, and where more had to go
missed_still : (lines extra : List (List ℕ)) (is_ended : Bool) (gone more : List Placed) (before : List Asked) (id : List ℕ) → IsMissed lines false gone before id
    → IsMissed (lines ++ extra) is_ended (more ++ gone) before id
missed_still lines extra is_ended gone more before id m = record {
  count = m.count;
  some = omega (arith, m.some, length-append lines extra);
  held = m.held;
  past = m.past;
  later = more ++ m.later;
  both = ap (λ g. more ++ g) m.both ∙ sym (append_assoc more m.later m.past);
  all = subst (λ ls. IsPermutation (requests_from 1 ls) (answers_of before ++ (m.held ++ m.past))) (sym (take-append-le m.count lines extra m.some)) m.all;
  none = m.none;
  far = far m.far;
}
  where
    far : (limit_by before ≤ m.count) ⊎ ((false ≡ true) × (m.count ≡ length lines)) → (limit_by before ≤ m.count) ⊎ ((is_ended ≡ true) × (m.count ≡ length (lines ++ extra)))
    far (inl over) = inl over
    far (inr (ended, all)) = absurd cc

-- the same of all that asked
pub answered_still : (lines extra : List (List ℕ)) (is_ended : Bool) (gone more : List Placed) (before asked : List Asked) → AreAnswered lines false gone before asked
    → AreAnswered (lines ++ extra) is_ended (more ++ gone) before asked
answered_still lines extra is_ended gone more before [] are = tt
answered_still lines extra is_ended gone more before (a ∷ asked) are = (one a.found are.0, answered_still lines extra is_ended gone more (before ++ a ∷ []) asked are.1)
  where
    one : (found : Option Placed) → IsAnswered lines false gone before a.id found → IsAnswered (lines ++ extra) is_ended (more ++ gone) before a.id found
    one None is = missed_still lines extra is_ended gone more before a.id is
    one (Some p) is = is

-- one more that asked
pub answered_push : (lines : List (List ℕ)) (is_ended : Bool) (gone : List Placed) (before asked : List Asked) (a : Asked) → AreAnswered lines is_ended gone before asked
    → IsAnswered lines is_ended gone (before ++ asked) a.id a.found → AreAnswered lines is_ended gone before (asked ++ a ∷ [])
answered_push lines is_ended gone before [] a are is = (subst (λ b. IsAnswered lines is_ended gone b a.id a.found) (append-nil before) is, tt)
answered_push lines is_ended gone before (b ∷ asked) a are is = (
  are.0,
  answered_push lines is_ended gone (before ++ b ∷ []) asked a are.1 (subst (λ c. IsAnswered lines is_ended gone c a.id a.found) (sym (append_assoc before (b ∷ []) asked)) is),
)

-- the lines that were answered, and up to which line more are read then
pub answers_push : (asked : List Asked) (a : Asked) → answers_of (asked ++ a ∷ []) ≡ answers_of asked ++ option_to_list a.found
answers_push asked a =
    flat_map-append (λ (x : Asked). option_to_list x.found) asked (a ∷ []) ∙ ap (λ l. answers_of asked ++ l) (append-nil (option_to_list a.found))

-- no more lines than can be counted are read
pub limit_few : (limit : ℕ) (asked : List Asked) → limit ≤ most_lines → limit_from limit asked ≤ most_lines
limit_few limit [] few = few
limit_few limit (a ∷ asked) few = limit_few (limit_after limit a.found) asked (after a.found)
  where
    after : (found : Option Placed) → limit_after limit found ≤ most_lines
    after None = omega arith
    after (Some p) = omega (arith, few)

pub limit_push : (limit : ℕ) (asked : List Asked) (a : Asked) → limit_from limit (asked ++ a ∷ []) ≡ limit_after (limit_from limit asked) a.found
limit_push limit [] a = refl
limit_push limit (b ∷ asked) a = limit_push (limit_after limit b.found) asked a
