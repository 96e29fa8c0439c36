-- What is late in a window.
use Rattle.std.proofs.Common.{◌≡◌, ◌≢◌, ℕ, ◌+◌, ◌<◌, ◌≤◌, Bool, true, false, true≢false, cond, List, [], ◌∷◌, ◌++◌, length, Option, Some, None, refl, sym, ap, ◌∙◌, subst, ⊎_elim, arith}
use Rattle.std.specs.List.{AllByRecursion}
use Rattle.std.specs.Option.{option_to_list}
use Rattle.std.proofs.lemmas.Bool.{cases_Bool, cases_lt}
use Rattle.std.proofs.lemmas.Bool.Decides.{nat_tests}
use Rattle.std.proofs.lemmas.List.{append-nil}
use Rattle.std.proofs.lemmas.List.Sums.{count_by-le-length, sum_by-append, sum_by-cons, sum_by_push}
use Rattle.std.proofs.lemmas.List.Sorted.{length_permutation, sum_by-IsPermutation}
use Rattle.apf_times.specs.declared.window.Place.{Place}
use Rattle.apf_times.specs.declared.window.Arrival.{Arrival}
use Rattle.apf_times.specs.Windows.{WindowView, IsPushed, is_late, precedes}
use Rattle.apf_times.specs.WindowRuns.{AllPushed, Call, IsCallOf, IsWindowRun, all_came, all_out, number_behind}
use Rattle.apf_times.proofs.Counts.{one_if}
use Rattle.apf_times.proofs.Handings.{IsLastOf, told}

-- what is before a, which is not behind b, is before b
before_far : (x a b : Place) → precedes x a ≡ true → precedes b a ≡ false → precedes x b ≡ true
before_far x a b h k = grind (arith, nat_tests)

one_at : (b : Bool) → b ≡ true → one_if b ≡ 1
one_at b is = ap one_if is

none_at : (b : Bool) → b ≡ false → one_if b ≡ 0
none_at b is = ap one_if is

module _ {T : Type 0} where
  -- a place is before all that are not before one that it is before
  all_behind : (x l : Place) (ys : List (Arrival T)) → precedes x l ≡ true → AllByRecursion (λ y. precedes y.place l ≡ false) ys → number_behind x ys ≡ length ys
  all_behind x l [] before all = refl
  all_behind x l (y ∷ ys) before all =
      let sums = sum_by-cons (λ (z : Arrival T). cond (precedes x z.place) 1 0) y ys in
      let first = one_at (precedes x y.place) (before_far x l y.place before all.0) in
      let rest = all_behind x l ys before all.1 in omega arith

  -- a place that is before one of these is before one that is before none of these
  some_behind : (x l : Place) (ys : List (Arrival T)) → AllByRecursion (λ y. precedes l y.place ≡ false) ys → 1 ≤ number_behind x ys → precedes x l ≡ true
  some_behind x l [] all some = absurd (omega arith)
  some_behind x l (y ∷ ys) all some =
      ⊎_elim {C = precedes x l ≡ true}
      (λ yes. before_far x y.place l yes all.0)
      (λ no.
      let sums = sum_by-cons (λ (z : Arrival T). cond (precedes x z.place) 1 0) y ys in
      let first = none_at (precedes x y.place) no in some_behind x l ys all.1 (omega arith))
      (cases_Bool (precedes x y.place))

  -- once something was handed out, as many are held as the size, and none is before it
  abbrev pub IsFullBy : Option Place → ℕ → List (Arrival T) → List (Arrival T) → Type 0
  IsFullBy None size out held = Unit {0}
  IsFullBy (Some l) size out held = (size ≤ length held) × AllByRecursion (λ y. precedes y.place l ≡ false) held × ((x : Place) → precedes x l ≡ true → 1 ≤ number_behind x out)

  -- no more are held than the size
  held_few : (size : ℕ) (u v : WindowView T) (entry given : Option (Arrival T)) → IsCallOf entry u given v → u.size ≡ size → length u.held ≤ size → length v.held ≤ size
  held_few size u v None None call is few = let same = ap (λ w. length w.held) call.1 in omega arith
  held_few size u v None (Some f) call is few = let same = length_permutation u.held (f ∷ v.held) call.same in omega arith
  held_few size u v (Some x) None call is few = let same = length_permutation (x ∷ u.held) v.held call.1.1 in let low = call.1.0 in omega arith
  held_few size u v (Some x) (Some f) call is few = let same = length_permutation (x ∷ u.held) (f ∷ v.held) call.1.1.same in omega arith

  run_size : (size : ℕ) (calls : List (Call T)) (v : WindowView T) → IsWindowRun size calls v → v.size ≡ size
  run_size size [] v run = run.2
  run_size size (call ∷ calls) v run = run.3 ∙ run_size size calls run.0 run.1

  pub run_few : (size : ℕ) (calls : List (Call T)) (v : WindowView T) → IsWindowRun size calls v → length v.held ≤ size
  run_few size [] v run = let none = ap length run.0 in omega arith
  run_few size (call ∷ calls) v run = held_few size run.0 v call.came call.out run.2 (run_size size calls run.0 run.1) (run_few size calls run.0 run.1)

  -- nothing is held back once something was handed out
  still_none : (size : ℕ) (last later : Option Place) (out held held' : List (Arrival T)) → length held < size → later ≡ last → IsFullBy last size out held → IsFullBy later size out held'
  still_none size None later out held held' few same full = subst (λ l. IsFullBy l size out held') (sym same) tt
  still_none size (Some l) later out held held' few same full = let no = full.0 in absurd (omega arith)

  full_call : (size : ℕ) (u v : WindowView T) (x : Arrival T) (given : Option (Arrival T)) (out : List (Arrival T)) → IsPushed x u given v → u.size ≡ size → IsFullBy u.last size out u.held → IsFullBy v.last size (out ++ option_to_list given) v.held
  full_call size u v x None out call is full =
      subst (λ l. IsFullBy v.last size l v.held) (sym (append-nil out)) (still_none size u.last v.last out u.held v.held (let low = call.0 in omega arith) call.2 full)
  full_call size u v x (Some f) out call is full =
      let same = length_permutation (x ∷ u.held) (f ∷ v.held) call.1.same in
      let many = call.0 in
      let here : IsFullBy (Some f.place) size (out ++ f ∷ []) v.held = (
        omega arith,
        call.1.is_first,
        λ p before.
            let sums = sum_by_push (λ (y : Arrival T). cond (precedes p y.place) 1 0) out f in
            let one = one_at (precedes p f.place) before in omega arith,
      ) in
      subst (λ l. IsFullBy l size (out ++ f ∷ []) v.held) (sym call.1.last) here

  full_step : (size : ℕ) (u v : WindowView T) (entry given : Option (Arrival T)) (out : List (Arrival T)) → entry ≢ None → IsCallOf entry u given v → u.size ≡ size → IsFullBy u.last size out u.held → IsFullBy v.last size (out ++ option_to_list given) v.held
  full_step size u v None given out some call is full = absurd (some refl)
  full_step size u v (Some x) given out some call is full = full_call size u v x given out call.1 is full

  run_full : (size : ℕ) (calls : List (Call T)) (v : WindowView T) → IsWindowRun size calls v → AllPushed calls → IsFullBy v.last size (all_out calls) v.held
  run_full size [] v run pushed = subst (λ l. IsFullBy l size [] v.held) (sym run.1) tt
  run_full size (call ∷ calls) v run pushed =
      full_step size run.0 v call.came call.out (all_out calls) pushed.0 run.2 (run_size size calls run.0 run.1) (run_full size calls run.0 run.1 pushed.1)

  late_by : (size : ℕ) (last : Option Place) (out held : List (Arrival T)) (x : Place) → IsFullBy last size out held → is_late x last ≡ true → size < number_behind x out + number_behind x held
  late_by size None out held x full late = absurd (true≢false (sym late))
  late_by size (Some l) out held x full late =
      let all = all_behind x l held late full.1 in
      let one = full.2 x late in
      let many = full.0 in omega arith

  in_time_by : (size : ℕ) (last : Option Place) (out held : List (Arrival T)) (x : Place) → IsLastOf last out → length held ≤ size → is_late x last ≡ false → number_behind x out + number_behind x held ≤ size
  in_time_by size None out held x of few time =
      let none = ap (number_behind x) of in
      let most = count_by-le-length (λ (y : Arrival T). precedes x y.place) held in omega arith
  in_time_by size (Some l) out held x of few time =
      let most = count_by-le-length (λ (y : Arrival T). precedes x y.place) held in
      ⊎_elim {C = number_behind x out + number_behind x held ≤ size}
      (λ none. omega arith)
      (λ some. absurd (true≢false (sym (some_behind x l out of some) ∙ time)))
      (cases_lt (number_behind x out) 1)

  came_behind : (size : ℕ) (calls : List (Call T)) (v : WindowView T) (x : Place) → IsWindowRun size calls v → number_behind x (all_came calls) ≡ number_behind x (all_out calls) + number_behind x v.held
  came_behind size calls v x run =
      let f : Arrival T → ℕ = λ y. cond (precedes x y.place) 1 0 in
      sym (sum_by-IsPermutation f (all_came calls) (all_out calls ++ v.held) (told size calls v run).same) ∙ sum_by-append f (all_out calls) v.held

  pub run_late : (size : ℕ) (calls : List (Call T)) (v : WindowView T) (x : Place) → IsWindowRun size calls v → AllPushed calls → is_late x v.last ≡ true → size < number_behind x (all_came calls)
  run_late size calls v x run pushed late =
      let sums = came_behind size calls v x run in
      let more = late_by size v.last (all_out calls) v.held x (run_full size calls v run pushed) late in omega arith

  pub run_in_time : (size : ℕ) (calls : List (Call T)) (v : WindowView T) (x : Place) → IsWindowRun size calls v → AllPushed calls → is_late x v.last ≡ false → number_behind x (all_came calls) ≤ size
  run_in_time size calls v x run pushed time =
      let sums = came_behind size calls v x run in
      let few = in_time_by size v.last (all_out calls) v.held x (told size calls v run).last (run_few size calls v run) time in omega arith
