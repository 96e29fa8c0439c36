-- Who is held, and who is let go.
use Rattle.std.proofs.Common.{◌≡◌, ℕ, List, [], ◌∷◌, ◌++◌, map, Bool, true, false, not, Option, Some, None, refl, sym, ap, ◌∙◌, subst, append_assoc}
use Rattle.std.specs.Prelude.{IsPermutation, IfSome}
use Rattle.std.specs.List.{AllByRecursion, filter}
use Rattle.std.specs.List.Sorted.{IsSortedBy}
use Rattle.std.specs.Option.{option_to_list}
use Rattle.std.specs.Io.KnownBytes.{Keeps}
use Rattle.std.proofs.lemmas.List.{map-append}
use Rattle.std.proofs.lemmas.List.Elements.{All-filter, All-from_recursion, filter_passes, recursion_from_All}
use Rattle.std.proofs.lemmas.List.Sorted.{All-permutation, IsPermutation-append_comm, IsPermutation-append_left, IsPermutation-append_right, IsPermutation-filter_both, IsPermutation-map, IsPermutation-trans}
use Rattle.apf_stream.specs.declared.ended.Ended.{Ended}
use Rattle.apf_simulator.specs.Hearing.{AreListed, AreParts, Fate, Holds, IsFate, IsHeldOf, IsOutside, Stays, line_before}
use Rattle.apf_simulator.specs.Turns.{Turn, came_by, told_by}
use Rattle.apf_simulator.specs.Windows.{is_there, stays, stays_by}
use Rattle.apf_simulator.specs.declared.held.Held.{Held}
use Rattle.apf_simulator.specs.declared.held.TimeWindow.{TimeWindow}
use Rattle.apf_simulator.specs.declared.listed.Listed.{Listed}
use Rattle.apf_simulator.proofs.Going.{came_then, told_then}
use Rattle.apf_simulator.proofs.Holding.{Came, came_of, fates_more}
use Rattle.apf_simulator.proofs.Showing.{Takes, came_to, held_then}

-- whether it goes
abbrev goes : TimeWindow → Held → Bool
goes w h = not (stays w h)

-- what became of those that are over
abbrev fates_by : Came → Option Ended → List Fate → List Fate
fates_by x None rest = rest
fates_by x (Some e) rest = record { came = x; ended = e } ∷ rest

abbrev fates_of : List Held → List Fate
fates_of [] = []
fates_of (h ∷ held) = fates_by h.came h.ended (fates_of held)

-- who goes is over
same_by : (w : TimeWindow) (x : Came) (o : Option Ended) (rest : List Fate) (came : List Came) → not (stays_by w x o) ≡ true → map came_to rest ≡ came → map came_to (fates_by x o rest) ≡ x ∷ came
same_by w x None rest came gone is = absurd (cc)
same_by w x (Some e) rest came gone is = ap (λ (l : List Came). x ∷ l) is

same_fates : (w : TimeWindow) (held : List Held) → AllByRecursion (λ (h : Held). goes w h ≡ true) held → map came_to (fates_of held) ≡ map came_of held
same_fates w [] all = refl
same_fates w (h ∷ held) all = same_by w h.came h.ended (fates_of held) (map came_of held) all.0 (same_fates w held all.1)

known_by : (told : List Ended) (x : Came) (o : Option Ended) (rest : List Fate) → IfSome o (λ e. IsFate told (record { came = x; ended = e })) → AllByRecursion (IsFate told) rest → AllByRecursion (IsFate told) (fates_by x o rest)
known_by told x None rest known all = all
known_by told x (Some e) rest known all = (known, all)

all_known : (told : List Ended) (held : List Held) → AllByRecursion (IsHeldOf told) held → AllByRecursion (IsFate told) (fates_of held)
all_known told [] all = tt
all_known told (h ∷ held) all = known_by told h.came h.ended (fates_of held) all.0 (all_known told held all.1)

is_false : (b : Bool) → not b ≡ true → b ≡ false
is_false true is = absurd (cc)
is_false false is = refl

outside_by : (w : TimeWindow) (x : Came) (o : Option Ended) (rest : List Fate) → not (stays_by w x o) ≡ true → AllByRecursion (IsOutside w) rest → AllByRecursion (IsOutside w) (fates_by x o rest)
outside_by w x None rest gone all = absurd (cc)
outside_by w x (Some e) rest gone all = (is_false (is_there w x e) gone, all)

all_outside : (w : TimeWindow) (held : List Held) → AllByRecursion (λ (h : Held). goes w h ≡ true) held → AllByRecursion (IsOutside w) (fates_of held)
all_outside w [] all = tt
all_outside w (h ∷ held) all = outside_by w h.came h.ended (fates_of held) all.0 (all_outside w held all.1)

all_both : (P : Fate → Type 0) (fs gs : List Fate) → AllByRecursion P fs → AllByRecursion P gs → AllByRecursion P (fs ++ gs)
all_both P [] gs a b = b
all_both P (f ∷ fs) gs a b = (a.0, all_both P fs gs a.1 b)

module _ (w : TimeWindow) (before now : Option (List ℕ)) (turns : List Turn) (held : List Held) (h : Holds w before now turns held) where
  abbrev stay : List Held
  stay = filter (stays w) held

  abbrev gone : List Held
  gone = filter (goes w) held

  gone_all : AllByRecursion (λ (h : Held). goes w h ≡ true) gone
  gone_all = recursion_from_All (λ (h : Held). goes w h ≡ true) gone (filter_passes (goes w) held)

  parts_are : map came_of (stay ++ gone) ≡ map came_of stay ++ map came_to (fates_of gone)
  parts_are = map-append came_of stay gone ∙ ap (λ (l : List Came). map came_of stay ++ l) (sym (same_fates w gone gone_all))

  first : IsPermutation h.back (map came_of stay ++ map came_to (fates_of gone))
  first =
      subst (λ (l : List Came). IsPermutation l (map came_of stay ++ map came_to (fates_of gone))) h.held_are.are
      (subst (IsPermutation (map came_of held)) parts_are (IsPermutation-map came_of held (stay ++ gone) (IsPermutation-filter_both (stays w) (goes w) (λ x. refl) held)))

  join : (map came_of stay ++ map came_to (fates_of gone)) ++ map came_to h.out ≡ map came_of stay ++ map came_to (fates_of gone ++ h.out)
  join = append_assoc (map came_of stay) (map came_to (fates_of gone)) (map came_to h.out) ∙ ap (λ (l : List Came). map came_of stay ++ l) (sym (map-append came_to (fates_of gone) h.out))

  whole : IsPermutation (came_by turns) (map came_of stay ++ map came_to (fates_of gone ++ h.out))
  whole =
      IsPermutation-trans (came_by turns) (h.back ++ map came_to h.out) (map came_of stay ++ map came_to (fates_of gone ++ h.out)) h.all
      (subst (IsPermutation (h.back ++ map came_to h.out)) join (IsPermutation-append_left (map came_to h.out) h.back (map came_of stay ++ map came_to (fates_of gone)) first))

  stay_known : AllByRecursion (IsHeldOf (told_by turns)) stay
  stay_known =
      let P = IsHeldOf (told_by turns) in
      recursion_from_All P stay (All-filter (stays w) P held (All-from_recursion P held h.held_are.known))

  gone_known : AllByRecursion (IsHeldOf (told_by turns)) gone
  gone_known =
      let P = IsHeldOf (told_by turns) in
      recursion_from_All P gone (All-filter (goes w) P held (All-from_recursion P held h.held_are.known))

  -- those that go were over, and were not there
  pub let_go : Holds w before now turns (filter (stays w) held)
  let_go = record {
    kept = h.kept;
    back = map came_of stay;
    held_are = record { are = refl; known = stay_known };
    out = fates_of gone ++ h.out;
    all = whole;
    told = all_both (IsFate (told_by turns)) (fates_of gone) h.out (all_known (told_by turns) gone gone_known) h.told;
    outside = all_both (IsOutside w) (fates_of gone) h.out (all_outside w gone gone_all) h.outside;
  }

  stay_there : AllByRecursion (Stays w) stay
  stay_there = recursion_from_All (Stays w) stay (filter_passes (stays w) held)

  -- who stays, in another order
  pub listed : (sorted : List Held) (l : Listed) → IsPermutation (filter (stays w) held) sorted → IsSortedBy line_before sorted → AreParts sorted l.requests.items l.ends.items → AreListed w (came_by turns) (told_by turns) l
  listed sorted l same order parts =
      let told = told_by turns in record {
        held = sorted;
        out = fates_of gone ++ h.out;
        all =
            IsPermutation-trans (came_by turns) (map came_of stay ++ map came_to (fates_of gone ++ h.out)) (map came_of sorted ++ map came_to (fates_of gone ++ h.out)) whole
            (IsPermutation-append_left (map came_to (fates_of gone ++ h.out)) (map came_of stay) (map came_of sorted) (IsPermutation-map came_of stay sorted same));
        order = order;
        known = recursion_from_All (IsHeldOf told) sorted (All-permutation (IsHeldOf told) stay sorted same (All-from_recursion (IsHeldOf told) stay stay_known));
        there = recursion_from_All (Stays w) sorted (All-permutation (Stays w) stay sorted same (All-from_recursion (Stays w) stay stay_there));
        told_out = all_both (IsFate told) (fates_of gone) h.out (all_known told gone gone_known) h.told;
        outside = all_both (IsOutside w) (fates_of gone) h.out (all_outside w gone gone_all) h.outside;
        parts = parts;
      }

-- nobody came, and nobody is held
pub nobody_held : (w : TimeWindow) (before : Option (List ℕ)) → Keeps before before → Holds w before before [] []
nobody_held w before kept = record {
  kept = kept;
  back = [];
  held_are = record { are = refl; known = tt };
  out = [];
  all = IsPermutation-append_comm [] [];
  told = tt;
  outside = tt;
}

moved : (came back out more : List Came) → IsPermutation came (back ++ out) → IsPermutation (came ++ more) ((back ++ more) ++ out)
moved came back out more is =
    let far : IsPermutation (came ++ more) ((back ++ out) ++ more) = IsPermutation-append_left more came (back ++ out) is in
    let near : IsPermutation (back ++ (out ++ more)) (back ++ (more ++ out)) = IsPermutation-append_right back (out ++ more) (more ++ out) (IsPermutation-append_comm out more) in
    subst (IsPermutation (came ++ more)) (sym (append_assoc back more out))
    (IsPermutation-trans (came ++ more) (back ++ (out ++ more)) (back ++ (more ++ out)) (subst (IsPermutation (came ++ more)) (append_assoc back out more) far) near)

-- one turn more
pub holds_more : (w : TimeWindow) (before now : Option (List ℕ)) (turns : List Turn) (came : Option Came) (ends : List Ended) (old new : List Held) → Takes came ends old new
    → Holds w before now turns old → Holds w before now (turns ++ record { came = came; ends = ends } ∷ []) new
holds_more w before now turns came ends old new takes h =
    let turn : Turn = record { came = came; ends = ends } in record {
      kept = h.kept;
      back = h.back ++ option_to_list came;
      held_are = held_then turns came ends h.back old new takes h.held_are;
      out = h.out;
      all = subst (λ (l : List Came). IsPermutation l ((h.back ++ option_to_list came) ++ map came_to h.out)) (sym (came_then turns turn)) (moved (came_by turns) h.back (map came_to h.out) (option_to_list came) h.all);
      told = subst (λ (l : List Ended). AllByRecursion (IsFate l) h.out) (sym (told_then turns turn)) (fates_more (told_by turns) ends h.out h.told);
      outside = h.outside;
    }
