-- Runs that follow one another.
use Rattle.std.proofs.Common.{◌≡◌, List, [], ◌∷◌, ◌++◌, refl, sym, ap, ◌∙◌, subst, append_assoc}
use Rattle.std.proofs.lemmas.List.{append-nil}
use Rattle.apf_stream.specs.declared.asked.Asked.{Asked}
use Rattle.apf_stream.specs.declared.deed.Deed.{Deed}
use Rattle.apf_stream.specs.declared.deed.Deed.TheVariants.{Arrive, Finish, GiveUp, Read, SetLimit}
use Rattle.apf_stream.specs.declared.deed.NewLimit.{NewLimit}
use Rattle.apf_stream.specs.declared.ended.Ended.{Ended}
use Rattle.apf_stream.specs.Deeds.{IsDeed}
use Rattle.apf_stream.specs.Runs.{HasRun, HasRunUnder, IsRun, arrivals, limits}
use Rattle.apf_stream.specs.States.{State}

run_then : (ds es : List Deed) (a b c : State) (told more : List Ended) → IsRun ds a b told → IsRun es b c more → IsRun (ds ++ es) a c (told ++ more)
run_then [] es a b c told more first second = subst (λ (s : State). IsRun es s c (told ++ more)) first.0 (subst (λ (t : List Ended). IsRun es b c (t ++ more)) (sym first.1) second)
run_then (d ∷ ds) es a b c told more first second =
    (first.0, first.1, first.2 ++ more, first.3, run_then ds es first.0 b c first.2 more first.4 second, ap (λ (t : List Ended). t ++ more) first.5 ∙ append_assoc first.1 first.2 more)

pub came_then : (ds es : List Deed) → arrivals (ds ++ es) ≡ arrivals ds ++ arrivals es
came_then [] es = refl
came_then (Arrive slot a ∷ ds) es = ap (λ (l : List Asked). a ∷ l) (came_then ds es)
came_then (Finish c ∷ ds) es = came_then ds es
came_then (GiveUp c ∷ ds) es = came_then ds es
came_then (Read slot ∷ ds) es = came_then ds es
came_then (SetLimit n ∷ ds) es = came_then ds es

pub limits_then : (ds es : List Deed) → limits (ds ++ es) ≡ limits ds ++ limits es
limits_then [] es = refl
limits_then (Arrive slot a ∷ ds) es = limits_then ds es
limits_then (Finish c ∷ ds) es = limits_then ds es
limits_then (GiveUp c ∷ ds) es = limits_then ds es
limits_then (Read slot ∷ ds) es = limits_then ds es
limits_then (SetLimit n ∷ ds) es = ap (λ (l : List NewLimit). n ∷ l) (limits_then ds es)

-- nothing was done
pub ran_none : (s : State) (told : List Ended) → HasRun [] s told s told
ran_none s told = record { deeds = []; told = []; run = (refl, refl); came_are = refl; limits_are = refl; told_are = sym (append-nil told) }

pub ran_under : (under further : List NewLimit) (came more : List Asked) (a b c : State) (first second third : List Ended) → HasRunUnder under came a first b second → HasRunUnder further more b second c third → HasRunUnder (under ++ further) (came ++ more) a first c third
ran_under under further came more a b c first second third x y = record {
  deeds = x.deeds ++ y.deeds;
  told = x.told ++ y.told;
  run = run_then x.deeds y.deeds a b c x.told y.told x.run y.run;
  came_are = came_then x.deeds y.deeds ∙ ap (λ (l : List Asked). l ++ arrivals y.deeds) x.came_are ∙ ap (λ (l : List Asked). came ++ l) y.came_are;
  limits_are = limits_then x.deeds y.deeds ∙ ap (λ (l : List NewLimit). l ++ limits y.deeds) x.limits_are ∙ ap (λ (l : List NewLimit). under ++ l) y.limits_are;
  told_are = y.told_are ∙ ap (λ (l : List Ended). l ++ y.told) x.told_are ∙ append_assoc first x.told y.told;
}

-- the limit stayed
pub ran_then : (came more : List Asked) (a b c : State) (first second third : List Ended) → HasRun came a first b second → HasRun more b second c third → HasRun (came ++ more) a first c third
ran_then came more a b c first second third x y = ran_under [] [] came more a b c first second third x y

-- one deed was done
pub ran_one : (d : Deed) (s s' : State) (before told after : List Ended) → IsDeed d s s' told → after ≡ before ++ told → HasRunUnder (limits (d ∷ [])) (arrivals (d ∷ [])) s before s' after
ran_one d s s' before told after is told_are = record {
  deeds = d ∷ [];
  told = told;
  run = (s', told, [], is, (refl, refl), sym (append-nil told));
  came_are = refl;
  limits_are = refl;
  told_are = told_are;
}
