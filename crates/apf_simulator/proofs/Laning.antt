-- Lanes that go on.
use Rattle.std.proofs.Common.{◌≡◌, ℕ, zero, suc, List, [], ◌∷◌, ◌++◌, length, map, Option, Some, None, refl, sym, ap, ◌∙◌, subst}
use Rattle.std.specs.Prelude.{replicate, slice_get}
use Rattle.std.specs.List.{AllByRecursion}
use Rattle.std.proofs.lemmas.List.{append-nil, map-append}
use Rattle.apf_calendar.specs.declared.guest.Guest.{Guest}
use Rattle.apf_times.specs.declared.window.Arrival.{Arrival}
use Rattle.apf_traces.specs.declared.request.TraceRequest.{TraceRequest}
use Rattle.apf_stream.specs.declared.asked.Asked.{Asked}
use Rattle.apf_stream.specs.declared.deed.NewLimit.{NewLimit}
use Rattle.apf_stream.specs.declared.ended.Ended.{Ended}
use Rattle.apf_stream.specs.Runs.{AreOf, HasRun, HasRunUnder, IsRun}
use Rattle.apf_stream.specs.States.{IsAsked, State}
use Rattle.apf_stream.specs.Ties.{AreTied}
use Rattle.apf_rows.specs.Rows.{AreRows, HaveMet, RowsView}
use Rattle.apf_simulator.specs.Lanes.{IsLaneUnder, IsTold, LaneView, asked_by}

abbrev pub Came : Type 0
Came = Arrival TraceRequest

abbrev pub nobody : Option Guest
nobody = None

nobody_in : (n i : ℕ) (g : Guest) → slice_get (replicate n nobody) i ≡ Some (Some g) → ⊥
nobody_in zero i g is = let e : ◌≡◌ {A = Option (Option Guest)} None (Some (Some g)) = is in absurd (cc)
nobody_in (suc n) zero g is = let e : ◌≡◌ {A = Option (Option Guest)} (Some nobody) (Some (Some g)) = is in absurd (cc)
nobody_in (suc n) (suc i) g is = nobody_in n i g is

pub nobody_of : (s : State) (n : ℕ) → s.slots.slots ≡ replicate n nobody → AreOf [] s
nobody_of s n is i g h here noted = absurd (nobody_in n i g (ap (λ (l : List (Option Guest)). slice_get l i) (sym is) ∙ here))

pub ran_none : (s : State) → HasRun [] s [] s []
ran_none s = record { deeds = []; told = []; run = (refl, refl); came_are = refl; limits_are = refl; told_are = refl }

-- what is told behind what was told before
pub told_behind : (under : List NewLimit) (came : List Asked) (s s' : State) (told ends : List Ended) → HasRunUnder under came s [] s' ends → HasRunUnder under came s told s' (told ++ ends)
told_behind under came s s' told ends r = record {
  deeds = r.deeds;
  told = ends;
  run = subst (λ (t : List Ended). IsRun r.deeds s s' t) (sym r.told_are) r.run;
  came_are = r.came_are;
  limits_are = r.limits_are;
  told_are = refl;
}

all_then : (xs ys : List Asked) → AllByRecursion IsAsked xs → AllByRecursion IsAsked ys → AllByRecursion IsAsked (xs ++ ys)
all_then [] ys a b = b
all_then (x ∷ xs) ys a b = (a.0, all_then xs ys a.1 b)

-- runs that follow one another
abbrev pub RunsGoOn : Type 0
RunsGoOn = (under further : List NewLimit) (came more : List Asked) (a b c : State) (first second third : List Ended) → HasRunUnder under came a first b second → HasRunUnder further more b second c third
    → HasRunUnder (under ++ further) (came ++ more) a first c third

module _ (goes : RunsGoOn) (under further : List NewLimit) (opening : State) (came more : List Came) (told ends : List Ended) (v : LaneView) (s' : State) (lane : IsLaneUnder under opening came told v)
    (run : HasRunUnder further (map asked_by more) v.state [] s' ends) (asked : AllByRecursion IsAsked (map asked_by more)) where
  more_run : HasRunUnder (under ++ further) (map asked_by (came ++ more)) opening [] s' (told ++ ends)
  more_run =
      subst (λ (l : List Asked). HasRunUnder (under ++ further) l opening [] s' (told ++ ends)) (sym (map-append asked_by came more))
      (goes under further (map asked_by came) (map asked_by more) opening v.state s' [] told (told ++ ends) lane.run (told_behind further (map asked_by more) v.state s' told ends run))

  more_asked : AllByRecursion IsAsked (map asked_by (came ++ more))
  more_asked = subst (AllByRecursion IsAsked) (sym (map-append asked_by came more)) (all_then (map asked_by came) (map asked_by more) lane.asked asked)

  pub is_told : (w : RowsView) → HaveMet (came ++ more) w → IsTold s' w ends
  is_told w met = record { under = under ++ further; opening = opening; came = came ++ more; told = told; tied = lane.tied; nobody = lane.nobody; run = more_run; asked = more_asked; met = met }

  pub lane_under : (w : RowsView) (number : ℕ) → AreTied s' → HaveMet (came ++ more) w → AreRows (told ++ ends) w → number ≡ length (came ++ more) → IsLaneUnder (under ++ further) opening (came ++ more) (told ++ ends) (record { state = s'; rows = w; ends = ends; came = number })
  lane_under w number still met are is = record { tied = lane.tied; nobody = lane.nobody; run = more_run; still = still; asked = more_asked; met = met; are = are; number = is }

-- the limit stayed
pub lane_goes : (goes : RunsGoOn) (under : List NewLimit) (opening : State) (came more : List Came) (told ends : List Ended) (v : LaneView) (s' : State) → IsLaneUnder under opening came told v
    → HasRun (map asked_by more) v.state [] s' ends → AllByRecursion IsAsked (map asked_by more) → (w : RowsView) (number : ℕ) → AreTied s' → HaveMet (came ++ more) w → AreRows (told ++ ends) w → number ≡ length (came ++ more)
    → IsLaneUnder under opening (came ++ more) (told ++ ends) (record { state = s'; rows = w; ends = ends; came = number })
lane_goes goes under opening came more told ends v s' lane run asked w number still met are is =
    subst (λ (l : List NewLimit). IsLaneUnder l opening (came ++ more) (told ++ ends) (record { state = s'; rows = w; ends = ends; came = number })) (append-nil under)
    (lane_under goes under [] opening came more told ends v s' lane run asked w number still met are is)

-- the run of one that came, or of nobody
pub one_run : (x : Came) (a : Asked) (s s' : State) (before ends : List Ended) → a ≡ asked_by x → before ≡ [] → HasRun (a ∷ []) s before s' ends → HasRun (map asked_by (x ∷ [])) s [] s' ends
one_run x a s s' before ends is none run = subst (λ (b : Asked). HasRun (b ∷ []) s [] s' ends) is (subst (λ (l : List Ended). HasRun (a ∷ []) s l s' ends) none run)

pub one_asked : (x : Came) (a : Asked) → a ≡ asked_by x → IsAsked a → AllByRecursion IsAsked (map asked_by (x ∷ []))
one_asked x a is range = (subst IsAsked is range, tt)

abbrev pub none : List Came
none = []

pub none_run : (under : List NewLimit) (s s' : State) (before ends : List Ended) → before ≡ [] → HasRunUnder under [] s before s' ends → HasRunUnder under (map asked_by none) s [] s' ends
none_run under s s' before ends is run = subst (λ (l : List Ended). HasRunUnder under [] s l s' ends) is run

-- of who has met nobody more
pub still_met : (came : List Came) (w : RowsView) → HaveMet came w → HaveMet (came ++ none) w
still_met came w met = subst (λ (l : List Came). HaveMet l w) (sym (append-nil came)) met
