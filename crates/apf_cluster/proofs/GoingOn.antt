-- The lane of a level goes on, and what its requests ask for follows.
use Rattle.std.proofs.Common.{◌≡◌, ◌∙◌, ℕ, suc, ◌*◌, List, [], ◌∷◌, ◌++◌, length, Bool, true, false, sym, ap, subst, append_assoc}
use Rattle.std.proofs.lemmas.List.{append-nil}
use Rattle.apf_times.specs.declared.window.Arrival.{Arrival}
use Rattle.apf_traces.specs.declared.request.TraceRequest.{TraceRequest}
use Rattle.apf_stream.specs.States.{State}
use Rattle.apf_stream.specs.declared.deed.NewLimit.{NewLimit}
use Rattle.apf_stream.specs.declared.ended.Ended.{Ended}
use Rattle.apf_lending.specs.declared.claim.Claim.{Claim}
use Rattle.apf_lender.specs.declared.bounds.Bounds.{Bounds}
use Rattle.apf_simulator.specs.Lanes.{GoesOn, GoesOnUnder, IsLaneUnder, LaneView}
use Rattle.apf_lender.specs.Periods.{AskingView}
use Rattle.apf_cluster_tables.specs.Limits.{limit_of}
use Rattle.apf_cluster.specs.Lending.{Adjustment, AreOver, AsksToo, ClaimsAt, IsAsked, given, greatest_set, greatest_then, least_set, least_then, period, set_limits}
use Rattle.apf_cluster.specs.Drawn.{AreDrawn, DrawsTold, HasStrip}
use Rattle.apf_cluster.specs.Late.{AreCounted, CountsTold}
use Rattle.apf_cluster.specs.Runs.{EndsOn, IsAhead, IsAlive, IsKept, IsRunning, IsSetBy, KeepsOn, RunsOn, SetsOn, TakesOn}
use Rattle.apf_cluster.specs.declared.drawn.Drawn.{Drawn}
use Rattle.apf_cluster.specs.declared.late.Late.{Late}
use Rattle.apf_cluster.specs.declared.lanes.LevelLane.{LevelLane}

-- whatever a lane was of before: these limits were set, these came more, and some were told more
abbrev pub Moves : List NewLimit → List (Arrival TraceRequest) → LaneView → LaneView → Type 0
Moves set more l l' = (under : List NewLimit) (opening : State) (came : List (Arrival TraceRequest)) (told : List Ended)
    → IsLaneUnder under opening came told l → IsLaneUnder (under ++ set) opening (came ++ more) (told ++ l'.ends) l'

pub moves_on : (more : List (Arrival TraceRequest)) (l l' : LaneView) → GoesOn more l l' → Moves [] more l l'
moves_on more l l' goes under opening came told is =
    subst (λ (u : List NewLimit). IsLaneUnder u opening (came ++ more) (told ++ l'.ends) l') (sym (append-nil under)) (goes under opening came told is)

pub moves_under : (new : NewLimit) (l l' : LaneView) → GoesOnUnder new l l' → Moves (new ∷ []) [] l l'
moves_under new l l' goes under opening came told is =
    subst (λ (c : List (Arrival TraceRequest)). IsLaneUnder (under ++ new ∷ []) opening c (told ++ l'.ends) l') (sym (append-nil came)) (goes under opening came told is)

-- whatever came and was told before: these came too
abbrev pub CountsAll : List (Arrival TraceRequest) → Late → Late → Type 0
CountsAll more l l' = (came : List (Arrival TraceRequest)) (told : List Ended) → AreCounted came told l → AreCounted (came ++ more) told l'

pub counts_nobody : (l : Late) → CountsAll [] l l
counts_nobody l came told are = subst (λ (c : List (Arrival TraceRequest)). AreCounted c told l) (sym (append-nil came)) are

-- who was told last is not counted yet
pub ahead_of : (set : List NewLimit) (more : List (Arrival TraceRequest)) (v : LevelLane) (l : LaneView) (mid : Late) → Moves set more v.lane l → CountsAll more v.late mid → IsAlive v → IsAhead l mid
ahead_of set more v l mid moves counts a = record {
  under = a.under ++ set;
  opening = a.opening;
  came = a.came ++ more;
  told = a.told;
  lane = moves a.under a.opening a.came a.told a.kept.lane;
  counted = counts a.came a.told a.kept.counted;
}

-- whatever was set before: these limits were set too
abbrev pub DrawsAll : List NewLimit → Drawn → Drawn → Type 0
DrawsAll set d d' = (first : ℕ) (under : List NewLimit) (told : List Ended) → AreDrawn first under told d → AreDrawn first (under ++ set) told d'

pub draws_none : (d : Drawn) → DrawsAll [] d d
draws_none d first under told are = subst (λ (u : List NewLimit). AreDrawn first u told d) (sym (append-nil under)) are

-- and then it is
pub keeps : (set : List NewLimit) (more : List (Arrival TraceRequest)) (v v' : LevelLane) (mid : Late) (drawn : Drawn) → Moves set more v.lane v'.lane → CountsAll more v.late mid → CountsTold v'.lane.ends mid v'.late
    → DrawsAll set v.drawn drawn → DrawsTold v'.lane.ends drawn v'.drawn → v'.nominal ≡ v.nominal → KeepsOn set more v v'
keeps set more v v' mid drawn moves counts tells sets draws nominal under opening came told k = record {
  lane = moves under opening came told k.lane;
  counted = tells (came ++ more) told (counts came told k.counted);
  drawn = subst (λ (n : ℕ). AreDrawn (limit_of n) (under ++ set) (told ++ v'.lane.ends) v'.drawn) (sym nominal) (draws (limit_of v.nominal) (under ++ set) told (sets (limit_of v.nominal) under told k.drawn));
}

pub alive_on : (set : List NewLimit) (more : List (Arrival TraceRequest)) (v v' : LevelLane) → KeepsOn set more v v' → IsAlive v → IsAlive v'
alive_on set more v v' goes a = record {
  under = a.under ++ set;
  opening = a.opening;
  came = a.came ++ more;
  told = a.told ++ v'.lane.ends;
  kept = goes a.under a.opening a.came a.told a.kept;
}

-- the rest of the level may be another
pub record IsSameLane (v v' : LevelLane) : Type 0 where
  pub lane : v'.lane ≡ v.lane
  pub late : v'.late ≡ v.late
  pub drawn : v'.drawn ≡ v.drawn
  pub nominal : v'.nominal ≡ v.nominal

pub kept_too : (under : List NewLimit) (opening : State) (came : List (Arrival TraceRequest)) (told : List Ended) (v v' : LevelLane) → IsSameLane v v' → IsKept under opening came told v → IsKept under opening came told v'
kept_too under opening came told v v' same k = record {
  lane = subst (λ (l : LaneView). IsLaneUnder under opening came told l) (sym same.lane) k.lane;
  counted = subst (λ (l : Late). AreCounted came told l) (sym same.late) k.counted;
  drawn = subst (λ (n : ℕ). AreDrawn (limit_of n) under told v'.drawn) (sym same.nominal) (subst (λ (d : Drawn). AreDrawn (limit_of v.nominal) under told d) (sym same.drawn) k.drawn);
}

pub alive_too : (v v' : LevelLane) → IsSameLane v v' → IsAlive v → IsAlive v'
alive_too v v' same a = record { under = a.under; opening = a.opening; came = a.came; told = a.told; kept = kept_too a.under a.opening a.came a.told v v' same a.kept }

-- all that was due was carried out
pub runs_on : (v v' : LevelLane) → KeepsOn [] [] v v' → AreOver v'.lane.ends v.asking v'.asking → RunsOn v v'
runs_on v v' goes over under i b past opening came told r = (
  v'.lane.ends,
  record {
    kept = subst (λ (u : List NewLimit). IsKept u opening came (told ++ v'.lane.ends) v') (append-nil under)
        (subst (λ (c : List (Arrival TraceRequest)). IsKept (under ++ []) opening c (told ++ v'.lane.ends) v') (append-nil came) (goes under opening came told r.kept));
    asked = over i b past came told r.asked;
  },
)

-- a request came
pub takes_on : (x : Arrival TraceRequest) (v v' : LevelLane) (mid : AskingView) → AsksToo x v.asking mid → KeepsOn [] (x ∷ []) v v' → AreOver v'.lane.ends mid v'.asking → TakesOn x v v'
takes_on x v v' mid asks goes over under i b past opening came told r = (
  v'.lane.ends,
  record {
    kept = subst (λ (u : List NewLimit). IsKept u opening (came ++ x ∷ []) (told ++ v'.lane.ends) v') (append-nil under) (goes under opening came told r.kept);
    asked = over i b past (came ++ x ∷ []) told (asks i b past came told r.asked);
  },
)

-- all that was due was carried out, and then a request came; the rest of the level may be another
pub takes_then : (x : Arrival TraceRequest) (v mid v' last : LevelLane) → RunsOn v mid → TakesOn x mid v' → IsSameLane v' last → last.asking ≡ v'.asking → TakesOn x v last
takes_then x v mid v' last runs takes same asking under i b past opening came told r =
    let first = runs under i b past opening came told r in
    let second = takes under i b past opening came (told ++ first.0) first.1 in
    let done : IsRunning under i b past opening (came ++ x ∷ []) (told ++ (first.0 ++ second.0)) v' =
    subst (λ (l : List Ended). IsRunning under i b past opening (came ++ x ∷ []) l v') (append_assoc told first.0 second.0) second.1 in (
      first.0 ++ second.0,
      record {
        kept = kept_too under opening (came ++ x ∷ []) (told ++ (first.0 ++ second.0)) v' last same done.kept;
        asked = subst (λ (a : AskingView). IsAsked i b past (came ++ x ∷ []) (told ++ (first.0 ++ second.0)) a) (sym asking) done.asked;
      },
    )

-- all that was due was carried out, and then the period ended
pub ends_on : (at : ℕ) (claim : Claim) (v mid v' : LevelLane) → RunsOn v mid → IsSameLane mid v' → ClaimsAt at claim mid.asking v'.asking → EndsOn at claim v v'
ends_on at claim v mid v' runs same claims under i b past opening came told a r is here =
    let first = runs under i b past opening came told r in (
      first.0,
      record {
        kept = kept_too under opening came (told ++ first.0) mid v' same first.1.kept;
        asked = claims i b past came (told ++ first.0) a first.1.asked is here;
      },
    )

-- the limit was set
pub sets_on : (new : NewLimit) (v v' : LevelLane) → KeepsOn (new ∷ []) [] v v' → AreOver v'.lane.ends v.asking v'.asking → SetsOn new v v'
sets_on new v v' goes over under i b past opening came told r = (
  v'.lane.ends,
  record {
    kept = subst (λ (c : List (Arrival TraceRequest)). IsKept (under ++ new ∷ []) opening c (told ++ v'.lane.ends) v') (append-nil came) (goes under opening came told r.kept);
    asked = over i b past came told r.asked;
  },
)

-- ---- one adjustment more

-- it is set its limit by the adjustment, if it is lent seats
pub set_more : (b : Bool) (i : ℕ) (bounds : Bounds) (a : Adjustment) (past : List Adjustment) (at : ℕ) (opening : State) (came : List (Arrival TraceRequest)) (told : List Ended) (v v' : LevelLane)
    → at ≡ period * suc (length past) → IsSetBy b (record { at = at; limit = given i a }) v v' → IsRunning (set_limits b i past) i bounds (a ∷ past) opening came told v
    → (more : List Ended) × IsRunning (set_limits b i (a ∷ past)) i bounds (a ∷ past) opening came (told ++ more) v'
set_more false i bounds a past at opening came told v v' is set r =
    ([], subst (λ (l : List Ended). IsRunning [] i bounds (a ∷ past) opening came l v') (sym (append-nil told)) (subst (λ (x : LevelLane). IsRunning [] i bounds (a ∷ past) opening came told x) (sym set) r))
set_more true i bounds a past at opening came told v v' is set r =
    let done = set.goes (set_limits true i past) i bounds (a ∷ past) opening came told r in
    (done.0, subst (λ (n : ℕ). IsRunning (set_limits true i past ++ record { at = n; limit = given i a } ∷ []) i bounds (a ∷ past) opening came (told ++ done.0) v') is done.1)

pub least_more : (b : Bool) (since i at first : ℕ) (a : Adjustment) (past : List Adjustment) (v v' : LevelLane) → at ≡ period * suc (length past) → v.late.since ≡ since → IsSetBy b (record { at = at; limit = given i a }) v v'
    → v.least ≡ least_set b since i first past → v'.least ≡ least_set b since i first (a ∷ past)
least_more false since i at first a past v v' is from set least = ap (λ (x : LevelLane). x.least) set ∙ least
least_more true since i at first a past v v' is from set least =
    set.least ∙ (ap (λ (n : ℕ). least_then n at (given i a) v.least) from ∙ (ap (λ (n : ℕ). least_then since n (given i a) v.least) is ∙ ap (least_then since (period * suc (length past)) (given i a)) least))

pub greatest_more : (b : Bool) (since i at first : ℕ) (a : Adjustment) (past : List Adjustment) (v v' : LevelLane) → at ≡ period * suc (length past) → v.late.since ≡ since → IsSetBy b (record { at = at; limit = given i a }) v v'
    → v.greatest ≡ greatest_set b since i first past → v'.greatest ≡ greatest_set b since i first (a ∷ past)
greatest_more false since i at first a past v v' is from set greatest = ap (λ (x : LevelLane). x.greatest) set ∙ greatest
greatest_more true since i at first a past v v' is from set greatest =
    set.greatest ∙ (ap (λ (n : ℕ). greatest_then n at (given i a) v.greatest) from ∙ (ap (λ (n : ℕ). greatest_then since n (given i a) v.greatest) is ∙ ap (greatest_then since (period * suc (length past)) (given i a)) greatest))

-- what setting a limit leaves
pub lent_stays : (b : Bool) (new : NewLimit) (v v' : LevelLane) → IsSetBy b new v v' → v'.is_lent ≡ v.is_lent
lent_stays false new v v' set = ap (λ (x : LevelLane). x.is_lent) set
lent_stays true new v v' set = set.lent

pub since_stays : (b : Bool) (new : NewLimit) (v v' : LevelLane) → IsSetBy b new v v' → v'.late.since ≡ v.late.since
since_stays false new v v' set = ap (λ (x : LevelLane). x.late.since) set
since_stays true new v v' set = set.since

pub nominal_stays : (b : Bool) (new : NewLimit) (v v' : LevelLane) → IsSetBy b new v v' → v'.nominal ≡ v.nominal
nominal_stays false new v v' set = ap (λ (x : LevelLane). x.nominal) set
nominal_stays true new v v' set = set.nominal

pub turned_away_stays : (b : Bool) (new : NewLimit) (v v' : LevelLane) → IsSetBy b new v v' → v'.turned_away ≡ v.turned_away
turned_away_stays false new v v' set = ap (λ (x : LevelLane). x.turned_away) set
turned_away_stays true new v v' set = set.turned_away

pub draws_stays : (b : Bool) (new : NewLimit) (draws : Bool) (v v' : LevelLane) → IsSetBy b new v v' → HasStrip draws v.drawn.strip → HasStrip draws v'.drawn.strip
draws_stays false new draws v v' set has = subst (λ (x : LevelLane). HasStrip draws x.drawn.strip) (sym set) has
draws_stays true new draws v v' set has = set.draws draws has
