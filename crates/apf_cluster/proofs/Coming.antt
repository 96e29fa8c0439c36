-- One event more: its request came to the lane of its level, and the other lanes stay as they were.
use Rattle.std.proofs.Common.{◌≡◌, ◌≢◌, ◌∙◌, ℕ, suc, ◌+◌, ◌-◌, ◌*◌, length, List, [], ◌∷◌, ◌++◌, map, Bool, true, false, cond, Option, Some, refl, sym, ap, subst, arith}
use Rattle.std.specs.Prelude.{count_by, slice_get}
use Rattle.std.proofs.lemmas.Bool.{ne_eqb, eq-eqb}
use Rattle.std.proofs.lemmas.List.{append-nil, map_push}
use Rattle.std.proofs.lemmas.List.Elements.{filter-append}
use Rattle.apf_times.specs.declared.window.Arrival.{Arrival}
use Rattle.apf_traces.specs.declared.request.TraceRequest.{TraceRequest}
use Rattle.apf_objects.specs.Cluster.{ClusterSaid}
use Rattle.apf_objects.specs.Levels.{LevelSaid}
use Rattle.apf_audit.specs.AuditEvent.{Event}
use Rattle.apf_stream.specs.declared.deed.NewLimit.{NewLimit}
use Rattle.apf_lending.specs.declared.claim.Claim.{Claim}
use Rattle.apf_rows.specs.Tables.{IsTable}
use Rattle.apf_cluster_tables.specs.declared.level_table.LevelTable.{LevelTable}
use Rattle.apf_cluster_tables.specs.Limits.{limit_of}
use Rattle.apf_cluster.specs.Drawn.{IsStripBy}
use Rattle.apf_cluster.specs.Late.{came_from, is_counted, told_from}
use Rattle.apf_cluster.specs.Lending.{Adjustment, IsAdjustment, given, greatest_set, least_set, period, set_limits}
use Rattle.apf_cluster.specs.Requests.{Said, is_place, level_of, of_level, request_of, said}
use Rattle.apf_cluster.specs.Runs.{AreEnded, AreSameLimits, AreSet, Course, EndsOn, HasCome, HaveCome, IsClosed, IsLevelTable, IsOfLevel, IsOpenedLane, HaveGoneOn, IsRunning, IsSetBy, Reaches, RunsOn, TakesOn, TakesOne, ZipFrom, all_of, bounds_in, is_lent, nominal_of_all, seats_of, sum_of_limits, was_refused}
use Rattle.apf_cluster.specs.declared.lanes.LevelLane.{LevelLane}
use Rattle.apf_cluster.proofs.Asked.{new_asked}
use Rattle.apf_cluster.proofs.GoingOn.{draws_stays, greatest_more, least_more, lent_stays, nominal_stays, set_more, since_stays, turned_away_stays}
use Rattle.apf_cluster.proofs.Zips.{at_place, count_then, get_as_well, long, step_from}

abbrev pub Came : Type 0
Came = Arrival TraceRequest

-- of which level one more is
more_of : (c : ClusterSaid) (i : ℕ) (told : List Event) (e : Event) → of_level c i (told ++ e ∷ []) ≡ of_level c i told ++ cond (is_place (level_of c e) i) (e ∷ []) []
more_of c i told e = filter-append (λ (x : Event). is_place (level_of c x) i) told (e ∷ [])

here : (c : ClusterSaid) (i : ℕ) (told : List Event) (e : Event) → level_of c e ≡ Some i → of_level c i (told ++ e ∷ []) ≡ of_level c i told ++ e ∷ []
here c i told e is =
    more_of c i told e ∙ ap (λ (b : Bool). of_level c i told ++ cond b (e ∷ []) []) (ap (λ (o : Option ℕ). is_place o i) is ∙ eq-eqb i i refl)

elsewhere : (c : ClusterSaid) (g i : ℕ) (told : List Event) (e : Event) → level_of c e ≡ Some g → i ≢ g → of_level c i (told ++ e ∷ []) ≡ of_level c i told
elsewhere c g i told e is differs =
    more_of c i told e ∙ (ap (λ (b : Bool). of_level c i told ++ cond b (e ∷ []) []) (ap (λ (o : Option ℕ). is_place o i) is ∙ ne_eqb g i (λ same. differs (sym same))) ∙ append-nil (of_level c i told))

-- nobody came yet
none_set : (b : Bool) (i : ℕ) → set_limits b i [] ≡ []
none_set false i = refl
none_set true i = refl

first_least : (b : Bool) (since i first : ℕ) → least_set b since i first [] ≡ first
first_least false since i first = refl
first_least true since i first = refl

first_greatest : (b : Bool) (since i first : ℕ) → greatest_set b since i first [] ≡ first
first_greatest false since i first = refl
first_greatest true since i first = refl

pub opened : (w : Course) (i : ℕ) (l : LevelSaid) (v : LevelLane) → IsOpenedLane w.terms w.fixed (all_of w) l v → HasCome w [] [] i l v
opened w i l v o =
    let b = is_lent w.terms l in
    record {
      opening = v.lane.state;
      opened = o.opened;
      came = [];
      out = [];
      runs = subst (λ (under : List NewLimit). IsRunning under i (bounds_in w.terms w.fixed (all_of w) l) [] v.lane.state [] [] v) (sym (none_set b i)) (record { kept = record { lane = o.nobody; counted = o.counted; drawn = o.drawn }; asked = new_asked i (bounds_in w.terms w.fixed (all_of w) l) v.asking o.asks });
      are = refl;
      lent = o.lent;
      since = o.since;
      draws = o.draws;
      nominal = o.nominal;
      least = o.least ∙ sym (first_least b w.terms.since i _);
      greatest = o.greatest ∙ sym (first_greatest b w.terms.since i _);
      turned_away = o.none;
    }

-- when it comes
arrives : (w : Course) (e : Event) (x : Came) → said x ≡ request_of w.cluster w.start e → x.item.arrives_at ≡ e.received - w.start
arrives w e x is = ap (λ (s : Said). s.entry.arrives_at) is

refused_more : (w : Course) (e : Event) (x : Came) (v v' : LevelLane) → said x ≡ request_of w.cluster w.start e → v.late.since ≡ w.terms.since
    → v'.turned_away ≡ v.turned_away + cond (is_counted v.late.since e.turned_away x.item.arrives_at) 1 0 → v'.turned_away ≡ v.turned_away + cond (was_refused w e) 1 0
refused_more w e x v v' asks from counted =
    counted ∙ (ap (λ (n : ℕ). v.turned_away + cond (is_counted n e.turned_away x.item.arrives_at) 1 0) from ∙ ap (λ (n : ℕ). v.turned_away + cond (is_counted w.terms.since e.turned_away n) 1 0) (arrives w e x asks))

-- the request came to its lane
came_here : (w : Course) (told : List Event) (past : List Adjustment) (e : Event) (g : ℕ) (l : LevelSaid) (x : Came) (v v' : LevelLane)
    → level_of w.cluster e ≡ Some g → said x ≡ request_of w.cluster w.start e → TakesOn x v v' → AreSameLimits v v'
    → v'.turned_away ≡ v.turned_away + cond (is_counted v.late.since e.turned_away x.item.arrives_at) 1 0 → HasCome w told past g l v → HasCome w (told ++ e ∷ []) past g l v'
came_here w told past e g l x v v' is asks goes same counted h =
    let more = here w.cluster g told e is in
    let req = request_of w.cluster w.start in
    let ran = goes (set_limits (is_lent w.terms l) g past) g (bounds_in w.terms w.fixed (all_of w) l) past h.opening h.came h.out h.runs in
    record {
      opening = h.opening;
      opened = h.opened;
      came = h.came ++ x ∷ [];
      out = h.out ++ ran.0;
      runs = ran.1;
      are = map_push said h.came x ∙ (ap (λ (s : Said). map said h.came ++ s ∷ []) asks ∙ (ap (λ (l : List Said). l ++ req e ∷ []) h.are ∙ (sym (map_push req (of_level w.cluster g told) e) ∙ ap (map req) (sym more))));
      lent = same.lent ∙ h.lent;
      since = same.since ∙ h.since;
      draws = same.draws w.terms.draws h.draws;
      nominal = same.nominal ∙ h.nominal;
      least = same.least ∙ h.least;
      greatest = same.greatest ∙ h.greatest;
      turned_away = refused_more w e x v v' asks h.since counted
          ∙ (ap (λ (n : ℕ). n + cond (was_refused w e) 1 0) h.turned_away ∙ (sym (count_then (was_refused w) (of_level w.cluster g told) e) ∙ ap (count_by (was_refused w)) (sym more)));
    }

-- it came to another one
stays : (w : Course) (told : List Event) (past : List Adjustment) (e : Event) (g i : ℕ) (l : LevelSaid) (v : LevelLane) → level_of w.cluster e ≡ Some g → i ≢ g → HasCome w told past i l v → HasCome w (told ++ e ∷ []) past i l v
stays w told past e g i l v is differs h =
    let same = sym (elsewhere w.cluster g i told e is differs) in
    record {
      opening = h.opening;
      opened = h.opened;
      came = h.came;
      out = h.out;
      runs = h.runs;
      are = h.are ∙ ap (map (request_of w.cluster w.start)) same;
      lent = h.lent;
      since = h.since;
      draws = h.draws;
      nominal = h.nominal;
      least = h.least;
      greatest = h.greatest;
      turned_away = h.turned_away ∙ ap (count_by (was_refused w)) same;
    }

pub one_more : (w : Course) (told : List Event) (e : Event) (lanes lanes' : List LevelLane) (periods : ℕ) → TakesOne w.cluster w.start e lanes lanes' → Reaches w told lanes periods → Reaches w (told ++ e ∷ []) lanes' periods
one_more w told e lanes lanes' periods t r =
    let g = t.goes in
    let past = r.adjustments in
    record {
      adjustments = past;
      many = r.many;
      divided = r.divided;
      come = subst (λ (ls : List LevelLane). HaveCome w (told ++ e ∷ []) past ls) (sym g.is)
          (at_place (HasCome w told past) (HasCome w (told ++ e ∷ []) past) t.place g.before g.after
          (λ l is. came_here w told past e t.place l t.came g.before g.after t.level t.is g.goes g.same g.counted is)
          (λ i l v differs is. stays w told past e t.place i l v t.level differs is)
          0 t.place w.cluster.levels lanes (omega arith) g.there r.come);
    }

-- ---- the lanes go on

-- some were told more
went_on : (w : Course) (told : List Event) (past : List Adjustment) (i : ℕ) (l : LevelSaid) (v v' : LevelLane) → RunsOn v v' → IsOfLevel v v' → HasCome w told past i l v → HasCome w told past i l v'
went_on w told past i l v v' runs same h =
    let ran = runs (set_limits (is_lent w.terms l) i past) i (bounds_in w.terms w.fixed (all_of w) l) past h.opening h.came h.out h.runs in
    record {
      opening = h.opening;
      opened = h.opened;
      came = h.came;
      out = h.out ++ ran.0;
      runs = ran.1;
      are = h.are;
      lent = same.limits.lent ∙ h.lent;
      since = same.limits.since ∙ h.since;
      draws = same.limits.draws w.terms.draws h.draws;
      nominal = same.limits.nominal ∙ h.nominal;
      least = same.limits.least ∙ h.least;
      greatest = same.limits.greatest ∙ h.greatest;
      turned_away = same.turned_away ∙ h.turned_away;
    }

pub all_went_on : (w : Course) (told : List Event) (periods : ℕ) (lanes lanes' : List LevelLane) → HaveGoneOn lanes lanes' → Reaches w told lanes periods → Reaches w told lanes' periods
all_went_on w told periods lanes lanes' gone r =
    let past = r.adjustments in
    record {
      adjustments = past;
      many = r.many;
      divided = r.divided;
      come = step_from (HasCome w told past) (λ i v v'. RunsOn v v' × IsOfLevel v v') (HasCome w told past) (λ i l v v' h d. went_on w told past i l v v' d.0 d.1 h)
          0 w.cluster.levels lanes lanes' gone.still (λ p v v' here there. gone.each p v v' here there) r.come;
    }

-- ---- one period more

-- the lanes have the nominal limits of their levels
nominal_is : (w : Course) (told : List Event) (past : List Adjustment) (i : ℕ) (levels : List LevelSaid) (lanes : List LevelLane) → ZipFrom (HasCome w told past) i levels lanes → nominal_of_all lanes ≡ sum_of_limits w.terms w.fixed (all_of w) levels
nominal_is w told past i [] [] h = refl
nominal_is w told past i [] (v ∷ lanes) h = absurd h
nominal_is w told past i (l ∷ levels) [] h = absurd h
nominal_is w told past i (l ∷ levels) (v ∷ lanes) h = let here = h.0.nominal in let rest = nominal_is w told past (suc i) levels lanes h.1 in omega (arith, here, rest)

-- the period of a level ended, and it was set its limit
adjusted_one : (w : Course) (told : List Event) (a : Adjustment) (past : List Adjustment) (at i : ℕ) (l : LevelSaid) (claim : Claim) (v mid v' : LevelLane) → at ≡ period * suc (length past) → slice_get a.claims i ≡ Some claim
    → EndsOn at claim v mid → IsOfLevel v mid → IsSetBy mid.is_lent (record { at = at; limit = given i a }) mid v' → HasCome w told past i l v → HasCome w told (a ∷ past) i l v'
adjusted_one w told a past at i l claim v mid v' is here ends same set h =
    let b = is_lent w.terms l in
    let bounds = bounds_in w.terms w.fixed (all_of w) l in
    let lent : mid.is_lent ≡ b = same.limits.lent ∙ h.lent in
    let from : mid.late.since ≡ w.terms.since = same.limits.since ∙ h.since in
    let set_by : IsSetBy b (record { at = at; limit = given i a }) mid v' = subst (λ (x : Bool). IsSetBy x (record { at = at; limit = given i a }) mid v') lent set in
    let ended = ends (set_limits b i past) i bounds past h.opening h.came h.out a h.runs is here in
    let done = set_more b i bounds a past at h.opening h.came (h.out ++ ended.0) mid v' is set_by ended.1 in
    record {
      opening = h.opening;
      opened = h.opened;
      came = h.came;
      out = (h.out ++ ended.0) ++ done.0;
      runs = done.1;
      are = h.are;
      lent = lent_stays b _ mid v' set_by ∙ lent;
      since = since_stays b _ mid v' set_by ∙ from;
      draws = draws_stays b _ w.terms.draws mid v' set_by (same.limits.draws w.terms.draws h.draws);
      nominal = nominal_stays b _ mid v' set_by ∙ (same.limits.nominal ∙ h.nominal);
      least = least_more b w.terms.since i at _ a past mid v' is from set_by (same.limits.least ∙ h.least);
      greatest = greatest_more b w.terms.since i at _ a past mid v' is from set_by (same.limits.greatest ∙ h.greatest);
      turned_away = turned_away_stays b _ mid v' set_by ∙ (same.turned_away ∙ h.turned_away);
    }

-- what was done with a lane at the end of a period
record Adjusted (a : Adjustment) (at i : ℕ) (v v' : LevelLane) : Type 0 where
  claim : Claim
  here : slice_get a.claims i ≡ Some claim
  mid : LevelLane
  ends : EndsOn at claim v mid
  same : IsOfLevel v mid
  set_by : IsSetBy mid.is_lent (record { at = at; limit = given i a }) mid v'

done_at : (a : Adjustment) (at : ℕ) (lanes mids lanes' : List LevelLane) → AreEnded at lanes mids a.claims → AreSet at a.limits mids lanes'
    → (p : ℕ) (v v' : LevelLane) → slice_get lanes p ≡ Some v → slice_get lanes' p ≡ Some v' → Adjusted a at p v v'
done_at a at lanes mids lanes' ended done p v v' here there =
    let mid = get_as_well lanes mids p v (sym ended.still) here in
    let e = ended.each p v mid.0 here mid.1 in
    record { claim = e.0; here = e.1; mid = mid.0; ends = e.2; same = e.3; set_by = done.each p mid.0 v' mid.1 there }

pub adjusted : (w : Course) (told : List Event) (a : Adjustment) (at periods : ℕ) (lanes mids lanes' : List LevelLane) → at ≡ period * suc periods → AreEnded at lanes mids a.claims → AreSet at a.limits mids lanes'
    → ((seats levels : ℕ) → seats ≡ nominal_of_all lanes → levels ≡ length lanes → IsAdjustment seats levels a) → Reaches w told lanes periods → Reaches w told lanes' (suc periods)
adjusted w told a at periods lanes mids lanes' is ended done divided r =
    let past = r.adjustments in
    record {
      adjustments = a ∷ past;
      many = ap suc r.many;
      divided = (divided (seats_of w) (length w.cluster.levels) (sym (nominal_is w told past 0 w.cluster.levels lanes r.come)) (sym (long (HasCome w told past) 0 w.cluster.levels lanes r.come)), r.divided);
      come = step_from (HasCome w told past) (λ i v v'. Adjusted a at i v v') (HasCome w told (a ∷ past))
          (λ i l v v' h d. adjusted_one w told a past at i l d.claim v d.mid v' (is ∙ ap (λ (n : ℕ). period * suc n) (sym r.many)) d.here d.ends d.same d.set_by h)
          0 w.cluster.levels lanes lanes' (done.still ∙ ended.still) (λ p v v' here there. let same : p ≡ 0 + p = omega arith in subst (λ (n : ℕ). Adjusted a at n v v') same (done_at a at lanes mids lanes' ended done p v v' here there)) r.come;
    }

-- ---- the end

-- nothing is due any more
pub closed : (w : Course) (told : List Event) (past : List Adjustment) (i : ℕ) (l : LevelSaid) (v : LevelLane) (t : LevelTable) → HasCome w told past i l v → IsClosed (period * suc (length past)) v t → IsLevelTable w told past i l t
closed w told past i l v t h d =
    let bounds = bounds_in w.terms w.fixed (all_of w) l in
    let under = set_limits (is_lent w.terms l) i past in
    let over = d.over in
    let ran = d.runs under i bounds past h.opening h.came h.out h.runs in
    let out = h.out ++ ran.0 in
    let same = d.same in
    let from : over.late.since ≡ w.terms.since = same.limits.since ∙ h.since in
    record {
      opening = h.opening;
      opened = h.opened;
      came = h.came;
      out = out;
      lane = over.lane;
      ran = ran.1.kept.lane;
      is_over = d.is_over;
      are = h.are;
      lately = over.asking.smoothed;
      claimed = ran.1.asked.claimed;
      quiet = λ time late. ran.1.asked.follows.now time (let s = d.quiet.since in omega (arith, late, s)) ∙ d.quiet.nobody;
      whole = d.whole;
      of_all = d.of_all.of_all under h.opening h.came out ran.1.kept.lane;
      ends = d.of_all.ends;
      last = d.last;
      since = d.since ∙ from;
      draws = d.still w.terms.draws (same.limits.draws w.terms.draws h.draws);
      drawn = subst (λ (n : ℕ). IsStripBy (period * suc (length past)) (limit_of n) under out t.strip) (same.limits.nominal ∙ h.nominal) (d.drawn (limit_of over.nominal) under out ran.1.kept.drawn);
      table = subst (λ (n : ℕ). IsTable (came_from n h.came) (told_from n out) t.table) from (d.table h.came out ran.1.kept.counted (d.of_all.of_all under h.opening h.came out ran.1.kept.lane));
      nominal = d.nominal ∙ (same.limits.nominal ∙ h.nominal);
      least = d.least ∙ (same.limits.least ∙ h.least);
      greatest = d.greatest ∙ (same.limits.greatest ∙ h.greatest);
      turned_away = d.turned_away ∙ (same.turned_away ∙ h.turned_away);
    }
