-- What the end of a gate tells of its tokens, be it of a batch or of slots that are used again.
use Rattle.std.proofs.Common.{◌≡◌, ◌≢◌, ◌⊎◌, ℕ, ◌<◌, Bool, true, false, List, [], ◌∷◌, ◌++◌, length, Some, None, sym, refl, ap, ◌∙◌, subst, inl, inr, ⊎_elim}
use Rattle.std.specs.Prelude.{All, Any}
use Rattle.std.proofs.lemmas.Bool.{not-true, not_from_false}
use Rattle.apf_words.specs.Level.{Level}
use Rattle.apf_words.specs.declared.decision.Decision.{Decision}
use Rattle.apf_words.specs.declared.decision.Decision.TheVariants.{Execute, QueueFull, Closed, Cancelled, ConcurrencyLimit}
use Rattle.apf_model.specs.declared.moves.Move.TheVariants.{Decide}
use Rattle.apf_model.specs.declared.moves.Stage.TheVariants.{Waits, Stands}
use Rattle.apf_model.specs.declared.response.Response.TheVariants.{Reject}
use Rattle.apf_gate.specs.declared.record.Actor.{Actor}
use Rattle.apf_gate.specs.declared.record.Actor.TheVariants.{OfPass, OfDesk, OfStation}
use Rattle.apf_gate.specs.declared.record.Entry.{Entry}
use Rattle.apf_gate.specs.declared.record.State.{State}
use Rattle.apf_gate.specs.declared.record.State.TheVariants.{Fresh, Took, InLine, Over}
use Rattle.apf_gate.specs.declared.record.Service.{Service}
use Rattle.apf_gate.specs.declared.record.Service.TheVariants.{NotHanded, Handed, RefusedFull, RefusedClosed, Waiting, Held, Settled, Left}
use Rattle.apf_gate.specs.declared.record.PassRecord.{PassRecord}
use Rattle.apf_gate.specs.declared.record.DeskRecord.{DeskRecord}
use Rattle.apf_gate.specs.Records.{told_of, told_own, service}
use Rattle.apf_gate.specs.Traces.{NoneOf, GoesOn, world_of, Made, MadeFirstClose, IsToken, AreMade}
use Rattle.apf_gate.specs.Requests.{IsRequest, MayHold, MayHaveWritten, stage_of, stage_of_pass, stage_of_settled, written}
use Rattle.apf_gate.specs.Rule.{Every}
use Rattle.apf_gate.specs.Tokens.{GateId, PassToken, StationToken}
use Rattle.apf_gate.specs.Account.{IsNewestBy}
use Rattle.apf_gate.specs.Ends.{IsEnded, SawAtLast, IsLongest, WasTold, IsBack, WroteCancelled, ClosedFirst, AtMostOne}
use Rattle.apf_gate.proofs.Lists.{every_map, all_every, AnyOf, any_place, any_with, any_elim}
use Rattle.apf_gate.proofs.Requests.{found_is_written, executes, executes_took, is_handed, handed_or_not}
use Rattle.apf_gate.proofs.Traces.{made_later, made_own, close_later, close_own, decided_stands, one_decider, cancelled_by, closed_stands, one_closer, closed_by}
use Rattle.apf_gate.proofs.HandedIn.{stations_here, passes_here, desk_here, station_there, holder_there, known_told, pass_known, station_known, desk_known, IsPassHere, IsStationHere}

-- a Pass that holds no seats that it took stands not, nor waits, where the Desk did not enter its request
not_taken : (f : State) (took : Bool) → f ≢ Took → (stage_of_pass f took ≢ Stands) × (stage_of_pass f took ≢ Waits)
not_taken Fresh took other = ((λ x. cc), (λ x. cc))
not_taken Took took other = absurd (other refl)
not_taken InLine took other = ((λ x. cc), (λ x. cc))
not_taken Over true other = ((λ x. cc), (λ x. cc))
not_taken Over false other = ((λ x. cc), (λ x. cc))

module _ (g : GateId) (d : DeskRecord) (ps : List PassToken) (ts : List StationToken) (v : Level) (e : IsEnded g d ps ts v) where
  -- a token whose own step is the newest of the trace, or of a trace without steps, saw the whole of it
  newest : (who : Actor) (later saw : List Entry) (m : Entry) (es : List Entry) → later ++ saw ≡ m ∷ es → NoneOf who later → m.by ≡ who → saw ≡ m ∷ es
  newest who [] saw m es is none own = is
  newest who (x ∷ later) saw m es is none own = absurd (none.0 (ap (by_of who) is ∙ own))
    where
      by_of : Actor → List Entry → Actor
      by_of other [] = other
      by_of other (y ∷ ys) = y.by

  nothing : (later saw : List Entry) → later ++ saw ≡ [] → saw ≡ []
  nothing [] saw is = is
  nothing (x ∷ later) saw is = cc

  -- the token that stepped last saw the whole trace
  saw_newest : (m : Entry) (es : List Entry) → e.account.trace ≡ m ∷ es → (who : Actor) → m.by ≡ who → IsToken g.shape who → SawAtLast d ps ts (m ∷ es)
  saw_newest m es is (OfPass r) own made = inr (inl (any_place (λ (t : PassToken). t.pass.knows.trace ≡ m ∷ es) ps (any_with (λ (t : PassToken). t.pass.number ≡ r) (IsPassHere g d ps ts v e) (λ (t : PassToken). t.pass.knows.trace ≡ m ∷ es) ps
      (λ t n h. let k = ((pass_known g d ps ts v e) t h).newer in newest (OfPass t.pass.number) k.0 t.pass.knows.trace m es (k.1 ∙ is) k.2 (own ∙ ap OfPass (sym n))) ((holder_there g d ps ts v e) r made (e.slots.newest r (subst (IsNewestBy (OfPass r)) (sym is) own))) (passes_here g d ps ts v e))))
  saw_newest m es is OfDesk own made = inl (let k = (desk_known g d ps ts v e).newer in newest OfDesk k.0 d.knows.trace m es (k.1 ∙ is) k.2 own)
  saw_newest m es is (OfStation j) own made = inr (inr (any_place (λ (t : StationToken). t.station.knows.trace ≡ m ∷ es) ts (any_with (λ (t : StationToken). t.station.number ≡ j) (IsStationHere g d ps ts v e) (λ (t : StationToken). t.station.knows.trace ≡ m ∷ es) ts
      (λ t n h. let k = ((station_known g d ps ts v e) t h).newer in newest (OfStation t.station.number) k.0 t.station.knows.trace m es (k.1 ∙ is) k.2 (own ∙ ap OfStation (sym n))) ((station_there g d ps ts v e) j made) (stations_here g d ps ts v e))))

  saw_at_last : (es : List Entry) → e.account.trace ≡ es → AreMade g.shape es → SawAtLast d ps ts es
  saw_at_last [] is made = inl (let k = (desk_known g d ps ts v e).newer in nothing k.0 d.knows.trace (k.1 ∙ is))
  saw_at_last (m ∷ es) is made = saw_newest m es is m.by refl made.0

  pub longest : IsLongest g d ps ts e.account.trace
  longest = record {
    seen = saw_at_last e.account.trace refl e.sound.made;
    made = e.sound.made;
    from_desk = (desk_known g d ps ts v e).newer;
    from_passes = all_every (λ (t : PassToken). GoesOn e.account.trace (OfPass t.pass.number) t.pass.knows.trace) ps (every_map (IsPassHere g d ps ts v e) (λ (t : PassToken). GoesOn e.account.trace (OfPass t.pass.number) t.pass.knows.trace) ps (λ t h. ((pass_known g d ps ts v e) t h).newer) (passes_here g d ps ts v e));
    from_stations = all_every (λ (t : StationToken). GoesOn e.account.trace (OfStation t.station.number) t.station.knows.trace) ts (every_map (IsStationHere g d ps ts v e) (λ (t : StationToken). GoesOn e.account.trace (OfStation t.station.number) t.station.knows.trace) ts (λ t h. ((station_known g d ps ts v e) t h).newer) (stations_here g d ps ts v e));
  }

  -- the request is decided so
  abbrev pub IsDecidedSo : ℕ → Decision → Type 0
  IsDecidedSo r x = (world_of g.shape e.account.trace).decision r ≡ Some x

  pub told : (r : ℕ) (x : Decision) → WasTold d ps ts r x → IsDecidedSo r x
  told r x was = ⊎_elim
      (λ (t : told_of d.knows.told r ≡ Some x). (known_told g d ps ts v e) OfDesk d.knows r x (desk_known g d ps ts v e) t)
      (λ (o : Any (λ (t : PassToken). told_of t.pass.knows.told r ≡ Some x) ps ⊎ Any (λ (t : StationToken). told_of t.station.knows.told r ≡ Some x) ts). ⊎_elim
      (λ (a : Any (λ (t : PassToken). told_of t.pass.knows.told r ≡ Some x) ps). any_elim (λ (t : PassToken). told_of t.pass.knows.told r ≡ Some x) (IsPassHere g d ps ts v e) ps (λ t is h. (known_told g d ps ts v e) (OfPass t.pass.number) t.pass.knows r x ((pass_known g d ps ts v e) t h) is) a (passes_here g d ps ts v e))
      (λ (a : Any (λ (t : StationToken). told_of t.station.knows.told r ≡ Some x) ts). any_elim (λ (t : StationToken). told_of t.station.knows.told r ≡ Some x) (IsStationHere g d ps ts v e) ts (λ t is h. (known_told g d ps ts v e) (OfStation t.station.number) t.station.knows r x ((station_known g d ps ts v e) t h) is) a (stations_here g d ps ts v e))
      o) was

  shut : (world_of g.shape e.account.trace).is_open ≡ false → v.closed ≡ true
  shut c = ap (λ (l : Level). l.closed) e.level_is ∙ not_from_false _ c

  abbrev own_name : StationToken → Actor
  own_name t = OfStation t.station.number

  -- a move that a Station's record has, the whole trace has
  wrote : (t : StationToken) (r : ℕ) → (IsStationHere g d ps ts v e) t → WroteCancelled r t → Made e.account.trace (own_name t) (Decide r Cancelled)
  wrote t r h c = let k = ((station_known g d ps ts v e) t h).newer in subst (λ es. Made es (own_name t) (Decide r Cancelled)) k.1 (made_later k.0 t.station.knows.trace (own_name t) (Decide r Cancelled) c)

  first : (t : StationToken) → (IsStationHere g d ps ts v e) t → ClosedFirst t → MadeFirstClose g.shape e.account.trace (own_name t)
  first t h c =
      let k = ((station_known g d ps ts v e) t h).newer in
      subst (λ es. MadeFirstClose g.shape es (own_name t)) k.1 (close_later g.shape k.0 t.station.knows.trace (own_name t) (subst (λ x. MadeFirstClose x t.station.knows.trace (own_name t)) ((station_known g d ps ts v e) t h).shape_is c))

  -- no two Stations have one name
  same_number : (j k : ℕ) → OfStation j ≡ OfStation k → j ≡ k
  same_number j k is = ap number_of is
    where
      number_of : Actor → ℕ
      number_of (OfStation n) = n
      number_of (OfPass n) = 0
      number_of OfDesk = 0

  pub cancelled_by_one : (r : ℕ) → IsDecidedSo r Cancelled → AnyOf (WroteCancelled r) ts
  cancelled_by_one r is =
      let c = cancelled_by g.shape r e.account.trace e.sound.made is in
      any_with (λ (t : StationToken). t.station.number ≡ c.0) (IsStationHere g d ps ts v e) (WroteCancelled r) ts
      (λ t n h.
      let k = ((station_known g d ps ts v e) t h).newer in
      made_own k.0 t.station.knows.trace (own_name t) (Decide r Cancelled) k.2 (subst (λ (x : List Entry × ℕ). Made x.0 (OfStation x.1) (Decide r Cancelled)) (λ i. (sym k.1 i, sym n i)) c.2)) ((station_there g d ps ts v e) c.0 c.1) (stations_here g d ps ts v e)

  pub cancelled_is_written : (r : ℕ) → Every (λ t. WroteCancelled r t → IsDecidedSo r Cancelled) ts
  cancelled_is_written r = every_map (IsStationHere g d ps ts v e) (λ (t : StationToken). WroteCancelled r t → IsDecidedSo r Cancelled) ts
      (λ t h c. decided_stands g.shape r Cancelled e.account.trace (own_name t) e.sound.schedule (wrote t r h c)) (stations_here g d ps ts v e)

  pub cancelled_by_no_other : (r : ℕ) → Every (λ t. Every (λ u. WroteCancelled r t → WroteCancelled r u → t.station.number ≡ u.station.number) ts) ts
  cancelled_by_no_other r = every_map (IsStationHere g d ps ts v e) (λ (t : StationToken). Every (λ u. WroteCancelled r t → WroteCancelled r u → t.station.number ≡ u.station.number) ts) ts
      (λ t h. every_map (IsStationHere g d ps ts v e) (λ (u : StationToken). WroteCancelled r t → WroteCancelled r u → t.station.number ≡ u.station.number) ts
      (λ u k a b. same_number _ _ (one_decider g.shape r Cancelled Cancelled e.account.trace (own_name t) (own_name u) e.sound.schedule (wrote t r h a) (wrote u r k b))) (stations_here g d ps ts v e)) (stations_here g d ps ts v e)

  pub closed_by_one : v.closed ≡ true → AnyOf ClosedFirst ts
  closed_by_one is =
      let c = closed_by g.shape e.account.trace e.sound.made (not-true _ (ap (λ (l : Level). l.closed) (sym e.level_is) ∙ is)) in
      any_with (λ (t : StationToken). t.station.number ≡ c.0) (IsStationHere g d ps ts v e) ClosedFirst ts
      (λ t n h.
      let k = ((station_known g d ps ts v e) t h).newer in
      subst (λ x. MadeFirstClose x t.station.knows.trace (own_name t)) (sym ((station_known g d ps ts v e) t h).shape_is)
      (close_own g.shape k.0 t.station.knows.trace (own_name t) k.2 (subst (λ (x : List Entry × ℕ). MadeFirstClose g.shape x.0 (OfStation x.1)) (λ i. (sym k.1 i, sym n i)) c.2))) ((station_there g d ps ts v e) c.0 c.1) (stations_here g d ps ts v e)

  pub closed_is_seen : Every (λ t. t.station.knows.saw_closed ≡ true → v.closed ≡ true) ts
  closed_is_seen = every_map (IsStationHere g d ps ts v e) (λ (t : StationToken). t.station.knows.saw_closed ≡ true → v.closed ≡ true) ts (λ t h c. shut (((station_known g d ps ts v e) t h).closed c)) (stations_here g d ps ts v e)

  pub closed_is_first : Every (λ t. ClosedFirst t → v.closed ≡ true) ts
  closed_is_first = every_map (IsStationHere g d ps ts v e) (λ (t : StationToken). ClosedFirst t → v.closed ≡ true) ts (λ t h c. shut (closed_stands g.shape e.account.trace (own_name t) e.sound.schedule (first t h c))) (stations_here g d ps ts v e)

  pub closed_by_no_other : Every (λ t. Every (λ u. ClosedFirst t → ClosedFirst u → t.station.number ≡ u.station.number) ts) ts
  closed_by_no_other = every_map (IsStationHere g d ps ts v e) (λ (t : StationToken). Every (λ u. ClosedFirst t → ClosedFirst u → t.station.number ≡ u.station.number) ts) ts
      (λ t h. every_map (IsStationHere g d ps ts v e) (λ (u : StationToken). ClosedFirst t → ClosedFirst u → t.station.number ≡ u.station.number) ts
      (λ u k a b. same_number _ _ (one_closer g.shape e.account.trace (own_name t) (own_name u) e.sound.schedule (first t h a) (first u k b))) (stations_here g d ps ts v e)) (stations_here g d ps ts v e)

  -- the lines on a request, with the Desk that was handed in
  pub line : (r : ℕ) → r < length g.shape.widths → IsRequest g.shape r (e.account.pass r) (service d r) (world_of g.shape e.account.trace)
  line r l = subst (λ (o : DeskRecord). IsRequest g.shape r (e.account.pass r) (service o r) (world_of g.shape e.account.trace)) (desk_here g d ps ts v e) (e.sound.request r l)

  -- what the Desk wrote of a request is its decision
  pub desk_decided : (r : ℕ) (a : Service) (x : Decision) → r < length g.shape.widths → service d r ≡ a → written (e.account.pass r) a ≡ Some x → IsDecidedSo r x
  desk_decided r a x l is wrote = subst (λ y. MayHold y ((world_of g.shape e.account.trace).decision r)) (ap (written (e.account.pass r)) is ∙ wrote) (line r l).word

  pub full_was_refused : (r : ℕ) → r < length g.shape.widths → IsDecidedSo r QueueFull → service d r ≡ RefusedFull
  full_was_refused r l is = by_service (service d r) refl (found_is_written _ _ QueueFull (line r l).word is (λ z. cc))
    where
      by_service : (a : Service) → service d r ≡ a → written (e.account.pass r) (service d r) ≡ Some QueueFull → service d r ≡ RefusedFull
      by_service NotHanded n x = absurd (subst (MayHaveWritten g.shape (e.account.pass r)) (sym (ap (written (e.account.pass r)) n) ∙ x) (line r l).own.wrote)
      by_service Handed n x = absurd (let z = sym (ap (written (e.account.pass r)) n) ∙ x in cc)
      by_service RefusedFull n x = n
      by_service RefusedClosed n x = absurd (let z = sym (ap (written (e.account.pass r)) n) ∙ x in cc)
      by_service Waiting n x = absurd (let z = sym (ap (written (e.account.pass r)) n) ∙ x in cc)
      by_service Held n x = absurd (let z = sym (ap (written (e.account.pass r)) n) ∙ x in cc)
      by_service Settled n x = absurd (let z = sym (ap (written (e.account.pass r)) n) ∙ x in cc)
      by_service Left n x = absurd (let z = sym (ap (written (e.account.pass r)) n) ∙ x in cc)

  pub closed_was_written : (r : ℕ) → r < length g.shape.widths → IsDecidedSo r Closed → ((service d r ≡ RefusedClosed) ⊎ ((e.account.pass r).wrote ≡ Some Closed)) × (v.closed ≡ true)
  closed_was_written r l is = (by_service (service d r) refl wrote, shut ((line r l).closed wrote))
    where
      wrote : written (e.account.pass r) (service d r) ≡ Some Closed
      wrote = found_is_written _ _ Closed (line r l).word is (λ z. cc)

      by_service : (a : Service) → service d r ≡ a → written (e.account.pass r) (service d r) ≡ Some Closed → (service d r ≡ RefusedClosed) ⊎ ((e.account.pass r).wrote ≡ Some Closed)
      by_service NotHanded n x = inr (sym (ap (written (e.account.pass r)) n) ∙ x)
      by_service Handed n x = absurd (let z = sym (ap (written (e.account.pass r)) n) ∙ x in cc)
      by_service RefusedFull n x = absurd (let z = sym (ap (written (e.account.pass r)) n) ∙ x in cc)
      by_service RefusedClosed n x = inl n
      by_service Waiting n x = absurd (let z = sym (ap (written (e.account.pass r)) n) ∙ x in cc)
      by_service Held n x = absurd (let z = sym (ap (written (e.account.pass r)) n) ∙ x in cc)
      by_service Settled n x = absurd (let z = sym (ap (written (e.account.pass r)) n) ∙ x in cc)
      by_service Left n x = absurd (let z = sym (ap (written (e.account.pass r)) n) ∙ x in cc)

  pub limit_was_written : (r : ℕ) → r < length g.shape.widths → IsDecidedSo r ConcurrencyLimit → ((e.account.pass r).saw_no_room ≡ true) × ((e.account.pass r).wrote ≡ Some ConcurrencyLimit) × (g.shape.response ≡ Reject)
  limit_was_written r l is = by_service (service d r) refl (found_is_written _ _ ConcurrencyLimit (line r l).word is (λ z. cc))
    where
      by_service : (a : Service) → service d r ≡ a → written (e.account.pass r) (service d r) ≡ Some ConcurrencyLimit → ((e.account.pass r).saw_no_room ≡ true) × ((e.account.pass r).wrote ≡ Some ConcurrencyLimit) × (g.shape.response ≡ Reject)
      by_service NotHanded n x =
          let wrote = sym (ap (written (e.account.pass r)) n) ∙ x in
          let k = subst (MayHaveWritten g.shape (e.account.pass r)) wrote (line r l).own.wrote in
          (k.3, wrote, k.2)
      by_service Handed n x = absurd (let z = sym (ap (written (e.account.pass r)) n) ∙ x in cc)
      by_service RefusedFull n x = absurd (let z = sym (ap (written (e.account.pass r)) n) ∙ x in cc)
      by_service RefusedClosed n x = absurd (let z = sym (ap (written (e.account.pass r)) n) ∙ x in cc)
      by_service Waiting n x = absurd (let z = sym (ap (written (e.account.pass r)) n) ∙ x in cc)
      by_service Held n x = absurd (let z = sym (ap (written (e.account.pass r)) n) ∙ x in cc)
      by_service Settled n x = absurd (let z = sym (ap (written (e.account.pass r)) n) ∙ x in cc)
      by_service Left n x = absurd (let z = sym (ap (written (e.account.pass r)) n) ∙ x in cc)

  pub executed : (r : ℕ) → r < length g.shape.widths → IsDecidedSo r Execute → (service d r ≡ Settled) ⊎ (((e.account.pass r).took ≡ true) × ((e.account.pass r).wrote ≡ Some Execute))
  executed r l is = ⊎_elim
      (λ (o : ((e.account.pass r).wrote ≡ Some Execute) × (service d r ≡ NotHanded)). inr (executes_took g.shape r (e.account.pass r) (service d r) (world_of g.shape e.account.trace) (line r l) o.0, o.0))
      (λ (s : service d r ≡ Settled). inl s)
      (executes g.shape r (e.account.pass r) (service d r) (world_of g.shape e.account.trace) (line r l) is)

  -- what a Pass wrote is its request's decision
  pub pass_decided : (r : ℕ) → r < length g.shape.widths → (x : Decision) → (e.account.pass r).wrote ≡ Some x → IsDecidedSo r x
  pass_decided r l x wrote =
      let p = e.account.pass r in
      let k = line r l in
      let free = ⊎_elim (λ (n : service d r ≡ NotHanded). n) (λ n. absurd (let z = (is_handed g.shape r p (service d r) (world_of g.shape e.account.trace) k n).wrote_none in cc)) (handed_or_not (service d r)) in
      desk_decided r NotHanded x l free wrote

  -- what a Pass that holds no seats says of its request, by what the Desk did with it
  stage_back : (r : ℕ) (p : PassRecord) (a : Service) → IsRequest g.shape r p a (world_of g.shape e.account.trace) → p.state ≢ Took → (a ≡ Settled → p.state ≡ Over) → a ≢ Held → a ≢ Waiting → (stage_of p a ≢ Stands) × (stage_of p a ≢ Waits)
  stage_back r p Waiting k took over held waits = absurd (waits refl)
  stage_back r p Held k took over held waits = absurd (held refl)
  stage_back r p Settled k took over held waits = ((λ x. let z = sym (ap stage_of_settled (over refl)) ∙ x in cc), (λ x. let z = sym (ap stage_of_settled (over refl)) ∙ x in cc))
  stage_back r p Left k took over held waits = ((λ x. cc), (λ x. cc))
  stage_back r p NotHanded k took over held waits = not_taken p.state p.took took
  stage_back r p Handed k took over held waits = not_taken p.state p.took took
  stage_back r p RefusedFull k took over held waits = not_taken p.state p.took took
  stage_back r p RefusedClosed k took over held waits = not_taken p.state p.took took

  -- a request whose Pass is back neither stands nor waits, where the Desk holds nothing and does not have it waiting
  pub gone : (r : ℕ) → r < length g.shape.widths → (e.account.pass r).state ≢ Took → (service d r ≡ Settled → (e.account.pass r).state ≡ Over) → d.held ≡ None → service d r ≢ Waiting
      → ((world_of g.shape e.account.trace).stage r ≢ Stands) × ((world_of g.shape e.account.trace).stage r ≢ Waits)
  gone r l took over held waits = let k = stage_back r (e.account.pass r) (service d r) (line r l) took over not_held waits in
      ((λ x. k.0 (sym (line r l).stage ∙ x)), (λ x. k.1 (sym (line r l).stage ∙ x)))
    where
      not_held : service d r ≢ Held
      not_held x = let z = sym (ap (λ (o : DeskRecord). o.held) (desk_here g d ps ts v e) ∙ held) ∙ e.sound.is_held r (ap (λ (o : DeskRecord). service o r) (desk_here g d ps ts v e) ∙ x) in cc

  -- if no request stands or waits, no seat is taken and nobody waits
  pub drained : ((r : ℕ) → r < length g.shape.widths → ((world_of g.shape e.account.trace).stage r ≢ Stands) × ((world_of g.shape e.account.trace).stage r ≢ Waits)) → (v.seats ≡ 0) × (v.waiters ≡ 0)
  drained all = (
    ap (λ (l : Level). l.seats) e.level_is ∙ e.laws.nobody_stands (world_of g.shape e.account.trace) (λ r l. (all r l).0),
    ap (λ (l : Level). l.waiters) e.level_is ∙ e.laws.nobody_waits (world_of g.shape e.account.trace) (λ r l. (all r l).1),
  )

  -- what is so of a Pass that is back
  pub back_by : (t : PassToken) (r : ℕ) → t.pass.number ≡ r → r < length g.shape.widths → (IsPassHere g d ps ts v e) t → IsBack t → ((e.account.pass r).state ≢ Took) × (service d r ≡ Settled → (e.account.pass r).state ≡ Over)
  back_by t r n l h back = ((λ x. not_took (sym same ∙ x)), (λ x. same ∙ over_if_settled x))
    where
      same : (e.account.pass r).state ≡ t.pass.state
      same = ap (λ k. (e.account.pass k).state) (sym n) ∙ ap (λ (o : PassRecord). o.state) h.1

      not_took : t.pass.state ≢ Took
      not_took x = ⊎_elim (λ (o : t.pass.state ≡ Over). let z = sym o ∙ x in absurd (cc)) (λ (o : (t.pass.state ≢ Took) × (told_own t.pass ≢ None) × (told_own t.pass ≢ Some Execute)). o.0 x) back.back

      over_if_settled : service d r ≡ Settled → t.pass.state ≡ Over
      over_if_settled is = ⊎_elim (λ (o : t.pass.state ≡ Over). o)
          (λ (o : (t.pass.state ≢ Took) × (told_own t.pass ≢ None) × (told_own t.pass ≢ Some Execute)).
          let known : (world_of g.shape e.account.trace).decision t.pass.number ≡ told_own t.pass = ((pass_known g d ps ts v e) t h).told t.pass.number o.1 in
          absurd (o.2 (sym known ∙ (ap (world_of g.shape e.account.trace).decision n ∙ desk_decided r Settled Execute l is refl))))
          back.back

  -- at most one Station did what no two of them did
  pub at_most_one : (Did : StationToken → Type 0) → Every (λ t. Every (λ u. Did t → Did u → t.station.number ≡ u.station.number) ts) ts → AtMostOne Did ts
  at_most_one Did k = all_every (λ (t : StationToken). All (λ (u : StationToken). Did t → Did u → t.station.number ≡ u.station.number) ts) ts
      (every_map (λ (t : StationToken). Every (λ u. Did t → Did u → t.station.number ≡ u.station.number) ts) (λ (t : StationToken). All (λ (u : StationToken). Did t → Did u → t.station.number ≡ u.station.number) ts) ts
      (λ t l. all_every (λ (u : StationToken). Did t → Did u → t.station.number ≡ u.station.number) ts l) k)
