-- The tokens that were handed in at the end of a gate, and what the rule says of them.
use Rattle.std.proofs.Common.{◌≡◌, ◌≢◌, ℕ, ◌+◌, ◌*◌, ◌<◌, List, [], ◌∷◌, length, Some, sym, ap, ◌∙◌, subst}
use Rattle.apf_words.specs.declared.decision.Decision.{Decision}
use Rattle.apf_gate.specs.declared.record.Actor.{Actor}
use Rattle.apf_gate.specs.declared.record.Actor.TheVariants.{OfPass, OfDesk, OfStation}
use Rattle.apf_gate.specs.declared.record.Knowledge.{Knowledge}
use Rattle.apf_gate.specs.declared.record.PassRecord.{PassRecord}
use Rattle.apf_gate.specs.declared.record.DeskRecord.{DeskRecord}
use Rattle.apf_gate.specs.declared.record.StationRecord.{StationRecord}
use Rattle.apf_gate.specs.declared.record.Record.{Record}
use Rattle.apf_gate.specs.declared.record.Record.TheVariants.{Pass, Desk, Station}
use Rattle.apf_gate.specs.Records.{told_of}
use Rattle.apf_gate.specs.Traces.{world_of}
use Rattle.apf_gate.specs.Slots.{slot_of}
use Rattle.apf_gate.specs.Account.{HoldsSlot, IsKnown}
use Rattle.apf_gate.specs.Rule.{Every, IsRecord, AreApart, token_of}
use Rattle.apf_gate.specs.Tokens.{GateId, PassToken, StationToken}
use Rattle.apf_words.specs.Level.{Level}
use Rattle.apf_gate.specs.Ends.{IsEnded, passes_before, stations_before}
use Rattle.apf_gate.proofs.Lists.{every_map, AnyOf, any_with}
use Rattle.apf_gate.proofs.Numbers.{AreNumbered, all_there}

-- the parts of what was handed in
every_stations : (P : Record → Type 0) (ts : List StationToken) (rest : List Record) → Every P (stations_before ts rest) → Every (λ t. P (Station t.station)) ts × Every P rest
every_stations P [] rest k = (tt, k)
every_stations P (t ∷ ts) rest k = let h = every_stations P ts rest k.1 in ((k.0, h.0), h.1)

every_passes : (P : Record → Type 0) (ps : List PassToken) (rest : List Record) → Every P (passes_before ps rest) → Every (λ t. P (Pass t.pass)) ps × Every P rest
every_passes P [] rest k = (tt, k)
every_passes P (t ∷ ts) rest k = let h = every_passes P ts rest k.1 in ((k.0, h.0), h.1)

numbered_stations : (ts : List StationToken) (rest : List Record) → AreApart (stations_before ts rest) → AreNumbered (λ (t : StationToken). t.station.number) ts × AreApart rest
numbered_stations [] rest k = (tt, k)
numbered_stations (t ∷ ts) rest k =
    let h = numbered_stations ts rest k.1 in
    ((every_map (λ (u : StationToken). 2 * u.station.number + 2 ≢ 2 * t.station.number + 2) (λ (u : StationToken). u.station.number ≢ t.station.number) ts (λ u ne e. ne (ap (λ n. 2 * n + 2) e)) (every_stations (λ y. token_of y ≢ 2 * t.station.number + 2) ts rest k.0).0, h.0), h.1)

-- no two of them are of one slot
numbered_passes : (ps : List PassToken) (rest : List Record) → AreApart (passes_before ps rest) → AreNumbered (λ (t : PassToken). slot_of t.pass.number) ps × AreApart rest
numbered_passes [] rest k = (tt, k)
numbered_passes (t ∷ ts) rest k =
    let h = numbered_passes ts rest k.1 in
    ((every_map (λ (u : PassToken). 2 * slot_of u.pass.number + 1 ≢ 2 * slot_of t.pass.number + 1) (λ (u : PassToken). slot_of u.pass.number ≢ slot_of t.pass.number) ts (λ u ne e. ne (ap (λ n. 2 * n + 1) e)) (every_passes (λ y. token_of y ≢ 2 * slot_of t.pass.number + 1) ts rest k.0).0, h.0), h.1)

module _ (g : GateId) (d : DeskRecord) (ps : List PassToken) (ts : List StationToken) (v : Level) (e : IsEnded g d ps ts v) where
  abbrev pub IsPassHere : PassToken → Type 0
  IsPassHere t = (t.pass.number < length g.shape.widths) × (e.account.pass t.pass.number ≡ t.pass) × HoldsSlot e.account t.pass.number

  abbrev pub IsStationHere : StationToken → Type 0
  IsStationHere t = (t.station.number < g.shape.stations) × (e.account.station t.station.number ≡ t.station)

  pub stations_here : Every IsStationHere ts
  stations_here = (every_stations (IsRecord g.shape e.account) ts (passes_before ps (Desk d ∷ [])) e.stand).0

  pub passes_here : Every IsPassHere ps
  passes_here = (every_passes (IsRecord g.shape e.account) ps (Desk d ∷ []) (every_stations (IsRecord g.shape e.account) ts (passes_before ps (Desk d ∷ [])) e.stand).1).0

  pub desk_here : e.account.desk ≡ d
  desk_here = (every_passes (IsRecord g.shape e.account) ps (Desk d ∷ []) (every_stations (IsRecord g.shape e.account) ts (passes_before ps (Desk d ∷ [])) e.stand).1).1.0

  -- each Station was handed in
  pub station_there : (k : ℕ) → k < g.shape.stations → AnyOf (λ t. t.station.number ≡ k) ts
  station_there = all_there (λ (t : StationToken). t.station.number) g.shape.stations ts e.all_stations (every_map IsStationHere (λ (t : StationToken). t.station.number < g.shape.stations) ts (λ t k. k.0) stations_here) (numbered_stations ts (passes_before ps (Desk d ∷ [])) e.apart).0

  pub slots_apart : AreNumbered (λ (t : PassToken). slot_of t.pass.number) ps
  slots_apart = (numbered_passes ps (Desk d ∷ []) (numbered_stations ts (passes_before ps (Desk d ∷ [])) e.apart).1).0

  -- for each slot the Pass was handed in
  pub slot_there : (i : ℕ) → i < g.shape.slots → AnyOf (λ t. slot_of t.pass.number ≡ i) ps
  slot_there = all_there (λ (t : PassToken). slot_of t.pass.number) g.shape.slots ps e.all_passes
      (every_map IsPassHere (λ (t : PassToken). slot_of t.pass.number < g.shape.slots) ps (λ t k. e.slots.inside t.pass.number k.0 k.2) passes_here) slots_apart

  -- and that of a request that holds its slot
  pub holder_there : (r : ℕ) → r < length g.shape.widths → HoldsSlot e.account r → AnyOf (λ t. t.pass.number ≡ r) ps
  holder_there r l holds = any_with (λ (t : PassToken). slot_of t.pass.number ≡ slot_of r) IsPassHere (λ (t : PassToken). t.pass.number ≡ r) ps
      (λ t same k. sym k.2 ∙ (ap e.account.current same ∙ holds)) (slot_there (slot_of r) (e.slots.inside r l holds)) passes_here

  pub known_told : (who : Actor) (k : Knowledge) (r : ℕ) (x : Decision) → IsKnown g.shape who k e.account.trace → told_of k.told r ≡ Some x → (world_of g.shape e.account.trace).decision r ≡ Some x
  known_told who k r x known is = known.told r (λ none. let z = sym is ∙ none in cc) ∙ is

  pub pass_known : (t : PassToken) → IsPassHere t → IsKnown g.shape (OfPass t.pass.number) t.pass.knows e.account.trace
  pass_known t h = subst (λ (o : PassRecord). IsKnown g.shape (OfPass t.pass.number) o.knows e.account.trace) h.1 (e.sound.pass_knows t.pass.number h.0)

  pub station_known : (t : StationToken) → IsStationHere t → IsKnown g.shape (OfStation t.station.number) t.station.knows e.account.trace
  station_known t h = subst (λ (o : StationRecord). IsKnown g.shape (OfStation t.station.number) o.knows e.account.trace) h.1 (e.sound.station_knows t.station.number)

  pub desk_known : IsKnown g.shape OfDesk d.knows e.account.trace
  desk_known = subst (λ (o : DeskRecord). IsKnown g.shape OfDesk o.knows e.account.trace) desk_here e.sound.desk_knows
