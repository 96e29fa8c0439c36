-- The load of the Desk with a Station joined to it keeps the rule.
use Rattle.std.proofs.Common.{◌≡◌, ℕ, ◌+◌, ◌*◌, List, [], ◌∷◌, None, sym, refl, ap, ◌∙◌, subst, arith}
use Rattle.std.specs.Prelude.{slice_index, ◌||◌}
use mathlib.Core.Option.{some}
use lib.ListN.{get_elem?}
use Rattle.std.proofs.lemmas.Bool.{not_from_false}
use Rattle.atomic_table.specs.Table.{keeps, Allows}
use Rattle.apf_words.specs.Level.{Level}
use Rattle.apf_model.specs.World.{put}
use Rattle.apf_gate.specs.declared.record.Shape.{Shape}
use Rattle.apf_gate.specs.declared.record.Actor.TheVariants.{OfPass, OfDesk, OfStation}
use Rattle.apf_gate.specs.declared.record.Entry.{Entry}
use Rattle.apf_gate.specs.declared.record.Knowledge.{Knowledge}
use Rattle.apf_gate.specs.declared.record.DeskRecord.{DeskRecord}
use Rattle.apf_gate.specs.declared.record.StationRecord.{StationRecord}
use Rattle.apf_gate.specs.declared.record.Record.TheVariants.{Desk, Station}
use Rattle.apf_gate.specs.Records.{level_of, saw_level}
use Rattle.apf_gate.specs.Traces.{entry, world_of}
use Rattle.apf_gate.specs.Account.{Account, IsKnown}
use Rattle.apf_gate.specs.Rule.{IsRuled}
use Rattle.apf_gate.specs.Gauges.{IsShape, AreLaws}
use Rattle.apf_gate.specs.Steps.{OnLevel}
use Rattle.apf_gate.specs.StationJoined.{ByStationAndDesk, IsHeard, StationAndDeskLoadLevel}
use Rattle.apf_gate.proofs.Puts.{put_here, put_else}
use Rattle.apf_gate.proofs.Slots.{slots_after}
use Rattle.apf_gate.proofs.Later.{IsNext, next_load, known_later}
use Rattle.apf_gate.proofs.Views.{Table, kept}
use Rattle.apf_gate.proofs.Sound.{left, put_each}
use Rattle.apf_gate.proofs.Packing.{packs_same, level_in_range, no_queues}
use Rattle.apf_gate.proofs.Knowing.{ahead, level_known, level_told}
use Rattle.apf_gate.proofs.DeskLines.{is_at_desk, counts_waiting}

module _ (s : Shape) where
  -- the rule after a load, from what the two know then
  after_load : (t : Table) (h : IsRuled s t) (id i : ℕ) (c : StationRecord) (d : DeskRecord) (x u : Knowledge) → get_elem? t.views id ≡ some (Station c ∷ Desk d ∷ []) → IsNext s OfDesk None h.account.trace
      → IsKnown s (OfStation c.number) x (entry OfDesk None ∷ h.account.trace) → IsKnown s OfDesk u (entry OfDesk None ∷ h.account.trace)
      → IsRuled s (left t i (slice_index t.words i) id (Station (record c { knows = x }) ∷ Desk (record d { knows = u }) ∷ []))
  after_load t h id i c d x u at next known known_desk =
      let g : Account = h.account in
      let w = world_of s g.trace in
      let es : List Entry = entry OfDesk None ∷ g.trace in
      let k = c.number in
      let c' : StationRecord = record c { knows = x } in
      let d' : DeskRecord = record d { knows = u } in
      let v = h.views id (Station c ∷ Desk d ∷ []) at in
      let was = v.0.0 in
      let desk = is_at_desk s t h d v.0.1.0.1 in
      let g' : Account = record g { trace = es; station = put g.station k c'; desk = d' } in
      kept s t h id i (slice_index t.words i) (Station c' ∷ Desk d' ∷ []) g'
      (record {
        seat = λ y. refl;
        pass = λ _ _. refl;
        current = λ _ _. refl;
        desk = λ away. absurd (away v.0.1.0.0);
        station = λ j away. put_else g.station k c' j (λ e. away (ap (λ y. g.seat (2 * y + 2)) e ∙ was.0));
      })
      (((was.0, (was.1.0, put_here g.station k c')), ((v.0.1.0.0, refl), tt)), (((λ y. omega arith), tt), (tt, tt)))
      (record {
        schedule = next.schedule;
        made = (tt, next.made, h.sound.made);
        request = desk.request;
        pass_knows = λ j l. known_later s (g.pass j).knows (OfPass j) OfDesk None g.trace (λ y. cc) next.later (h.sound.pass_knows j l);
        desk_knows = known_desk;
        station_knows = λ j. put_each s (λ y (o : StationRecord). IsKnown s (OfStation y) o.knows es) g.station k c' known j (λ ne. known_later s (g.station j).knows (OfStation j) OfDesk None g.trace (λ y. cc) next.later (h.sound.station_knows j));
        held = desk.holds.held_is;
        is_held = desk.holds.is_held;
      })
      (slots_after s g g' h.slots (λ _. refl) (λ j l no. (record { stage = refl; decision = refl; saw = refl }, refl)) (λ _. refl) (λ j e. absurd (cc)) (λ j. omega arith) ((λ q y e. absurd (cc)), h.slots.order))
      (packs_same s g.current t.words w w i refl (λ _. refl) h.packs)

  module _ (shape : IsShape s) (laws : AreLaws s) where
    pub station_and_desk_load_level : (id slots : ℕ) (c : StationRecord) (d : DeskRecord) → Allows (IsRuled s) slots id (Station c ∷ Desk d ∷ [], []) 0 (λ n. n) (ByStationAndDesk (OnLevel StationAndDeskLoadLevel) (Station c ∷ Desk d ∷ [], []))
    station_and_desk_load_level id slots c d t h deep at small =
        let g = h.account in
        let w = world_of s g.trace in
        let l : Level = level_of s.widths w in
        let v = h.views id (Station c ∷ Desk d ∷ []) at in
        let desk = is_at_desk s t h d v.0.1.0.1 in
        let known : IsKnown s (OfStation c.number) c.knows g.trace = subst (λ (o : StationRecord). IsKnown s (OfStation c.number) o.knows g.trace) v.0.0.1.1 (h.sound.station_knows c.number) in
        let next = next_load s OfDesk g.trace h.sound.schedule in
        let es : List Entry = entry OfDesk None ∷ g.trace in
        let u : Knowledge = saw_level d.knows l es in
        let x : Knowledge = saw_level c.knows l es in
        let on = ahead s (OfStation c.number) OfDesk c.knows g.trace None known next (λ z. cc) in
        let heard : IsHeard c l u = record {
          trace = on;
          stays_closed = λ e. not_from_false _ (known.closed e);
          more = record { shape = refl; closed = λ e. ap (λ b. b || l.closed) e; told = λ r some. refl; trace = (on.0, sym on.1) };
        } in (
          Station (record c { knows = x }) ∷ Desk (record d { knows = u }) ∷ [],
          keeps,
          tt,
          after_load t h id 0 c d x u at next (level_known s (OfStation c.number) OfDesk c.knows g.trace None known next l refl) (level_known s OfDesk OfDesk d.knows g.trace None desk.known next l refl),
          (
            refl,
            (
              record { station = record c { knows = x }; desk = record d { knows = u } },
              refl,
              (
                l,
                h.packs.level,
                (u, level_told s OfDesk d.knows g.trace None desk.known next l refl (level_in_range s shape laws t h) (λ e. no_queues s laws t h e), counts_waiting s laws t h d desk, heard, refl),
              ),
            ),
          ),
        )
