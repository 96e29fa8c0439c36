-- A load that finds the records of many tokens at one seat keeps the rule, and changes nothing.
use Rattle.std.proofs.Common.{◌≡◌, ℕ, List, [], ◌∷◌, ◌++◌, sym, refl, ap, ◌∙◌, subst}
use Rattle.std.specs.Prelude.{slice_index}
use Rattle.atomic_table.specs.Table.{keeps, Allows}
use Rattle.apf_gate.specs.declared.record.Shape.{Shape}
use Rattle.apf_gate.specs.declared.record.DeskRecord.{DeskRecord}
use Rattle.apf_gate.specs.declared.record.Record.{Record}
use Rattle.apf_gate.specs.declared.record.Record.TheVariants.{Pass, Desk, Station}
use Rattle.apf_gate.specs.Traces.{world_of}
use Rattle.apf_gate.specs.Rule.{IsRecord, IsKeptAt, IsView, IsRuled, desk_of, last_alone}
use Rattle.apf_gate.specs.Whole.{IsOne, TellsAll}
use Rattle.apf_gate.specs.Tokens.{PassToken, StationToken}
use Rattle.apf_gate.specs.Ends.{passes_before, stations_before}
use Rattle.apf_gate.proofs.Gathering.{every_last}
use Rattle.apf_gate.proofs.Lists.{every_map}
use Rattle.apf_gate.proofs.Packing.{packs_same}
use Rattle.apf_gate.proofs.Seats.{last_of}
use Rattle.apf_gate.proofs.Views.{kept}

-- the Desk's record stands last
passes_then : (ps : List PassToken) (x : Record) → passes_before ps (x ∷ []) ≡ passes_before ps [] ++ x ∷ []
passes_then [] x = refl
passes_then (p ∷ ps) x = ap (λ l. Pass p.pass ∷ l) (passes_then ps x)

stations_then : (ts : List StationToken) (rest : List Record) (x : Record) → stations_before ts (rest ++ x ∷ []) ≡ stations_before ts rest ++ x ∷ []
stations_then [] rest x = refl
stations_then (t ∷ ts) rest x = ap (λ l. Station t.station ∷ l) (stations_then ts rest x)

pub desk_last : (ps : List PassToken) (ts : List StationToken) (x : Record) → stations_before ts (passes_before ps (x ∷ [])) ≡ stations_before ts (passes_before ps []) ++ x ∷ []
desk_last ps ts x = ap (stations_before ts) (passes_then ps x) ∙ stations_then ts (passes_before ps []) x

pub looks_at_all : (s : Shape) (id slots : ℕ) (v front : List Record) (d : DeskRecord) → v ≡ front ++ Desk d ∷ [] → Allows (IsRuled s) slots id (v, []) 0 (λ n. n) (TellsAll (v, []))
looks_at_all s id slots v front d is t h deep at small =
    let g = h.account in
    let w = world_of s g.trace in
    let k : IsView s g id v = h.views id v at in
    let f = subst (IsView s g id) is k in
    let mine = every_last (IsKeptAt s g id) front (Desk d) f.0 in
    let shape = ap (λ l. (desk_of l).knows.shape) (ap last_alone is ∙ last_of front (Desk d)) ∙ (ap (λ (o : DeskRecord). o.knows.shape) (sym mine.1) ∙ h.sound.desk_knows.shape_is) in
    let one : IsOne s v = record { account = g; sound = h.sound; slots = h.slots; stand = every_map (IsKeptAt s g id) (IsRecord s g) v (λ x e. e.1) k.0; apart = k.1 } in (
      v,
      keeps,
      tt,
      kept s t h id 0 (slice_index t.words 0) v g (record { seat = λ _. refl; pass = λ _ _. refl; current = λ _ _. refl; desk = λ _. refl; station = λ _ _. refl }) k h.sound h.slots
          (packs_same s g.current t.words w w 0 refl (λ _. refl) h.packs),
      (refl, subst (λ x. IsOne x v) (sym shape) one),
    )
