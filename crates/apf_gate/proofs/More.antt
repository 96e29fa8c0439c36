-- A token knows more after each of several steps.
use Rattle.std.proofs.Common.{◌≡◌, ℕ, true, List, [], ◌∷◌, ◌++◌, refl, sym, ap, ◌∙◌, subst}
use Rattle.atomic_table.specs.Table.{Me}
use Rattle.apf_gate.specs.declared.record.Entry.{Entry}
use Rattle.apf_gate.specs.declared.record.Knowledge.{Knowledge}
use Rattle.apf_gate.specs.declared.record.Record.{Record}
use Rattle.apf_gate.specs.declared.record.StationRecord.{StationRecord}
use Rattle.apf_gate.specs.Records.{KnowsMore}
use Rattle.apf_gate.specs.Rule.{station_of}
use Rattle.apf_gate.specs.Steps.{ByStation, OnLevel}
use Rattle.apf_gate.specs.StationSteps.{StationClosesLevel}
use Rattle.apf_gate.specs.Tokens.{PassToken, DeskToken, StationToken}
use Rattle.apf_gate.specs.PassResults.{SamePass}
use Rattle.apf_gate.specs.DeskResults.{SameDesk}
use Rattle.apf_gate.specs.StationResults.{SameStation}

joined : (xs ys zs : List Entry) → (xs ++ ys) ++ zs ≡ xs ++ (ys ++ zs)
joined [] ys zs = refl
joined (x ∷ xs) ys zs = ap (λ l. x ∷ l) (joined xs ys zs)

pub more_then : (a b c : Knowledge) → KnowsMore a b → KnowsMore b c → KnowsMore a c
more_then a b c m n = record {
  shape = n.shape ∙ m.shape;
  closed = λ e. n.closed (m.closed e);
  told = λ r some. n.told r (λ none. some (sym (m.told r some) ∙ none)) ∙ m.told r some;
  trace = (n.trace.0 ++ m.trace.0, n.trace.1 ∙ (ap (λ l. n.trace.0 ++ l) m.trace.1 ∙ sym (joined n.trace.0 m.trace.0 a.trace)));
}

-- the same Pass after each of two steps
pub same_pass_then : (a b c : PassToken) → SamePass a b → SamePass b c → SamePass a c
same_pass_then a b c m n = record { gate = n.gate ∙ m.gate; number = n.number ∙ m.number; more = more_then a.pass.knows b.pass.knows c.pass.knows m.more n.more }

-- the same Desk
pub same_desk_then : (a b c : DeskToken) → SameDesk a b → SameDesk b c → SameDesk a c
same_desk_then a b c m n = record { gate = n.gate ∙ m.gate; more = more_then a.desk.knows b.desk.knows c.desk.knows m.more n.more }

-- the same Station
pub same_station_then : (a b c : StationToken) → SameStation a b → SameStation b c → SameStation a c
same_station_then a b c m n = record { gate = n.gate ∙ m.gate; number = n.number ∙ m.number; more = more_then a.station.knows b.station.knows c.station.knows m.more n.more }

-- a Station that sets the bit of a closed level knows more, by what that step tells
pub closing_more : (me me' : Me (Unit {0}) (List Record)) (n : ℕ) → ByStation (OnLevel StationClosesLevel) me n me' → KnowsMore (station_of me.0).knows (station_of me'.0).knows
closing_more me me' n t =
    let known : Knowledge = t.1.2.2.0 in
    let saw = t.1.2.2.1 in
    let same : station_of me'.0 ≡ record (station_of me.0) { knows = record known { saw_closed = true } } = ap station_of t.1.1 ∙ t.1.2.2.2 in
    subst (λ (s : StationRecord). KnowsMore (station_of me.0).knows s.knows) (sym same) (record {
      shape = saw.more.shape;
      closed = λ _. refl;
      told = saw.more.told;
      trace = saw.more.trace;
    })
