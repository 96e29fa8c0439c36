-- What the rule of a gate says of its words and its tokens.
use Rattle.std.proofs.Common.{◌≡◌, ℕ, List, [], ◌∷◌, subst}
use Rattle.apf_gate.specs.declared.record.Shape.{Shape}
use Rattle.apf_gate.specs.declared.record.Actor.TheVariants.{OfPass, OfDesk, OfStation}
use Rattle.apf_gate.specs.declared.record.PassRecord.{PassRecord}
use Rattle.apf_gate.specs.declared.record.DeskRecord.{DeskRecord}
use Rattle.apf_gate.specs.declared.record.StationRecord.{StationRecord}
use Rattle.apf_gate.specs.declared.record.Record.{Record}
use Rattle.apf_gate.specs.declared.record.Record.TheVariants.{Pass, Desk, Station}
use Rattle.apf_gate.specs.Account.{Account, IsSound, IsKnown}
use Rattle.apf_gate.specs.Explained.{KnowsTruly, IsExplained}
use Rattle.apf_gate.specs.Rule.{Every, IsRecord, IsKeptAt, IsRuled}
use Rattle.atomic_table.specs.Table.{State}

known : (s : Shape) (account : Account) → IsSound s account → (x : Record) → IsRecord s account x → KnowsTruly s account.trace x
known s account sound (Pass p) is = subst (λ (q : PassRecord). IsKnown s (OfPass p.number) q.knows account.trace) is.1 (sound.pass_knows p.number is.0)
known s account sound (Desk d) is = subst (λ (e : DeskRecord). IsKnown s OfDesk e.knows account.trace) is sound.desk_knows
known s account sound (Station t) is = subst (λ (u : StationRecord). IsKnown s (OfStation t.number) u.knows account.trace) is.1 (sound.station_knows t.number)

all_known : (s : Shape) (account : Account) (i : ℕ) → IsSound s account → (records : List Record) → Every (IsKeptAt s account i) records → Every (KnowsTruly s account.trace) records
all_known s account i sound [] kept = tt
all_known s account i sound (x ∷ xs) kept = (known s account sound x kept.0.1, all_known s account i sound xs kept.1)

pub explained : (s : Shape) (t : State (Unit {0}) (List Record)) → IsRuled s t → IsExplained s t
explained s t rule = record {
  trace = rule.account.trace;
  schedule = rule.sound.schedule;
  made = rule.sound.made;
  count = rule.packs.count;
  level = rule.packs.level;
  holder = rule.account.current;
  decisions = rule.packs.decisions;
  tokens = λ i records at. all_known s rule.account i rule.sound records (rule.views i records at).0;
}
