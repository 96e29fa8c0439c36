-- Of every request that ever held a slot, all tokens are told one decision.
use Rattle.std.specs.Prelude.{◌≡◌, ℕ, Some}
use Rattle.apf_words.specs.declared.decision.Decision.{Decision}
use Rattle.apf_gate.specs.declared.record.Shape.{Shape}
use Rattle.apf_gate.specs.declared.record.Actor.{Actor}
use Rattle.apf_gate.specs.declared.record.Actor.TheVariants.{OfPass, OfDesk, OfStation}
use Rattle.apf_gate.specs.declared.record.Knowledge.{Knowledge}
use Rattle.apf_gate.specs.Records.{told_of}
use Rattle.apf_gate.specs.Traces.{IsToken}
use Rattle.apf_gate.specs.Account.{Account, IsSound}

-- what a token knows. That of a request that left its slot is what its Pass knew when it left
abbrev pub knows_of : Account → Actor → Knowledge
knows_of account (OfPass r) = (account.pass r).knows
knows_of account OfDesk = account.desk.knows
knows_of account (OfStation k) = (account.station k).knows

abbrev pub AllAreToldTheSame : Type 0
AllAreToldTheSame = (shape : Shape) (account : Account) → IsSound shape account → (who other : Actor) → IsToken shape who → IsToken shape other
    → (r : ℕ) (d e : Decision) → told_of (knows_of account who).told r ≡ Some d → told_of (knows_of account other).told r ≡ Some e → d ≡ e
