-- Whoever was told a decision was told what the world has, now as ever.
use Rattle.std.proofs.Common.{sym, ◌∙◌}
use Rattle.apf_gate.specs.declared.record.Shape.{Shape}
use Rattle.apf_gate.specs.declared.record.Actor.{Actor}
use Rattle.apf_gate.specs.declared.record.Actor.TheVariants.{OfPass, OfDesk, OfStation}
use Rattle.apf_gate.specs.Traces.{IsToken}
use Rattle.apf_gate.specs.Account.{Account, IsSound, IsKnown}
use Rattle.apf_gate.specs.Same.{knows_of, AllAreToldTheSame}
use Rattle.apf_gate.proofs.WordNumbers.{some_same}

known : (shape : Shape) (account : Account) → IsSound shape account → (who : Actor) → IsToken shape who → IsKnown shape who (knows_of account who) account.trace
known shape account sound (OfPass r) l = sound.pass_knows r l
known shape account sound OfDesk l = sound.desk_knows
known shape account sound (OfStation k) l = sound.station_knows k

pub all_are_told_the_same : AllAreToldTheSame
all_are_told_the_same shape account sound who other a b r d e is was =
    let x = (known shape account sound who a).told r (λ none. let z = sym is ∙ none in cc) in
    let y = (known shape account sound other b).told r (λ none. let z = sym was ∙ none in cc) in
    some_same d e (sym (x ∙ is) ∙ (y ∙ was))
