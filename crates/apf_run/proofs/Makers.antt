-- What a token made in a trace, it made before the steps of others that came last.
use Rattle.std.proofs.Common.{◌≡◌, true, List, [], ◌∷◌, ◌++◌, Some, ⊎_elim}
use Rattle.apf_model.specs.declared.moves.Move.{Move}
use Rattle.apf_model.specs.declared.moves.Move.TheVariants.{Close}
use Rattle.apf_gate.specs.declared.record.Shape.{Shape}
use Rattle.apf_gate.specs.declared.record.Actor.{Actor}
use Rattle.apf_gate.specs.declared.record.Entry.{Entry}
use Rattle.apf_gate.specs.Traces.{NoneOf, world_of, Made, MadeFirstClose}

pub made_own : (later saw : List Entry) (who : Actor) (m : Move) → NoneOf who later → Made (later ++ saw) who m → Made saw who m
made_own [] saw who m none k = k
made_own (x ∷ later) saw who m none k = ⊎_elim (λ (o : (x.by ≡ who) × (x.step ≡ Some m)). absurd (none.0 o.0)) (λ (o : Made (later ++ saw) who m). made_own later saw who m none.1 o) k

pub close_own : (s : Shape) (later saw : List Entry) (who : Actor) → NoneOf who later → MadeFirstClose s (later ++ saw) who → MadeFirstClose s saw who
close_own s [] saw who none k = k
close_own s (x ∷ later) saw who none k = ⊎_elim (λ (o : (x.by ≡ who) × (x.step ≡ Some Close) × ((world_of s (later ++ saw)).is_open ≡ true)). absurd (none.0 o.0)) (λ (o : MadeFirstClose s (later ++ saw) who). close_own s later saw who none.1 o) k
