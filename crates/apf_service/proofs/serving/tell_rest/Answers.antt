-- Bytes behind the last line are told, if there are any.
use Rattle.std.proofs.lemmas.Result.{on_ok_weaker}
use Rattle.apf_service.proofs.Answering.{no_rest}
use Rattle.apf_service.proofs.Stating.{some_rest}
use Rattle.apf_service.proofs.serving.tell_rest.Goals as goal

pub returns-then-has_rest-clause-told : goal.returns-then-has_rest-clause-told
returns-then-has_rest-clause-told g c =
    let held = g.O.Write.contents c.args.out.now in
    let holds = g.O.Write.contents c.tell_fault.new.out in
    on_ok_weaker c.tell_fault.result (λ told rest u. some_rest c.args.number rest held holds (c.if-has_rest.ensures rest u) told) c.tell_fault.ensures.told

pub returns-else-has_rest-clause-told : goal.returns-else-has_rest-clause-told
returns-else-has_rest-clause-told g c = λ rest u. no_rest c.args.number rest (g.O.Write.contents c.args.out.now) (c.if-has_rest.ensures rest u)
