-- Its Pass knows of all that it knew of.
use Rattle.std.proofs.Common.{◌++◌, ◌∙◌, List, ap}
use Rattle.std.proofs.lemmas.List.{append_assoc}
use Rattle.apf_gate.specs.declared.record.Entry.{Entry}
use Rattle.apf_run.proofs.rounds.worker.finish.Goals as goal

pub returns-after-named_by-clause-goes_on : goal.returns-after-named_by-clause-goes_on
returns-after-named_by-clause-goes_on g c =
    let first = c.arrive_and_wait-begun.ensures.goes_on in
    let then = c.give_back-owes.ensures.goes_on in
    (then.0 ++ first.0, append_assoc then.0 first.0 c.args.slot.now.pass.knows.trace ∙ (ap (λ (es : List Entry). then.0 ++ es) first.1 ∙ then.1))
