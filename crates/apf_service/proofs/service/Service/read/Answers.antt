-- The command of a line, or its first fault.
use Rattle.std.proofs.Common.{rules, Ok}
use Rattle.std.proofs.lemmas.Result.{IfOk-weaker}
use Rattle.apf_protocol.specs.Lines.{words as words_of}
use Rattle.apf_service.specs.Kept.{state_of}
use Rattle.apf_service.proofs.Faults.{command_by, fault_of_words, fault_from}
use Rattle.apf_service.proofs.service.Service.read.Goals as goal

pub returns-in-Ok-clause-ok : goal.returns-in-Ok-clause-ok
returns-in-Ok-clause-ok c =
    IfOk-weaker c.read_command.result _ _
    (λ command is. command_by (state_of c.args.self.now.level c.args.self.now.notes) c.args.line.now (words_of c.in-Ok.form) (Ok command) c.in-Ok.ensures.ok is)
    c.read_command.ensures.ok

pub returns-in-Ok-clause-err : goal.returns-in-Ok-clause-err
returns-in-Ok-clause-err c =
    fault_from (state_of c.args.self.now.level c.args.self.now.notes) c.args.line.now (words_of c.in-Ok.form) c.read_command.result
    c.in-Ok.ensures.ok c.read_command.ensures.err c.read_command.ensures.found c.read_command.ensures.memory

pub returns-in-Err-clause-err : goal.returns-in-Err-clause-err
returns-in-Err-clause-err c =
    fault_of_words (state_of c.args.self.now.level c.args.self.now.notes) c.args.line.now c.in-Err.kind c.from.result.kind c.from.result.found
    c.in-Err.ensures.err (search (c.from.ensures, rules)) (search (c.from.ensures, rules))
