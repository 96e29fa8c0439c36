-- The line that was cut off was taken, and its answer was written.
use Rattle.std.proofs.Common.{ℕ, List, string_bytes, subst}
use Rattle.std.specs.Io.KnownBytes.{Appends}
use Rattle.apf_service.specs.declared.serving.ServeFault.TheVariants.{CannotWrite}
use Rattle.apf_service.specs.Kept.{state_of}
use Rattle.apf_service.specs.Lines.{Serves}
use Rattle.apf_service.proofs.Answering.{by_written}
use Rattle.apf_service.proofs.Stating.{served_on}
use Rattle.apf_service.proofs.Taking.{takes_line, takes_long}
use Rattle.apf_service.proofs.serving.answer_next.Goals as goal

pub returns-in_ok-written-in-Line-clause-took : goal.returns-in_ok-written-in-Line-clause-took
returns-in_ok-written-in-Line-clause-took g c =
    let name = string_bytes c.args.service.now.name in
    let old = state_of c.args.service.now.level c.args.service.now.notes in
    let new = state_of c.take_line.new.self.level c.take_line.new.self.notes in
    let held = g.O.Write.contents c.args.out.now in
    let holds = g.O.Write.contents c.take_line.new.out in
    let served = served_on c.take_line.result name c.args.number c.line.result.now old new held holds c.take_line.ensures.served in
    let taken = by_written c.take_line.result c.written.result c.in_ok-written-in-Line.field-0 CannotWrite (Serves name c.args.number c.line.result.now old (Appends held holds) new) c.written.ensures c.in_ok-written-in-Line.was served in
    takes_line name c.args.number old new held holds c.args.lines.now c.cut.new.self c.in-Line.ensures
    (subst (λ (line : List ℕ). Serves name c.args.number line old (Appends held holds) new) c.line.ensures taken)

pub returns-in_ok-tell_fault-in-TooLong-clause-took : goal.returns-in_ok-tell_fault-in-TooLong-clause-took
returns-in_ok-tell_fault-in-TooLong-clause-took g c =
    let name = string_bytes c.args.service.now.name in
    let old = state_of c.args.service.now.level c.args.service.now.notes in
    let held = g.O.Write.contents c.args.out.now in
    let holds = g.O.Write.contents c.tell_fault.new.out in
    takes_long name c.args.number old held holds c.args.lines.now c.cut.new.self c.requires c.in-TooLong.ensures c.in_ok-tell_fault-in-TooLong.ensures.told
