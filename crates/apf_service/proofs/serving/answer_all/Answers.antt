-- From the first line to the book.
use Rattle.std.proofs.Common.{length, string_bytes}
use Rattle.apf_service.specs.Kept.{state_of}
use Rattle.apf_service.proofs.First.{first_of}
use Rattle.apf_service.proofs.Whole.{served_on}
use Rattle.apf_service.proofs.serving.answer_all.Goals as goal

pub returns-clause-served : goal.returns-clause-served
returns-clause-served g c = λ setup opened.
    served_on c.end.result setup (string_bytes c.args.service.now.name) (state_of c.args.service.now.level c.args.service.now.notes) (state_of c.answer_input.new.service.level c.answer_input.new.service.notes)
    (g.I.Read.remaining c.args.input.now) (g.I.Read.remaining c.answer_input.new.input) (g.O.Write.contents c.args.out.now) (g.O.Write.contents c.begin.new.out) (g.O.Write.contents c.answer_input.new.out) (g.O.Write.contents c.end.new.out)
    c.answer_input.new.lines c.in_ok-number.number opened.name_is opened.begun
    (first_of setup (length c.args.service.now.level.places) c.args.service.now.config (g.O.Write.contents c.args.out.now) (g.O.Write.contents c.begin.new.out) opened.begun.opened.count opened.config_is c.in_ok-begin.ensures.written) c.in_ok-number.ensures.answered c.end.ensures.told c.end.ensures.fault
