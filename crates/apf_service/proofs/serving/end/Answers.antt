-- The rest was told, and then the book.
use Rattle.apf_service.specs.declared.serving.ServeFault.TheVariants.{CannotWrite}
use Rattle.apf_service.specs.Kept.{state_of}
use Rattle.apf_service.proofs.Ending.{told_end, book_on}
use Rattle.apf_service.proofs.Answering.{by_written}
use Rattle.apf_service.proofs.serving.end.Goals as goal

pub returns-clause-told : goal.returns-clause-told
returns-clause-told g c =
    let old = state_of c.args.service.now.level c.args.service.now.notes in
    let new = state_of c.write_book.new.self.level c.write_book.new.self.notes in
    let held = g.O.Write.contents c.args.out.now in
    let between = g.O.Write.contents c.tell_rest.new.out in
    let behind = g.O.Write.contents c.write_book.new.out in
    let holds = g.O.Write.contents c.flush.new.out in
    let book = by_written c.write_book.result c.written.result c.in_ok-written.field-0 CannotWrite _ c.written.ensures c.in_ok-written.was (book_on c.write_book.result old new between behind c.write_book.ensures.told) in
    told_end c.flush.result c.args.number old new c.args.lines.now held between behind holds c.in_ok-tell_rest.ensures.told book c.flush.ensures.kept
