-- A refusal after a look at the level word.
use Rattle.apf_gate.specs.Records.{service}
use Rattle.apf_book.specs.BookView.{logged}
use Rattle.apf_book.specs.Arrivals.{after_handing}
use Rattle.apf_book.proofs.Arriving.{refused_then}
use Rattle.apf_book.proofs.Moving.{moves_same, moves_then}
use Rattle.apf_book.specs.Said.{said_handing}
use Rattle.apf_book.proofs.Saying.{loads_level, quiet_then}
use Rattle.apf_book.proofs.handing.refuse_full.Goals as goal

pub returns-then-closed-clause-moves : goal.returns-then-closed-clause-moves
returns-then-closed-clause-moves g c =
    moves_then c.args.desk.now.desk c.view.new.desk.desk c.refuse.new.desk.desk c.args.pass.now.pass.number (logged (service c.args.desk.now.desk c.args.pass.now.pass.number)) (after_handing c.refuse.result)
    (moves_same c.args.desk.now.desk c.view.new.desk.desk c.args.pass.now.pass.number c.view.ensures.after.served.0 c.view.ensures.same.more)
    c.refuse.ensures.moves

pub returns-then-closed-clause-told : goal.returns-then-closed-clause-told
returns-then-closed-clause-told g c =
    refused_then c.refuse.result c.refuse.new.pass.pass c.args.desk.now.desk.knows c.view.new.desk.desk.knows c.refuse.new.desk.desk.knows c.view.ensures.same.more c.refuse.ensures.told

pub returns-clause-moves : goal.returns-clause-moves
returns-clause-moves g c =
    moves_then c.args.desk.now.desk c.view.new.desk.desk c.refuse-2.new.desk.desk c.args.pass.now.pass.number (logged (service c.args.desk.now.desk c.args.pass.now.pass.number)) (after_handing c.refuse-2.result)
    (moves_same c.args.desk.now.desk c.view.new.desk.desk c.args.pass.now.pass.number c.view.ensures.after.served.0 c.view.ensures.same.more)
    c.refuse-2.ensures.moves

pub returns-clause-told : goal.returns-clause-told
returns-clause-told g c =
    refused_then c.refuse-2.result c.refuse-2.new.pass.pass c.args.desk.now.desk.knows c.view.new.desk.desk.knows c.refuse-2.new.desk.desk.knows c.view.ensures.same.more c.refuse-2.ensures.told

pub returns-then-closed-clause-says : goal.returns-then-closed-clause-says
returns-then-closed-clause-says g c =
    quiet_then (said_handing c.refuse.result c.args.pass.now.pass.number) c.args.desk.now.desk.knows c.view.new.desk.desk.knows c.refuse.new.desk.desk.knows
    (loads_level c.args.desk.now.desk c.view.new.desk.desk c.view.result c.view.ensures.answer) c.refuse.ensures.says

pub returns-clause-says : goal.returns-clause-says
returns-clause-says g c =
    quiet_then (said_handing c.refuse-2.result c.args.pass.now.pass.number) c.args.desk.now.desk.knows c.view.new.desk.desk.knows c.refuse-2.new.desk.desk.knows
    (loads_level c.args.desk.now.desk c.view.new.desk.desk c.view.result c.view.ensures.answer) c.refuse-2.ensures.says
