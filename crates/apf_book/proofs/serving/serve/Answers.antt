-- What was tried with the head of a queue.
use Rattle.std.proofs.Common.{rules, Some, [], ◌∷◌, refl, ap, ◌∙◌}
use Rattle.apf_history.specs.declared.events.Status.TheVariants as status_is
use Rattle.apf_gate.specs.declared.record.Service.TheVariants.{Held, Left}
use Rattle.apf_gate.specs.Records.{service}
use Rattle.apf_book.specs.BookView.{logged}
use Rattle.apf_book.specs.Servings.{after_serving}
use Rattle.apf_book.proofs.Knowing.{loads_miss}
use Rattle.apf_book.proofs.Moving.{moves_same, moves_to, moves_then, moves_says}
use Rattle.apf_book.specs.Said.{said_serving}
use Rattle.apf_book.proofs.Saying.{loads_decision, leaves, grants, grants_no_room, grants_raced, quiet_then}
use Rattle.apf_book.proofs.serving.serve.Goals as goal

pub returns-in-Some-Cancelled-clause-moves : goal.returns-in-Some-Cancelled-clause-moves
returns-in-Some-Cancelled-clause-moves g c =
    moves_then c.args.desk.now.desk c.seen.new.desk.desk c.leave.new.desk.desk c.args.request (logged (service c.args.desk.now.desk c.args.request)) (logged Left)
    (moves_same c.args.desk.now.desk c.seen.new.desk.desk c.args.request c.seen.ensures.after.served.0 c.seen.ensures.same.more)
    (moves_to c.seen.new.desk.desk c.leave.new.desk.desk c.args.request Left c.leave.ensures.after.services c.leave.ensures.same.more)

pub returns-in-NoRoom-clause-moves : goal.returns-in-NoRoom-clause-moves
returns-in-NoRoom-clause-moves g c =
    let r = c.args.request in
    let seen = moves_same c.args.desk.now.desk c.seen.new.desk.desk r c.seen.ensures.after.served.0 c.seen.ensures.same.more in
    let waits = seen.here ∙ ap logged c.requires.waits in
    moves_then c.args.desk.now.desk c.seen.new.desk.desk c.try_grant.new.desk.desk r (logged (service c.args.desk.now.desk r)) (Some status_is.Waits) seen
    (moves_says c.seen.new.desk.desk c.try_grant.new.desk.desk r (logged (service c.seen.new.desk.desk r)) (Some status_is.Waits) waits
    (moves_same c.seen.new.desk.desk c.try_grant.new.desk.desk r (c.in-NoRoom.ensures.after.not_granted (λ e. cc)).0 c.in-NoRoom.ensures.same.more))

pub returns-in-Raced-clause-moves : goal.returns-in-Raced-clause-moves
returns-in-Raced-clause-moves g c =
    let r = c.args.request in
    let seen = moves_same c.args.desk.now.desk c.seen.new.desk.desk r c.seen.ensures.after.served.0 c.seen.ensures.same.more in
    let waits = seen.here ∙ ap logged c.requires.waits in
    moves_then c.args.desk.now.desk c.seen.new.desk.desk c.try_grant.new.desk.desk r (logged (service c.args.desk.now.desk r)) (Some status_is.Waits) seen
    (moves_says c.seen.new.desk.desk c.try_grant.new.desk.desk r (logged (service c.seen.new.desk.desk r)) (Some status_is.Waits) waits
    (moves_same c.seen.new.desk.desk c.try_grant.new.desk.desk r (c.in-Raced.ensures.after.not_granted (λ e. cc)).0 c.in-Raced.ensures.same.more))

pub returns-in-Granted-clause-moves : goal.returns-in-Granted-clause-moves
returns-in-Granted-clause-moves g c =
    let r = c.args.request in
    let seen = moves_same c.args.desk.now.desk c.seen.new.desk.desk r c.seen.ensures.after.served.0 c.seen.ensures.same.more in
    moves_then c.args.desk.now.desk c.try_grant.new.desk.desk c.settle.new.desk.desk r (logged Held) (after_serving c.settle.result)
    (moves_then c.args.desk.now.desk c.seen.new.desk.desk c.try_grant.new.desk.desk r (logged (service c.args.desk.now.desk r)) (logged Held) seen
    (moves_to c.seen.new.desk.desk c.try_grant.new.desk.desk r Held (c.in-Granted.ensures.after.held refl).1 c.in-Granted.ensures.same.more))
    c.settle.ensures.moves

pub returns-in-Some-Cancelled-clause-says : goal.returns-in-Some-Cancelled-clause-says
returns-in-Some-Cancelled-clause-says g c =
    quiet_then ((c.args.request, status_is.Struck) ∷ []) c.args.desk.now.desk.knows c.seen.new.desk.desk.knows c.leave.new.desk.desk.knows (loads_decision c.args.desk.now.desk c.seen.new.desk.desk c.args.request c.seen.result c.seen.ensures.answer)
    (leaves c.seen.new.desk.desk c.leave.new.desk.desk c.args.request c.leave.ensures.answer.0 c.leave.ensures.answer.1)

pub returns-in-NoRoom-clause-says : goal.returns-in-NoRoom-clause-says
returns-in-NoRoom-clause-says g c =
    quiet_then [] c.args.desk.now.desk.knows c.seen.new.desk.desk.knows c.try_grant.new.desk.desk.knows (loads_decision c.args.desk.now.desk c.seen.new.desk.desk c.args.request c.seen.result c.seen.ensures.answer)
    (grants_no_room c.seen.new.desk.desk c.try_grant.new.desk.desk c.args.request c.in-NoRoom.ensures.answer)

pub returns-in-Raced-clause-says : goal.returns-in-Raced-clause-says
returns-in-Raced-clause-says g c =
    quiet_then [] c.args.desk.now.desk.knows c.seen.new.desk.desk.knows c.try_grant.new.desk.desk.knows (loads_decision c.args.desk.now.desk c.seen.new.desk.desk c.args.request c.seen.result c.seen.ensures.answer)
    (grants_raced c.seen.new.desk.desk c.try_grant.new.desk.desk c.args.request c.in-Raced.ensures.answer)

pub returns-in-Granted-clause-says : goal.returns-in-Granted-clause-says
returns-in-Granted-clause-says g c =
    quiet_then (said_serving c.settle.result c.args.request) c.args.desk.now.desk.knows c.try_grant.new.desk.desk.knows c.settle.new.desk.desk.knows
    (quiet_then [] c.args.desk.now.desk.knows c.seen.new.desk.desk.knows c.try_grant.new.desk.desk.knows (loads_decision c.args.desk.now.desk c.seen.new.desk.desk c.args.request c.seen.result c.seen.ensures.answer)
    (grants c.seen.new.desk.desk c.try_grant.new.desk.desk c.args.request c.in-Granted.ensures.answer)) c.settle.ensures.says

pub returns-in-NoRoom-clause-no_room : goal.returns-in-NoRoom-clause-no_room
returns-in-NoRoom-clause-no_room g c = λ _. loads_miss c.args.desk.now.desk c.seen.new.desk.desk c.try_grant.new.desk.desk c.args.request c.seen.result c.in-NoRoom.ensures.answer.0 c.args.gate.now.shape.widths
    c.seen.ensures.answer (search rules) c.in-NoRoom.ensures.answer.1 (search rules)
