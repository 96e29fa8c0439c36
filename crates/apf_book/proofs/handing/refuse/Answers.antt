-- What a refusal did, and was told.
use Rattle.std.proofs.Common.{ℕ, Some, refl, sym, ap, subst}
use Rattle.apf_words.specs.declared.decision.Decision.TheVariants.{QueueFull, Closed, Cancelled}
use Rattle.apf_history.specs.declared.events.Status.TheVariants as status_is
use Rattle.apf_gate.specs.Records.{service}
use Rattle.apf_book.specs.BookView.{logged}
use Rattle.apf_book.specs.Moves.{LastTold}
use Rattle.apf_book.proofs.Moving.{moves_says, moves_to_refuse, refuse_tells, refuse_spares}
use Rattle.apf_book.proofs.Saying.{refuses_say}
use Rattle.apf_book.proofs.handing.refuse.Goals as goal

pub returns-in-QueueFull-clause-moves : goal.returns-in-QueueFull-clause-moves
returns-in-QueueFull-clause-moves g c =
    moves_says c.args.desk.now.desk c.refuse.new.desk.desk c.args.pass.now.pass.number (logged (service c.refuse.new.desk.desk c.args.pass.now.pass.number)) (Some status_is.Full) (ap logged (c.in-QueueFull.ensures.after.full refl))
    (moves_to_refuse (record { pass = c.args.pass.now.pass; desk = c.args.desk.now.desk }) (record { pass = c.refuse.new.pass.pass; desk = c.refuse.new.desk.desk }) c.args.decision QueueFull c.in-QueueFull.ensures.answer)

pub returns-in-QueueFull-clause-told : goal.returns-in-QueueFull-clause-told
returns-in-QueueFull-clause-told g c =
    (subst (λ (r : ℕ). LastTold c.args.desk.now.desk.knows r QueueFull c.refuse.new.desk.desk.knows) (sym c.in-QueueFull.ensures.same.number) (refuse_tells (record { pass = c.args.pass.now.pass; desk = c.args.desk.now.desk }) (record { pass = c.refuse.new.pass.pass; desk = c.refuse.new.desk.desk }) c.args.decision QueueFull c.in-QueueFull.ensures.answer), c.in-QueueFull.ensures.after.told_pass)

pub returns-in-Closed-clause-moves : goal.returns-in-Closed-clause-moves
returns-in-Closed-clause-moves g c =
    moves_says c.args.desk.now.desk c.refuse.new.desk.desk c.args.pass.now.pass.number (logged (service c.refuse.new.desk.desk c.args.pass.now.pass.number)) (Some status_is.Away) (ap logged (c.in-Closed.ensures.after.closed refl))
    (moves_to_refuse (record { pass = c.args.pass.now.pass; desk = c.args.desk.now.desk }) (record { pass = c.refuse.new.pass.pass; desk = c.refuse.new.desk.desk }) c.args.decision Closed c.in-Closed.ensures.answer)

pub returns-in-Closed-clause-told : goal.returns-in-Closed-clause-told
returns-in-Closed-clause-told g c =
    (subst (λ (r : ℕ). LastTold c.args.desk.now.desk.knows r Closed c.refuse.new.desk.desk.knows) (sym c.in-Closed.ensures.same.number) (refuse_tells (record { pass = c.args.pass.now.pass; desk = c.args.desk.now.desk }) (record { pass = c.refuse.new.pass.pass; desk = c.refuse.new.desk.desk }) c.args.decision Closed c.in-Closed.ensures.answer), c.in-Closed.ensures.after.told_pass)

pub returns-in-Cancelled-clause-moves : goal.returns-in-Cancelled-clause-moves
returns-in-Cancelled-clause-moves g c =
    moves_says c.args.desk.now.desk c.refuse.new.desk.desk c.args.pass.now.pass.number (logged (service c.refuse.new.desk.desk c.args.pass.now.pass.number)) (Some status_is.Away) ((refuse_spares (record { pass = c.args.pass.now.pass; desk = c.args.desk.now.desk }) (record { pass = c.refuse.new.pass.pass; desk = c.refuse.new.desk.desk }) c.args.decision c.requires.refusal c.in-Cancelled.ensures.answer c.requires.is_new))
    (moves_to_refuse (record { pass = c.args.pass.now.pass; desk = c.args.desk.now.desk }) (record { pass = c.refuse.new.pass.pass; desk = c.refuse.new.desk.desk }) c.args.decision Cancelled c.in-Cancelled.ensures.answer)

pub returns-in-Cancelled-clause-told : goal.returns-in-Cancelled-clause-told
returns-in-Cancelled-clause-told g c =
    (subst (λ (r : ℕ). LastTold c.args.desk.now.desk.knows r Cancelled c.refuse.new.desk.desk.knows) (sym c.in-Cancelled.ensures.same.number) (refuse_tells (record { pass = c.args.pass.now.pass; desk = c.args.desk.now.desk }) (record { pass = c.refuse.new.pass.pass; desk = c.refuse.new.desk.desk }) c.args.decision Cancelled c.in-Cancelled.ensures.answer), c.in-Cancelled.ensures.after.told_pass)

pub returns-in-QueueFull-clause-says : goal.returns-in-QueueFull-clause-says
returns-in-QueueFull-clause-says g c =
    refuses_say (record { pass = c.args.pass.now.pass; desk = c.args.desk.now.desk }) (record { pass = c.refuse.new.pass.pass; desk = c.refuse.new.desk.desk }) c.args.decision QueueFull c.requires.refusal c.requires.is_new c.in-QueueFull.ensures.answer

pub returns-in-Closed-clause-says : goal.returns-in-Closed-clause-says
returns-in-Closed-clause-says g c =
    refuses_say (record { pass = c.args.pass.now.pass; desk = c.args.desk.now.desk }) (record { pass = c.refuse.new.pass.pass; desk = c.refuse.new.desk.desk }) c.args.decision Closed c.requires.refusal c.requires.is_new c.in-Closed.ensures.answer

pub returns-in-Cancelled-clause-says : goal.returns-in-Cancelled-clause-says
returns-in-Cancelled-clause-says g c =
    refuses_say (record { pass = c.args.pass.now.pass; desk = c.args.desk.now.desk }) (record { pass = c.refuse.new.pass.pass; desk = c.refuse.new.desk.desk }) c.args.decision Cancelled c.requires.refusal c.requires.is_new c.in-Cancelled.ensures.answer
