-- A refusal after a try to enter that found the level closed, and what the try itself did.
use Rattle.std.proofs.Common.{ℕ, Some, ap, ◌∙◌, subst}
use Rattle.apf_history.specs.declared.events.Status.TheVariants as status_is
use Rattle.apf_gate.specs.declared.answers.TryEnter.TheVariants as tried
use Rattle.apf_gate.specs.Records.{service}
use Rattle.apf_book.specs.Arrivals.{after_handing}
use Rattle.apf_book.specs.BookView.{logged}
use Rattle.apf_book.specs.Moves.{Moves}
use Rattle.apf_book.proofs.Arriving.{refused_then}
use Rattle.apf_book.proofs.Moving.{moves_then, moves_to_enter}
use Rattle.apf_book.specs.Said.{said_handing, Says}
use Rattle.apf_book.proofs.Saying.{quiet_then, tries_say}
use Rattle.apf_book.proofs.handing.try_hand.Goals as goal

pub returns-in-Entered-clause-moves : goal.returns-in-Entered-clause-moves
returns-in-Entered-clause-moves g c = moves_to_enter (record { pass = c.args.pass.now.pass; desk = c.args.desk.now.desk }) (record { pass = c.try_enter.new.pass.pass; desk = c.try_enter.new.desk.desk }) tried.Entered c.in-Entered.ensures.answer c.requires.is_new

pub returns-in-Entered-clause-says : goal.returns-in-Entered-clause-says
returns-in-Entered-clause-says g c = tries_say (record { pass = c.args.pass.now.pass; desk = c.args.desk.now.desk }) (record { pass = c.try_enter.new.pass.pass; desk = c.try_enter.new.desk.desk }) tried.Entered c.in-Entered.ensures.answer

pub returns-in-Raced-clause-moves : goal.returns-in-Raced-clause-moves
returns-in-Raced-clause-moves g c = moves_to_enter (record { pass = c.args.pass.now.pass; desk = c.args.desk.now.desk }) (record { pass = c.try_enter.new.pass.pass; desk = c.try_enter.new.desk.desk }) tried.Raced c.in-Raced.ensures.answer c.requires.is_new

pub returns-in-Raced-clause-says : goal.returns-in-Raced-clause-says
returns-in-Raced-clause-says g c = tries_say (record { pass = c.args.pass.now.pass; desk = c.args.desk.now.desk }) (record { pass = c.try_enter.new.pass.pass; desk = c.try_enter.new.desk.desk }) tried.Raced c.in-Raced.ensures.answer

pub refuse-requires-clause-is_new : goal.refuse-requires-clause-is_new
refuse-requires-clause-is_new g c = ap (λ (i : ℕ). logged (service c.try_enter.new.desk.desk i)) c.in-Closed.ensures.same.number ∙ (moves_to_enter (record { pass = c.args.pass.now.pass; desk = c.args.desk.now.desk }) (record { pass = c.try_enter.new.pass.pass; desk = c.try_enter.new.desk.desk }) tried.Closed c.in-Closed.ensures.answer c.requires.is_new).here

pub returns-in-Closed-clause-moves : goal.returns-in-Closed-clause-moves
returns-in-Closed-clause-moves g c =
    let first = moves_to_enter (record { pass = c.args.pass.now.pass; desk = c.args.desk.now.desk }) (record { pass = c.try_enter.new.pass.pass; desk = c.try_enter.new.desk.desk }) tried.Closed c.in-Closed.ensures.answer c.requires.is_new in
    moves_then c.args.desk.now.desk c.try_enter.new.desk.desk c.refuse.new.desk.desk c.args.pass.now.pass.number (Some status_is.Away) (after_handing c.refuse.result) first
    (subst (λ (r : ℕ). Moves c.try_enter.new.desk.desk r (after_handing c.refuse.result) c.refuse.new.desk.desk) c.in-Closed.ensures.same.number c.refuse.ensures.moves)

pub returns-in-Closed-clause-told : goal.returns-in-Closed-clause-told
returns-in-Closed-clause-told g c =
    refused_then c.refuse.result c.refuse.new.pass.pass c.args.desk.now.desk.knows c.try_enter.new.desk.desk.knows c.refuse.new.desk.desk.knows c.in-Closed.ensures.same.more c.refuse.ensures.told

pub returns-in-Closed-clause-says : goal.returns-in-Closed-clause-says
returns-in-Closed-clause-says g c =
    let first = tries_say (record { pass = c.args.pass.now.pass; desk = c.args.desk.now.desk }) (record { pass = c.try_enter.new.pass.pass; desk = c.try_enter.new.desk.desk }) tried.Closed c.in-Closed.ensures.answer in
    quiet_then (said_handing c.refuse.result c.args.pass.now.pass.number) c.args.desk.now.desk.knows c.try_enter.new.desk.desk.knows c.refuse.new.desk.desk.knows first
    (subst (λ (r : ℕ). Says (said_handing c.refuse.result r) c.try_enter.new.desk.desk.knows c.refuse.new.desk.desk.knows) c.in-Closed.ensures.same.number c.refuse.ensures.says)
