-- The choice that was found is the one choice.
use Rattle.std.proofs.Common.{subst, eq-eqb}
use Rattle.std.proofs.lemmas.Bool.{eqb-true}
use Rattle.apf_history.specs.History.{waiting}
use Rattle.apf_history.specs.Fair.{numbers, IsChoice}
use Rattle.apf_plain.proofs.Choices.{one_choice}
use Rattle.apf_plain.proofs.fair.is_choice.Goals as goal

pub returns-in-Some : goal.returns-in-Some
returns-in-Some c =
    let found : IsChoice c.args.queues c.args.widths.now (waiting c.args.history.now) (numbers c.args.queues c.args.widths.now c.args.history.now) c.in-Some.found = rw c.in-Some.is at c.in_ok-found.ensures in (
      λ same. subst (IsChoice c.args.queues c.args.widths.now (waiting c.args.history.now) (numbers c.args.queues c.args.widths.now c.args.history.now)) (eqb-true c.in-Some.found c.args.queue same) found,
      λ is. eq-eqb c.in-Some.found c.args.queue (one_choice c.args.queues c.args.widths.now c.args.history.now c.requires.names_queues c.in-Some.found c.args.queue found is),
    )
