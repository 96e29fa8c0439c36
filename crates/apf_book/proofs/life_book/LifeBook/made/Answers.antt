-- How a book for life begins.
use Rattle.std.proofs.Common.{rules, refl, sym, ◌∙◌, subst}
use Rattle.apf_gate.specs.Tokens.{DeskToken}
use Rattle.apf_book.specs.LifeBook.{IsLifeKept}
use Rattle.apf_book.proofs.LifeBeginning.{life_begins, beginning, is_beginning}
use Rattle.apf_book.proofs.life_book.LifeBook.made.Goals as goal

pub invariant_of-result-2 : goal.invariant_of-result-2
invariant_of-result-2 g c =
    let shape = c.args.desk.desk.knows.shape in
    let starts = is_beginning shape c.args.config.now.queues c.args.config.now.queue_length_limit c.is_of_a_gate.ensures.shape in
    record {
      view = beginning shape c.args.config.now.queues c.args.config.now.queue_length_limit;
      kept = subst (λ (d : DeskToken). IsLifeKept (beginning shape c.args.config.now.queues c.args.config.now.queue_length_limit) (record { desk = d; queues = c.in-Ok.ledger; notes = c.in_ok-new.field-0 })) (sym c.desk.view_is)
          (life_begins _ c.args.desk c.in-Ok.ledger c.in_ok-new.field-0 _ _ c.requires.begins.fresh (c.in-Ok.ensures.slots ∙ sym c.requires.begins.slots_are) starts refl
          (c.in-Ok.ensures.opening _ starts) c.in_ok-new.ensures.nothing);
    }

pub returns : goal.returns
returns g c = record {
  desk = search rules;
  room = search rules;
  hand = search rules;
  places = search rules;
  known_is = search rules;
  opens = λ v o costs. subst (λ (d : DeskToken). IsLifeKept v (record { desk = d; queues = c.in-Ok.ledger; notes = c.in_ok-new.field-0 })) (sym c.desk.view_is)
      (life_begins v c.args.desk c.in-Ok.ledger c.in_ok-new.field-0 _ _ c.requires.begins.fresh (c.in-Ok.ensures.slots ∙ sym c.requires.begins.slots_are) o costs
      (c.in-Ok.ensures.opening v o) c.in_ok-new.ensures.nothing);
  settings = search rules;
  fault = search rules;
}
