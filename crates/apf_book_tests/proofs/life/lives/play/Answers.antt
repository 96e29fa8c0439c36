-- The book that was opened has the queues of its config.
use Rattle.std.proofs.Common.{◌≡◌, ℕ, ◌≤◌, inl, inr, List, [], length, Some, refl, sym, ap, ◌∙◌, arith}
use Rattle.std.proofs.lemmas.List.Elements.{All-pop}
use Rattle.std.proofs.lemmas.Bool.{cases_lt}
use Rattle.std.proofs.lemmas.List.{get_or_past}
use Rattle.apf_model.specs.World.{width}
use Rattle.apf_model.specs.Schedule.{AreWidths}
use Rattle.apf_gate.specs.declared.record.Shape.{Shape}
use Rattle.apf_gate.specs.Gauges.{IsShape}
use Rattle.apf_gate.specs.Tokens.{GateId, StationToken, station_gate}
use Rattle.apf_book.specs.Life.{LifeView, IsOpening}
use Rattle.apf_book_tests.proofs.life.lives.play.Goals as goal

low : (widths : List ℕ) → AreWidths widths → (r : ℕ) → width widths r ≤ 20000
low widths are r = elim (cases_lt r (length widths)) [
  | inl l ↦ (are r l).1
  | inr past ↦ (let none = get_or_past widths r 0 past in omega arith)
]

-- a history in which nothing happened yet
abbrev beginning : Shape → ℕ → ℕ → LifeView
beginning shape queues limit = record { history = []; log = []; costs = shape.widths; hands = λ r. []; queues = queues; limit = limit }

begins : (shape : Shape) (queues limit : ℕ) → IsShape shape → IsOpening (beginning shape queues limit) queues limit
begins shape queues limit is = record {
  nothing = refl;
  no_log = refl;
  queues_are = refl;
  limit_is = refl;
  low = λ r. (let l = low shape.widths is.widths r in omega arith);
  few = let k = is.few_numbers in omega arith;
}

pub of-level-requires-clause-sizes : goal.of-level-requires-clause-sizes
of-level-requires-clause-sizes g c =
    let shape = c.args.opened.1.desk.knows.shape in
    let deck = (c.in-Ok.ensures.opens (beginning shape c.args.config.now.queues c.args.config.now.queue_length_limit) (begins shape c.args.config.now.queues c.args.config.now.queue_length_limit c.is_of_a_gate.ensures.shape) refl).of_life.deck in
    let dealer = c.in-Ok-new.ensures.sizes in
    λ i. record { deck = (deck ∙ sym dealer.0) i; hand = (c.in-Ok.ensures.hand ∙ sym dealer.1) i }

pub of-level-requires-clause-has_queues : goal.of-level-requires-clause-has_queues
of-level-requires-clause-has_queues g c = ap (λ (x : GateId). x.shape.response) (sym c.requires.gate) ∙ c.requires.has_queues

pub of-level-requires-clause-station : goal.of-level-requires-clause-station
of-level-requires-clause-station g c =
    (All-pop (λ (t : StationToken). station_gate t ≡ c.args.opened.0) _ c.pop.new.self.items (Some c.in-Some.station) c.in-Some.ensures.items c.requires.stations).1 ∙ c.requires.gate
