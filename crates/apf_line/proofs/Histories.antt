-- What a history of a level's book is.
use Rattle.std.proofs.Common.{ℕ, length, refl, sym, ap, ◌∙◌, subst}
use Rattle.apf_flow.specs.Sizes.{Sizes}
use Rattle.apf_model.specs.History.{NamesRequests}
use Rattle.apf_gate.specs.declared.record.Entry.{Entry}
use Rattle.apf_gate.specs.Tokens.{GateId}
use Rattle.apf_book.specs.Life.{LifeView, AreAsked}
use Rattle.apf_book.specs.LifeBook.{LifeBookView, IsLifeKept}
use Rattle.apf_line.specs.Levels.{LifeId, IsBookOf, IsHistoryOf, nothing_yet}
use Rattle.std.proofs.Common.{List, arith}

pub history_of : (k : LifeId) (v : LifeView) (b : LifeBookView) → IsBookOf k b → IsLifeKept v b → IsHistoryOf k b.desk.desk.knows.trace v
history_of k v b own kept = record {
  fair = kept.of_life.fair;
  events_are = kept.of_life.events_are;
  unsettled = λ none. kept.of_life.unsettled (own.settles ∙ none);
  names_requests = subst (λ (n : ℕ). NamesRequests n v.history) (kept.one_cost_each ∙ ap (λ (g : GateId). length g.shape.widths) own.gate) kept.of_life.names_requests;
  names_queues = kept.of_life.names_queues;
  low = kept.of_life.low;
  queues_are = sym kept.of_life.deck ∙ own.queues;
  limit_is = sym kept.of_life.limit ∙ own.limit;
  asks = subst (λ (s : Sizes). AreAsked s b.desk.desk.knows.trace v.costs v.hands v.history) (λ i. record { deck = (sym kept.of_life.deck ∙ own.queues) i; hand = own.hand i }) (kept.asks own.known);
}

pub is_nothing_yet : (k : LifeId) (trace : List Entry) → IsHistoryOf k trace (nothing_yet k)
is_nothing_yet k trace = record {
  fair = (tt, tt);
  events_are = refl;
  unsettled = λ none. refl;
  names_requests = tt;
  names_queues = tt;
  low = λ r. omega arith;
  queues_are = refl;
  limit_is = refl;
  asks = tt;
}
