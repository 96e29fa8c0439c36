-- How a book for life begins.
use Rattle.std.proofs.Common.{◌≡◌, ℕ, ◌≤◌, inl, inr, List, [], length, refl, sym, ap, subst, arith}
use Rattle.std.proofs.lemmas.Bool.{cases_lt}
use Rattle.std.proofs.lemmas.List.{get_or_past}
use Rattle.apf_history.specs.declared.events.Event.{Event}
use Rattle.apf_model.specs.World.{width}
use Rattle.apf_model.specs.Schedule.{AreWidths}
use Rattle.apf_gate.specs.declared.record.DeskRecord.{DeskRecord}
use Rattle.apf_gate.specs.declared.record.Shape.{Shape}
use Rattle.apf_gate.specs.Gauges.{IsShape}
use Rattle.apf_gate.specs.Records.{new_desk, service}
use Rattle.apf_gate.specs.Tokens.{DeskToken}
use Rattle.apf_book.specs.BookView.{logged}
use Rattle.apf_book.specs.Said.{sayings}
use Rattle.apf_book.specs.Agreeing.{IsDeskOf}
use Rattle.apf_book.specs.Life.{LifeView, LifeState, IsLifeOf, AreAsked, sizes_in, IsOpening}
use Rattle.apf_book.specs.RecentEvents.{RecentEventsView, AreRecentEventsOf}
use Rattle.apf_book.specs.LifeBook.{IsLifeKept}

-- a Desk that made no step is in agreement with an empty history
agreed_new_desk : (desk : DeskRecord) → desk ≡ new_desk desk.knows.shape → IsDeskOf [] desk
agreed_new_desk desk fresh = record {
  did = λ r. ap (λ (d : DeskRecord). logged (service d r)) fresh;
  holds_none = ap (λ (d : DeskRecord). d.held) fresh;
  said = ap (λ (d : DeskRecord). sayings d.knows.trace) (sym fresh);
  struck = λ r struck. cc;
}

pub life_begins : (v : LifeView) (desk : DeskToken) (queues : LifeState) (notes : RecentEventsView) (many limit : ℕ) → desk.desk ≡ new_desk desk.desk.knows.shape → length queues.holders ≡ desk.desk.knows.shape.slots
    → IsOpening v many limit → length v.costs ≡ length desk.desk.knows.shape.widths → IsLifeOf v queues → AreRecentEventsOf [] notes → IsLifeKept v (record { desk = desk; queues = queues; notes = notes })
life_begins v desk queues notes many limit fresh slots o costs of nothing = record {
  of_life = of;
  agrees = subst (λ (h : List Event). IsDeskOf h desk.desk) (sym o.nothing) (agreed_new_desk desk.desk fresh);
  notes = subst (λ (h : List Event). AreRecentEventsOf h notes) (sym o.nothing) nothing;
  one_cost_each = costs;
  one_holder_each = slots;
  no_queues = λ rejects. o.nothing;
  asks = λ none. subst (λ (h : List Event). AreAsked (sizes_in v queues) desk.desk.knows.trace v.costs v.hands h) (sym o.nothing) tt;
}

-- a history in which nothing happened yet, of a gate of this shape
abbrev pub beginning : Shape → ℕ → ℕ → LifeView
beginning shape many limit = record { history = []; log = []; costs = shape.widths; hands = λ r. []; queues = many; limit = limit }

low : (widths : List ℕ) → AreWidths widths → (r : ℕ) → width widths r ≤ 20000
low widths are r = elim (cases_lt r (length widths)) [
  | inl l ↦ (are r l).1
  | inr past ↦ (let none = get_or_past widths r 0 past in omega arith)
]

pub is_beginning : (shape : Shape) (many limit : ℕ) → IsShape shape → IsOpening (beginning shape many limit) many limit
is_beginning shape many limit is = record {
  nothing = refl;
  no_log = refl;
  queues_are = refl;
  limit_is = refl;
  low = λ r. (let l = low shape.widths is.widths r in omega arith);
  few = let k = is.few_numbers in omega arith;
}
