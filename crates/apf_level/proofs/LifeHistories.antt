-- What a history of a level's book is.
use Rattle.std.proofs.Common.{◌≡◌, ℕ, ◌≤◌, ◌<◌, inl, inr, Bool, true, false, List, [], ◌++◌, length, refl, sym, ap, ◌∙◌, subst, arith}
use Rattle.std.specs.Prelude.{◌==◌, not}
use Rattle.std.proofs.lemmas.Bool.{cases_lt}
use Rattle.std.proofs.lemmas.List.{get_or_past}
use Rattle.apf_history.specs.declared.events.Event.{Event}
use Rattle.apf_history.specs.declared.events.Event.TheVariants.{Strike}
use Rattle.apf_model.specs.World.{width}
use Rattle.apf_model.specs.Schedule.{AreWidths}
use Rattle.apf_model.specs.History.{has_arrived}
use Rattle.apf_gate.specs.declared.record.Entry.{Entry}
use Rattle.apf_gate.specs.declared.record.Shape.{Shape}
use Rattle.apf_gate.specs.Gauges.{IsShape}
use Rattle.apf_gate.specs.Slots.{IsTicket}
use Rattle.apf_book.specs.Life.{LifeView, IsOpening, asked, then_came, then_settled}
use Rattle.apf_book.specs.LifeBook.{LifeBookView, IsLifeKept, ServesLife, StrikesLife, SettlesLife, then_came_all}
use Rattle.apf_book.specs.LifeCalls.{SameLifeBook}
use Rattle.apf_line.specs.Laws.{HasHistories, LevelHistories}
use Rattle.apf_line.specs.Levels.{LifeId, IsBookOf}
use Rattle.apf_level.specs.LifeArrivals.{Came}
use Rattle.apf_line.specs.Stopped.{IsStopped}

-- the laws of a level's books, opened
pub opened : LevelHistories → HasHistories
unfolding LevelHistories
opened laws = laws

-- the book is the level's still, when it is of a history with the same limit of queues
pub still_own : (k : LifeId) (b b' : LifeBookView) (v v' : LifeView) → IsBookOf k b → SameLifeBook b b' → IsLifeKept v b → IsLifeKept v' b' → v'.limit ≡ v.limit → IsBookOf k b'
still_own k b b' v v' own same kept kept' limit = record {
  gate = same.gate ∙ own.gate;
  queues = same.queues ∙ own.queues;
  limit = kept'.of_life.limit ∙ (limit ∙ (sym kept.of_life.limit ∙ own.limit));
  hand = same.hand ∙ own.hand;
  settles = ap (λ (n : ℕ). not (n == 0)) same.places ∙ own.settles;
  known = same.known ∙ own.known;
}

-- the event of an arrival was the newest of the history of this book, and the Pass knew then what its Desk did
pub came : (laws : HasHistories) (k : LifeId) (known known' : List Entry) (v : LifeView) (b : LifeBookView) (r : ℕ) (hand : List ℕ) (cost : ℕ) (e : Event) → IsBookOf k b → has_arrived v.history r ≡ false → (later : List Entry) × (later ++ known ≡ b.desk.desk.knows.trace) → known' ≡ b.desk.desk.knows.trace → IsLifeKept (then_came (asked v r hand cost) e) b → Came k known r hand cost e known'
came laws k known known' v b r hand cost e own new heard follows kept = record {
  older = v;
  trace = b.desk.desk.knows.trace;
  goes_on = heard;
  heard = ([], sym follows);
  of_level = laws.of_level k (then_came (asked v r hand cost) e) b own kept;
  says = kept.agrees.said;
  is_new = new;
}

-- a history in which nothing happened yet, of a gate of this shape
abbrev pub beginning : Shape → ℕ → ℕ → LifeView
beginning shape many limit = record { history = []; log = []; costs = shape.widths; hands = λ r. []; queues = many; limit = limit }

low : (widths : List ℕ) → AreWidths widths → (r : ℕ) → width widths r ≤ 20000
low widths are r = elim (cases_lt r (length widths)) [
  | inl l ↦ (are r l).1
  | inr past ↦ (let none = get_or_past widths r 0 past in omega arith)
]

pub is_beginning : (shape : Shape) (many limit : ℕ) → IsShape shape → IsOpening (beginning shape many limit) many limit
is_beginning shape many limit is = record {
  nothing = refl;
  no_log = refl;
  queues_are = refl;
  limit_is = refl;
  low = λ r. (let l = low shape.widths is.widths r in omega arith);
  few = let k = is.few_numbers in omega arith;
}

-- the first request of each slot has a ticket
pub first_ticket : (shape : Shape) → IsShape shape → (slot : ℕ) → slot < shape.slots → IsTicket shape slot
first_ticket shape is slot inside =
    let all = is.all_slots in
    let few = is.few_slots in
    record { inside = omega arith; in_slot = omega arith; small = omega arith }

-- a history that goes on from one with the same queues
pub record GoesOn (v : LifeView) (b' : LifeBookView) : Type 0 where
  pub view : LifeView
  pub kept : IsLifeKept view b'
  pub limit : view.limit ≡ v.limit

pub after_strike : (v : LifeView) (b b' : LifeBookView) (r : ℕ) (struck : Bool) → StrikesLife v b r struck b' → GoesOn v b'
after_strike v b b' r true strikes = record { view = then_came v (Strike r strikes.0); kept = strikes.2; limit = refl }
after_strike v b b' r false strikes = record { view = v; kept = strikes.0; limit = refl }

pub after_settle : (v : LifeView) (b b' : LifeBookView) (r m : ℕ) (settled : Bool) → IsLifeKept v b → SettlesLife v b r m settled b' → GoesOn v b'
after_settle v b b' r m true kept settles = record { view = then_settled v r settles.0.queue settles.0.amount m; kept = settles.3; limit = refl }
after_settle v b b' r m false kept settles = record { view = v; kept = subst (λ (x : LifeBookView). IsLifeKept v x) (sym settles.0) kept; limit = refl }

-- after serving the book is the level's still, and at rest
pub record Rests (k : LifeId) (b' : LifeBookView) : Type 0 where
  pub own : IsBookOf k b'
  pub stopped : IsStopped b'

pub rests : (laws : HasHistories) (k : LifeId) (v : LifeView) (b b' : LifeBookView) (count : ℕ) → IsBookOf k b → IsLifeKept v b → SameLifeBook b b' → ServesLife v b count b' → Rests k b'
rests laws k v b b' count own kept same served = record {
  own = still_own k b b' v (then_came_all served.events v) own same kept served.kept refl;
  stopped = laws.served v b b' count same served;
}
