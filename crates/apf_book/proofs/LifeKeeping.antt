-- What keeps the Desk, the queues of slots and the notes in agreement with one history.
use Rattle.std.proofs.Common.{◌≡◌, ℕ, ◌<◌, false, List, [], ◌∷◌, length, Some, None, refl, sym, ap, ◌∙◌, subst, arith}
use Rattle.std.specs.Prelude.{Contains, slice_index}
use Rattle.apf_words.specs.declared.decision.Decision.TheVariants.{Cancelled}
use Rattle.apf_history.specs.declared.events.Event.{Event}
use Rattle.apf_history.specs.declared.events.Status.TheVariants as status_is
use Rattle.apf_model.specs.declared.response.Response.TheVariants.{Reject}
use Rattle.apf_model.specs.History.{request_of, has_arrived, waiting}
use Rattle.apf_model.specs.Order.{makes, AreStatuses}
use Rattle.apf_gate.specs.declared.record.Shape.{Shape}
use Rattle.apf_gate.specs.declared.record.Service.TheVariants.{Waiting}
use Rattle.apf_gate.specs.declared.record.DeskRecord.{DeskRecord}
use Rattle.apf_gate.specs.Slots.{slot_of, IsTicket}
use Rattle.apf_gate.specs.Gauges.{IsShape}
use Rattle.apf_gate.specs.Records.{told_of, service, KnowsMore}
use Rattle.apf_gate.specs.Requests.{WaitsAlone}
use Rattle.apf_gate.specs.Tokens.{DeskToken}
use Rattle.apf_queue.specs.View.{queue_in, StandsNowhere}
use Rattle.apf_book.specs.Histories.{Laws}
use Rattle.apf_book.specs.Life.{LifeView, IsLifeOf, SameSlots, AreAsked, sizes_in}
use Rattle.apf_book.specs.RecentEvents.{AreRecentEventsOf}
use Rattle.apf_book.specs.BookView.{logged}
use Rattle.apf_book.specs.Agreeing.{IsDeskOf}
use Rattle.apf_book.specs.Moves.{Moves}
use Rattle.apf_book.specs.Said.{saying, Says}
use Rattle.apf_book.specs.LifeBook.{LifeBookView, IsLifeKept}
use Rattle.apf_book.proofs.Agreeing.{agreed_quiet, agreed_after, agreed_waits, agreed_away_new, agreed_head}
use Rattle.apf_book.proofs.Asking.{Contains-holding}
use Rattle.apf_book.proofs.LifeAsks.{asks_then}

-- who waits alone, opened
pub alone_opened : (shape : Shape) (desk : DeskRecord) (r : ℕ) → WaitsAlone shape desk r → (other : ℕ) → other < length shape.widths → slot_of other ≡ slot_of r → service desk other ≡ Waiting → other ≡ r
unfolding WaitsAlone
alone_opened shape desk r alone = alone

module _ (v v' : LifeView) (b b' : LifeBookView) (kept : IsLifeKept v b) (more : KnowsMore b.desk.desk.knows b'.desk.desk.knows) where
  -- what a book keeps beside its history
  pub life_rekept : (b.desk.desk.knows.shape.response ≡ Reject → v'.history ≡ []) → length v'.costs ≡ length v.costs → SameSlots b.queues b'.queues → IsLifeOf v' b'.queues → IsDeskOf v'.history b'.desk.desk → AreRecentEventsOf v'.history b'.notes → (b'.queues.known ≡ false → AreAsked (sizes_in v' b'.queues) b'.desk.desk.knows.trace v'.costs v'.hands v'.history) → IsLifeKept v' b'
  life_rekept logs costs holders of agrees notes asks = record {
    of_life = of;
    agrees = agrees;
    notes = notes;
    one_cost_each = costs ∙ (kept.one_cost_each ∙ ap (λ (s : Shape). length s.widths) (sym more.shape));
    one_holder_each = holders.0 ∙ (kept.one_holder_each ∙ ap (λ (s : Shape). s.slots) (sym more.shape));
    no_queues = λ rejects. logs (ap (λ (s : Shape). s.response) (sym more.shape) ∙ rejects);
    asks = asks;
  }

-- steps that did nothing and said nothing
pub life_quiet : (v : LifeView) (b : LifeBookView) (desk' : DeskToken) → IsLifeKept v b → (desk'.desk.services ≡ b.desk.desk.services) × (desk'.desk.held ≡ b.desk.desk.held) → KnowsMore b.desk.desk.knows desk'.desk.knows → Says [] b.desk.desk.knows desk'.desk.knows
    → IsLifeKept v (record b { desk = desk' })
life_quiet v b desk' kept same more says =
    life_rekept v v b (record b { desk = desk' }) kept more kept.no_queues refl (refl, refl, refl) kept.of_life (agreed_quiet b.desk.desk desk'.desk v.history kept.agrees same more says) kept.notes (λ none. asks_then v b.queues b.queues b.desk.desk.knows desk'.desk.knows refl more (kept.asks none))

-- the history has an event more, which the Desk's steps made
pub life_came : (v v' : LifeView) (b b' : LifeBookView) (e : Event) → IsLifeKept v b → (b.desk.desk.knows.shape.response ≡ Reject → ⊥) → v'.history ≡ e ∷ v.history → length v'.costs ≡ length v.costs → SameSlots b.queues b'.queues → IsLifeOf v' b'.queues → AreRecentEventsOf (e ∷ v.history) b'.notes
    → Moves b.desk.desk (request_of e) (Some (makes e)) b'.desk.desk → Says (saying e ∷ []) b.desk.desk.knows b'.desk.desk.knows → b'.desk.desk.held ≡ None
    → (makes e ≡ status_is.Struck → told_of b'.desk.desk.knows.told (request_of e) ≡ Some Cancelled) → (b'.queues.known ≡ false → AreAsked (sizes_in v' b'.queues) b'.desk.desk.knows.trace v'.costs v'.hands v'.history) → IsLifeKept v' b'
life_came v v' b b' e kept queues history costs holders of notes moves says held told asks =
    life_rekept v v' b b' kept moves.more (λ rejects. absurd (queues rejects)) costs holders of
    (subst (λ (h : List Event). IsDeskOf h b'.desk.desk) (sym history) (agreed_after b.desk.desk b'.desk.desk v.history e kept.agrees moves says held told))
    (subst (λ (h : List Event). AreRecentEventsOf h b'.notes) (sym history) notes) asks

module _ (laws : Laws) (v : LifeView) (b : LifeBookView) (kept : IsLifeKept v b) where
  pub life_statuses : AreStatuses v.history
  life_statuses = laws.statuses v.hands v.limit v.history kept.of_life.fair.0

  -- who waits, the Desk has waiting
  pub life_waits : (q r : ℕ) → Contains (waiting v.history q) r → service b.desk.desk r ≡ Waiting
  life_waits q r member = agreed_waits v.history life_statuses b.desk.desk kept.agrees q r member

  -- and it is a request of the gate
  pub life_inside : (q r : ℕ) → Contains (waiting v.history q) r → r < length b.desk.desk.knows.shape.widths
  life_inside q r member =
      let named = (laws.numbers v.hands v.limit v.history kept.of_life.fair.0).waits_named (length v.costs) kept.of_life.names_requests q r member in
      let same = kept.one_cost_each in omega arith

  -- a request whose Pass was never handed over is new to the history
  pub life_new : (r : ℕ) → logged (service b.desk.desk r) ≡ Some status_is.Away → has_arrived v.history r ≡ false
  life_new r is = agreed_away_new v.history life_statuses b.desk.desk kept.agrees r is

  -- a slot that stands in a queue: the request that holds it waits there, and is a ticket of the gate
  module _ (q slot : ℕ) (stands : Contains (queue_in b.queues.queues q) slot) where
    pub holder_waits : Contains (waiting v.history q) (slice_index b.queues.holders slot)
    holder_waits = subst (λ (xs : List ℕ). Contains xs (slice_index b.queues.holders slot)) (kept.of_life.queue_is q) (Contains-holding b.queues.holders (queue_in b.queues.queues q) slot stands)

    pub holder_ticket : IsShape b.desk.desk.knows.shape → IsTicket b.desk.desk.knows.shape (slice_index b.queues.holders slot)
    holder_ticket shape =
        let low = life_inside q (slice_index b.queues.holders slot) holder_waits in
        let here = kept.of_life.in_slots q slot stands in
        let place = kept.of_life.in_place q slot stands in
        let count = kept.one_holder_each in
        let few = shape.few_numbers in
        record { inside = low; in_slot = omega arith; small = omega arith }

  -- the slot of a request that is new and waits alone, if it waits, stands in no queue
  pub new_stands_nowhere : (r : ℕ) → has_arrived v.history r ≡ false → WaitsAlone b.desk.desk.knows.shape b.desk.desk r → StandsNowhere b.queues.queues (slot_of r)
  new_stands_nowhere r new alone q stands =
      let other : ℕ = slice_index b.queues.holders (slot_of r) in
      let member = holder_waits q (slot_of r) stands in
      let same : other ≡ r = alone_opened b.desk.desk.knows.shape b.desk.desk r alone other (life_inside q other member) (kept.of_life.in_slots q (slot_of r) stands) (life_waits q other member) in
      let waits = (life_statuses.waits r).1 (q, subst (λ (i : ℕ). Contains (waiting v.history q) i) same member) in
      let away = (life_statuses.away r).1 new in
      let bad : status_is.Waits ≡ status_is.Away = sym waits ∙ away in cc

  -- a head that waits still
  pub life_head : (desk' : DeskToken) (q r : ℕ) → Contains (waiting v.history q) r → Moves b.desk.desk r (Some status_is.Waits) desk'.desk → Says [] b.desk.desk.knows desk'.desk.knows → desk'.desk.held ≡ None → IsLifeKept v (record b { desk = desk' })
  life_head desk' q r member moves says held =
      life_rekept v v b (record b { desk = desk' }) kept moves.more kept.no_queues refl (refl, refl, refl) kept.of_life (agreed_head v.history life_statuses b.desk.desk desk'.desk q r kept.agrees member moves says held) kept.notes (λ none. asks_then v b.queues b.queues b.desk.desk.knows desk'.desk.knows refl moves.more (kept.asks none))
