-- One turn of a book for life: what is dispatched next, and what became of it.
use Rattle.std.proofs.Common.{◌≡◌, ◌≢◌, Bool, false, ℕ, ◌+◌, ◌%◌, ◌^◌, ◌<◌, ◌++◌, inl, inr, cond, true, List, [], ◌∷◌, length, Option, Some, None, refl, sym, ap, ◌∙◌, subst, arith}
use Rattle.std.specs.Prelude.{Contains, count_by, slice_index, slice_get}
use Rattle.std.proofs.lemmas.List.{length-append, append_assoc}
use Rattle.std.proofs.lemmas.List.Sums.{sum_by-cons, sum_by-append}
use Rattle.apf_words.specs.Level.{Level}
use Rattle.apf_words.specs.declared.decision.Decision.{Decision}
use Rattle.apf_words.specs.declared.decision.Decision.TheVariants.{Execute, Cancelled}
use Rattle.apf_gate.specs.declared.record.Service.{Service}
use Rattle.apf_gate.specs.declared.record.Service.TheVariants.{NotHanded, Handed, RefusedFull, RefusedClosed, Waiting, Held, Settled, Left}
use Rattle.apf_gate.specs.Requests.{has_entered}
use Rattle.apf_gate.specs.DeskSteps.{DeskMayFind, DeskLoadsDecision, DeskSubtractsWaiter}
use Rattle.apf_history.specs.declared.events.Event.{Event}
use Rattle.apf_history.specs.declared.events.Event.TheVariants.{Enter, Full, Dispatch, Strike}
use Rattle.apf_history.specs.declared.events.Status.TheVariants as status_is
use Rattle.apf_model.specs.History.{waiting}
use Rattle.apf_model.specs.Outcome.{is_dispatch}
use Rattle.apf_gate.specs.declared.record.Shape.{Shape}
use Rattle.apf_gate.specs.declared.record.Knowledge.{Knowledge}
use Rattle.apf_gate.specs.Records.{told_of, service, KnowsMore}
use Rattle.apf_book.specs.BookView.{logged}
use Rattle.apf_book.specs.Histories.{Laws}
use Rattle.apf_gate.specs.Tokens.{DeskToken}
use Rattle.apf_queue.specs.View.{queue_in, IsChosen}
use Rattle.apf_queue.specs.declared.choice.Chosen.{Chosen}
use Rattle.apf_book.specs.Life.{LifeView, LifeState, IsLifeOf, SameSlots, then_came, IsNextIn}
use Rattle.apf_book.specs.RecentEvents.{RecentEventsView, AreRecentEventsOf}
use Rattle.apf_book.specs.Moves.{Moves, LastFound}
use Rattle.apf_book.specs.Servings.{AreServings}
use Rattle.apf_book.specs.Tries.{ServesSome, LosesGrant}
use Rattle.apf_book.specs.Said.{Says}
use Rattle.apf_book.specs.LifeBook.{LifeBookView, IsLifeKept, IsFirst, NextMisses, StopsAt, ServesLife, StrikesLife, then_came_all}
use Rattle.apf_book.specs.LifeCalls.{SameLifeBook}
use Rattle.apf_book.proofs.Lists.{first_contains, Contains-none}
use Rattle.apf_book.proofs.Knowing.{more_then, found_then, told_still}
use Rattle.apf_book.proofs.Moving.{moves_to}
use Rattle.apf_book.proofs.Saying.{loads_decision, leaves}
use Rattle.apf_book.proofs.Running.{count_within}
use Rattle.apf_book.proofs.Agreeing.{said_of_status, struck_waits_not}
use Rattle.apf_book.proofs.LifeAsks.{asks_then}
use Rattle.apf_book.proofs.LifeCharges.{log_of_both}
use Rattle.apf_book.proofs.LifeKeeping.{life_came, life_quiet, life_statuses}

-- the slot that was chosen stands in its queue
pub chosen_stands : (s : LifeState) (c : Chosen) → IsChosen s.queues c → Contains (queue_in s.queues c.queue) c.request
chosen_stands s c chosen = first_contains (queue_in s.queues c.queue) c.request chosen.is_head.is_first

-- what is dispatched next, by its number
pub next_is_first : (v : LifeView) (s : LifeState) (c : Chosen) (r : ℕ) → r ≡ slice_index s.holders c.request → IsNextIn v s c → IsFirst v r c.queue
next_is_first v s c r is next = record { is_choice = next.is_choice; is_first = next.is_first ∙ ap (λ (i : ℕ). Some i) (sym is) }

-- nobody waits before anything happened
none_waits : (h : List Event) (q r : ℕ) → h ≡ [] → Contains (waiting h q) r → ⊥
none_waits h q r nothing member = Contains-none r (subst (λ (h' : List Event). Contains (waiting h' q) r) nothing member)

none_first : (h : List Event) (q r : ℕ) → h ≡ [] → slice_get (waiting h q) 0 ≡ Some r → ⊥
none_first h q r nothing first = let bad : None ≡ Some r = subst (λ (h' : List Event). slice_get (waiting h' q) 0 ≡ Some r) nothing first in cc

-- it was dispatched
pub life_dispatched : (v : LifeView) (b b' : LifeBookView) (r q : ℕ) → IsLifeKept v b → SameSlots b.queues b'.queues → IsLifeOf (then_came v (Dispatch r q)) b'.queues → AreRecentEventsOf (Dispatch r q ∷ v.history) b'.notes
    → Moves b.desk.desk r (Some status_is.Dispatched) b'.desk.desk → Says ((r, status_is.Dispatched) ∷ []) b.desk.desk.knows b'.desk.desk.knows → b'.desk.desk.held ≡ None → IsLifeKept (then_came v (Dispatch r q)) b'
life_dispatched v b b' r q kept holders of notes moves says held = life_came v (then_came v (Dispatch r q)) b b' (Dispatch r q) kept (λ rejects. none_first v.history q r (kept.no_queues rejects) of.fair.0.0) refl refl holders of notes moves says held (λ e. absurd (cc)) (λ none. asks_then v b.queues b'.queues b.desk.desk.knows b'.desk.desk.knows holders.1 moves.more (kept.asks (sym holders.2 ∙ none)))

-- it was struck
pub life_struck : (v : LifeView) (b b' : LifeBookView) (r q : ℕ) → IsLifeKept v b → SameSlots b.queues b'.queues → IsLifeOf (then_came v (Strike r q)) b'.queues → AreRecentEventsOf (Strike r q ∷ v.history) b'.notes
    → Moves b.desk.desk r (Some status_is.Struck) b'.desk.desk → Says ((r, status_is.Struck) ∷ []) b.desk.desk.knows b'.desk.desk.knows → b'.desk.desk.held ≡ None → told_of b'.desk.desk.knows.told r ≡ Some Cancelled → IsLifeKept (then_came v (Strike r q)) b'
life_struck v b b' r q kept holders of notes moves says held told = life_came v (then_came v (Strike r q)) b b' (Strike r q) kept (λ rejects. none_waits v.history q r (kept.no_queues rejects) of.fair.0.0) refl refl holders of notes moves says held (λ e. told) (λ none. asks_then v b.queues b'.queues b.desk.desk.knows b'.desk.desk.knows holders.1 moves.more (kept.asks (sym holders.2 ∙ none)))

pub served_dispatch : (v : LifeView) (b b' : LifeBookView) (count r q : ℕ) (far : ServesSome v count b) → IsLifeKept (then_came (then_came_all far.events v) (Dispatch r q)) b' → ServesSome v ((count + 1) % 18446744073709551616) b'
served_dispatch v b b' count r q far kept = record {
  events = Dispatch r q ∷ far.events;
  kept = kept;
  servings = far.servings;
  dispatches = λ few.
      let one = sum_by-cons (λ (e : Event). cond (is_dispatch e) 1 0) (Dispatch r q) far.events in
      let was = far.dispatches (omega (arith, few)) in
      let within = count_within is_dispatch far.events in
      let long = length-append far.events v.history in
      omega (arith, few);
}

pub served_strike : (v : LifeView) (b b' : LifeBookView) (count r q : ℕ) (far : ServesSome v count b) → IsLifeKept (then_came (then_came_all far.events v) (Strike r q)) b' → ServesSome v count b'
served_strike v b b' count r q far kept = record {
  events = Strike r q ∷ far.events;
  kept = kept;
  servings = far.servings;
  dispatches = λ few.
      let one = sum_by-cons (λ (e : Event). cond (is_dispatch e) 1 0) (Strike r q) far.events in
      let was = far.dispatches (omega (arith, few)) in omega arith;
}

pub served_same : (v : LifeView) (b b' : LifeBookView) (count : ℕ) (far : ServesSome v count b) → IsLifeKept (then_came_all far.events v) b' → ServesSome v count b'
served_same v b b' count far kept = record { events = far.events; kept = kept; servings = far.servings; dispatches = far.dispatches }

-- who is dispatched next misses after earlier turns
pub next_misses_then : (v : LifeView) (a b c : Knowledge) → KnowsMore a b → NextMisses v b c → NextMisses v a c
next_misses_then v a b c more misses = record {
  request = misses.request;
  queue = misses.queue;
  is_next = misses.is_next;
  misses = subst (λ (s : Shape). LastFound a s.widths misses.request c) more.shape (found_then a b c b.shape.widths misses.request more misses.misses);
}

pub stops_then : (v : LifeView) (a b c : Knowledge) → KnowsMore a b → StopsAt v b c → StopsAt v a c
stops_then v a b c more (inl nobody) = inl nobody
stops_then v a b c more (inr misses) = inr (next_misses_then v a b c more misses)

-- the book of both calls is the same one
pub same_book_then : (a b c : LifeBookView) → SameLifeBook a b → SameLifeBook b c → SameLifeBook a c
same_book_then a b c first then = record {
  gate = then.gate ∙ first.gate;
  more = more_then a.desk.desk.knows b.desk.desk.knows c.desk.desk.knows first.more then.more;
  queues = then.queues ∙ first.queues;
  room = then.room ∙ first.room;
  hand = then.hand ∙ first.hand;
  known = then.known ∙ first.known;
  places = then.places ∙ first.places;
}

-- a request that waits is struck: the Desk read its word, and it left
pub life_left : (v : LifeView) (b : LifeBookView) (read left : DeskToken) (queues : LifeState) (notes : RecentEventsView) (r q : ℕ) (found : Option Decision) (level : Level) → IsLifeKept v b
    → (read.desk.services ≡ b.desk.desk.services) × (read.desk.held ≡ b.desk.desk.held) → KnowsMore b.desk.desk.knows read.desk.knows → DeskLoadsDecision r b.desk.desk found read.desk
    → left.desk.services ≡ (r, Left) ∷ read.desk.services → left.desk.held ≡ read.desk.held → KnowsMore read.desk.knows left.desk.knows → DeskSubtractsWaiter r read.desk level left.desk
    → told_of read.desk.knows.told r ≡ Some Cancelled → SameSlots b.queues queues → IsLifeOf (then_came v (Strike r q)) queues → AreRecentEventsOf (Strike r q ∷ v.history) notes
    → IsLifeKept (then_came v (Strike r q)) (record { desk = left; queues = queues; notes = notes })
life_left v b read left queues notes r q found level kept served more loads services held more' leaving told holders of noted =
    life_struck v (record b { desk = read }) (record { desk = left; queues = queues; notes = notes }) r q
    (life_quiet v b read kept served more (loads_decision b.desk.desk read.desk r found loads)) holders of noted
    (moves_to read.desk left.desk r Left services more') (leaves read.desk left.desk r level leaving)
    (held ∙ (served.1 ∙ kept.agrees.holds_none)) (told_still read.desk.knows left.desk.knows r Cancelled more' told)

-- a request that entered, does not wait any more, and is decided cancelled was let leave
pub was_left : (x : Service) (found : Option Decision) → has_entered x ≡ true → DeskMayFind x found → found ≡ Some Cancelled → (x ≡ Waiting → ⊥) → (x ≡ Held → ⊥) → x ≡ Left
was_left NotHanded found entered may is waits held = absurd (cc)
was_left Handed found entered may is waits held = absurd (cc)
was_left RefusedFull found entered may is waits held = absurd (cc)
was_left RefusedClosed found entered may is waits held = absurd (cc)
was_left Waiting found entered may is waits held = absurd (waits refl)
was_left Held found entered may is waits held = absurd (held refl)
was_left Settled found entered may is waits held = absurd (let bad : Some Execute ≡ Some Cancelled = sym may ∙ is in cc)
was_left Left found entered may is waits held = refl

module _ (laws : Laws) (v : LifeView) (b : LifeBookView) (kept : IsLifeKept v b) (r : ℕ) (found : Option Decision) (entered : has_entered (service b.desk.desk r) ≡ true) (may : DeskMayFind (service b.desk.desk r) found) (is : found ≡ Some Cancelled) (out : (q : ℕ) → Contains (waiting v.history q) r → ⊥) where
  pub left_by_then : service b.desk.desk r ≡ Left
  left_by_then = was_left (service b.desk.desk r) found entered may is
      (λ waits. let member = ((life_statuses laws v b kept).waits r).0 (ap said_of_status (sym (kept.agrees.did r) ∙ ap logged waits)) in out member.0 member.1)
      (λ held. let bad = sym (ap logged held) ∙ kept.agrees.did r in cc)

-- a strike between two hearings
pub strikes_heard : (v : LifeView) (a b c d : LifeBookView) (r : ℕ) (answer : Bool) → KnowsMore a.desk.desk.knows b.desk.desk.knows → StrikesLife v b r answer c → ((w : LifeView) → IsLifeKept w c → IsLifeKept w d) → StrikesLife v a r answer d
strikes_heard v a b c d r true more strikes keeps = (strikes.0, strikes.1, keeps (then_came v (Strike r strikes.0)) strikes.2)
strikes_heard v a b c d r false more strikes keeps = (keeps v strikes.0, λ told q. strikes.1 (λ none. told (sym (more.told r told) ∙ none)) q)

-- a history in which a request does not wait
pub record IsOutOf (b : LifeBookView) (r : ℕ) : Type 0 where
  pub view : LifeView
  pub kept : IsLifeKept view b
  pub out : (q : ℕ) → Contains (waiting view.history q) r → ⊥

pub out_by_then : (laws : Laws) (v : LifeView) (b c : LifeBookView) (r : ℕ) (answer : Bool) → StrikesLife v b r answer c → told_of b.desk.desk.knows.told r ≢ None → IsOutOf c r
out_by_then laws v b c r true strikes told = record {
  view = then_came v (Strike r strikes.0);
  kept = strikes.2;
  out = struck_waits_not v.history r strikes.0 (life_statuses laws (then_came v (Strike r strikes.0)) c strikes.2);
}
out_by_then laws v b c r false strikes told = record { view = v; kept = strikes.0; out = strikes.1 told }

servings_append : (a b : List Event) → AreServings a → AreServings b → AreServings (a ++ b)
servings_append [] b are more = more
servings_append (Enter r q ∷ a) b are more = absurd are
servings_append (Full r q ∷ a) b are more = absurd are
servings_append (Dispatch r q ∷ a) b are more = servings_append a b are more
servings_append (Strike r q ∷ a) b are more = servings_append a b are more

-- events that came after others
came_twice : (a b : List Event) (v : LifeView) → then_came_all (a ++ b) v ≡ then_came_all a (then_came_all b v)
came_twice a b v = λ i. record v { history = append_assoc a b v.history i; log = log_of_both a b v.log i }

-- more turns after those so far
module _ (v : LifeView) (b b' : LifeBookView) (count more : ℕ) (far : ServesSome v count b) where
  appended : (events : List Event) → AreServings events → (length (events ++ (far.events ++ v.history)) < 2 ^ 64 → count_by is_dispatch events ≡ more) → (length ((events ++ far.events) ++ v.history) < 2 ^ 64) → count_by is_dispatch (events ++ far.events) ≡ (count + more) % 2 ^ 64
  appended events servings then few =
      let assoc = append_assoc events far.events v.history in
      let long = subst (λ (h : List Event). length h < 2 ^ 64) assoc few in
      let whole = length-append events (far.events ++ v.history) in
      let rest = length-append far.events v.history in
      let mine = length-append events far.events in
      let was = far.dispatches (omega (arith, long)) in
      let now = then long in
      let sum = sum_by-append (λ (e : Event). cond (is_dispatch e) 1 0) events far.events in
      let all = count_within is_dispatch (events ++ far.events) in
      omega (arith, few)

  pub served_then : (last : ServesSome (then_came_all far.events v) more b') → ServesSome v ((count + more) % 2 ^ 64) b'
  served_then last = record {
    events = last.events ++ far.events;
    kept = subst (λ (w : LifeView). IsLifeKept w b') (sym (came_twice last.events far.events v)) last.kept;
    servings = servings_append last.events far.events last.servings far.servings;
    dispatches = appended last.events last.servings last.dispatches;
  }

  pub serves_then : (last : ServesLife (then_came_all far.events v) b more b') (a : LifeBookView) → KnowsMore a.desk.desk.knows b.desk.desk.knows → ServesLife v a ((count + more) % 2 ^ 64) b'
  serves_then last a knows = record {
    events = last.events ++ far.events;
    kept = subst (λ (w : LifeView). IsLifeKept w b') (sym (came_twice last.events far.events v)) last.kept;
    servings = servings_append last.events far.events last.servings far.servings;
    dispatches = appended last.events last.servings last.dispatches;
    stops = subst (λ (w : LifeView). StopsAt w a.desk.desk.knows b'.desk.desk.knows) (sym (came_twice last.events far.events v)) (stops_then (then_came_all last.events (then_came_all far.events v)) a.desk.desk.knows b.desk.desk.knows b'.desk.desk.knows knows last.stops);
  }

pub loses_then : (a b c : LifeBookView) → KnowsMore a.desk.desk.knows b.desk.desk.knows → LosesGrant b c → LosesGrant a c
loses_then a b c more lost = record { request = lost.request; before = lost.before; more = more_then a.desk.desk.knows b.desk.desk.knows lost.before.knows more lost.more; raced = lost.raced }
