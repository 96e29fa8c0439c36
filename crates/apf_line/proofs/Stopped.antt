-- A book at rest: how it comes to that, and what it says of the level word now.
use Rattle.std.proofs.Common.{◌≡◌, ◌⊎◌, inl, inr, ℕ, zero, ◌<◌, List, [], ◌∷◌, ◌++◌, length, Option, Some, None, refl, sym, ap, ◌∙◌, subst, arith}
use Rattle.std.specs.Prelude.{Contains, slice_get}
use Rattle.apf_words.specs.Fits.{Fits}
use Rattle.apf_words.specs.Level.{Level}
use Rattle.apf_history.specs.declared.events.Event.{Event}
use Rattle.apf_history.specs.declared.events.Status.{Status}
use Rattle.apf_model.specs.World.{width, seats, FitsIn}
use Rattle.apf_model.specs.History.{waiting, IsLegal}
use Rattle.apf_model.specs.Order.{AreStatuses, AreCounted}
use Rattle.apf_gate.specs.declared.record.Shape.{Shape}
use Rattle.apf_gate.specs.declared.record.Actor.TheVariants.{OfDesk}
use Rattle.apf_gate.specs.declared.record.Entry.{Entry}
use Rattle.apf_gate.specs.declared.record.Knowledge.{Knowledge}
use Rattle.apf_gate.specs.declared.record.DeskRecord.{DeskRecord}
use Rattle.apf_gate.specs.Records.{level_of, service}
use Rattle.apf_gate.specs.Traces.{NoneOf, world_of}
use Rattle.apf_gate.specs.Steps.{SawLevel}
use Rattle.apf_gate.specs.Account.{Account, IsSound}
use Rattle.apf_gate.specs.Owing.{DeskLoads, NoDispatchIsLost}
use Rattle.apf_book.specs.Life.{LifeView}
use Rattle.apf_book.specs.LifeBook.{LifeBookView, IsLifeKept, ServesLife, NobodyWaits, then_came_all}
use Rattle.apf_book.specs.LifeCalls.{SameLifeBook}
use Rattle.apf_line.specs.Stopped.{FirstWaits, Stopping, IsAtRest, IsRemembered}
use Rattle.apf_line.proofs.Ended.{waits_then}

look : (v : LifeView) (known : Knowledge) → Stopping v known → NobodyWaits v ⊎ FirstWaits v known
unfolding Stopping
look v known is = is

close : (v : LifeView) (known : Knowledge) → NobodyWaits v ⊎ FirstWaits v known → Stopping v known
unfolding Stopping
close v known is = is

-- where serving stops, the book is at rest
pub at_rest : (v : LifeView) (b b' : LifeBookView) (count : ℕ) → SameLifeBook b b' → ServesLife v b count b' → IsAtRest b'
at_rest v b b' count same served = record {
  view = then_came_all served.events v;
  kept = served.kept;
  stopping = close (then_came_all served.events v) b'.desk.desk.knows (elim served.stops [
    | inl nothing ↦ inl nothing
    | inr misses ↦ inr (record {
      request = misses.request;
      queue = misses.queue;
      is_next = misses.is_next;
      before = misses.misses.between;
      level = misses.misses.level;
      found = misses.misses.step;
      no_room = subst (λ (s : Shape). ¬ Fits misses.misses.level.seats misses.misses.level.limit (width s.widths misses.request)) (sym same.more.shape) misses.misses.no_room;
    })
  ]);
}

-- a book in which nothing happened yet is at rest
pub begins_at_rest : (v : LifeView) (b : LifeBookView) → v.history ≡ [] → IsLifeKept v b → IsAtRest b
begins_at_rest v b empty kept = record { view = v; kept = kept; stopping = close v b.desk.desk.knows (inl (λ q. ap (λ (h : List Event). waiting h q) empty)) }

others_load : (es : List Entry) → NoneOf OfDesk es → DeskLoads es
others_load [] none = tt
others_load (e ∷ es) none = (λ own. absurd (none.0 own), others_load es none.1)

first_contains : (xs : List ℕ) (r : ℕ) → slice_get xs 0 ≡ Some r → Contains xs r
first_contains [] r is = cc
first_contains (x ∷ xs) r is = (zero, omega arith, (let same : x ≡ r = (let here : ◌≡◌ {A = Option ℕ} (Some x) (Some r) = is in cc) in same))

module _ (statuses : (hands : ℕ → List ℕ) (limit : ℕ) (h : List Event) → IsLegal hands limit h → AreStatuses h)
    (counted : (hands : ℕ → List ℕ) (limit : ℕ) (h : List Event) → IsLegal hands limit h → AreCounted h)
    (lost : NoDispatchIsLost) (shape : Shape) (account : Account) (b : LifeBookView) (sound : IsSound shape account) (same : account.desk ≡ b.desk.desk) where
  same_shape : b.desk.desk.knows.shape ≡ shape
  same_shape = ap (λ (d : DeskRecord). d.knows.shape) (sym same) ∙ sound.desk_knows.shape_is

  remembered : (v : LifeView) → IsLifeKept v b → FirstWaits v b.desk.desk.knows → IsRemembered shape account v
  remembered v kept waits =
      let r : ℕ = waits.request in
      let legal = kept.of_life.fair.0 in
      let stands : Contains (waiting v.history waits.queue) r = first_contains (waiting v.history waits.queue) r waits.is_next.is_first in
      let in_view = (counted v.hands v.limit v.history legal).waits_named (length v.costs) kept.of_life.names_requests waits.queue r stands in
      let low : r < length shape.widths = (let a = kept.one_cost_each in let c = ap (λ (s : Shape). length s.widths) same_shape in omega arith) in
      let service_is = ap (λ (d : DeskRecord). service d r) same
      ∙ waits_then (service b.desk.desk r) (kept.agrees.did r ∙ ap (λ (s : Status). Some s) (((statuses v.hands v.limit v.history legal).waits r).1 (waits.queue, stands))) in
      let newest = sound.desk_knows.newer in
      let loads = others_load newest.0 newest.2 in
      let owed = lost shape account sound r low service_is newest.0 account.desk.knows.trace newest.1 loads in
      let step = subst (λ (k : Knowledge). SawLevel OfDesk waits.before waits.level None k) (ap (λ (d : DeskRecord). d.knows) (sym same)) waits.found in
      let shape_was : waits.before.shape ≡ shape = sym step.more.shape ∙ sound.desk_knows.shape_is in
      let found : level_of shape.widths (world_of shape account.desk.knows.trace) ≡ waits.level =
      subst (λ (s : Shape). level_of s.widths (world_of s account.desk.knows.trace) ≡ waits.level) shape_was
      (ap (λ (k : Knowledge). level_of waits.before.shape.widths (world_of waits.before.shape k.trace)) step.is_after ∙ step.found) in
      let no_room = subst (λ (s : Shape). ¬ Fits waits.level.seats waits.level.limit (width s.widths r)) same_shape waits.no_room in
      record {
        request = r;
        queue = waits.queue;
        is_next = waits.is_next;
        later = newest.0;
        saw = account.desk.knows.trace;
        since = newest.1;
        loads = loads;
        no_room = λ none fits. no_room (
            let in_trace : FitsIn shape.widths (world_of shape (newest.0 ++ account.desk.knows.trace)) r = subst (λ (es : List Entry). FitsIn shape.widths (world_of shape es) r) (sym newest.1) fits in
            let same_seats = owed.seats none ∙ ap (λ (l : Level). l.seats) found in
            let same_limit = owed.limit none ∙ ap (λ (l : Level). l.limit) found in
            subst (λ n. Fits n waits.level.limit (width shape.widths r)) same_seats
            (subst (λ n. Fits (seats shape.widths (world_of shape (newest.0 ++ account.desk.knows.trace))) n (width shape.widths r)) same_limit in_trace));
        owes = owed.owes;
        saw_is = refl;
        before = waits.before;
        level = waits.level;
        found = step;
        found_no_room = no_room;
      }

  pub not_forgotten : (rest : IsAtRest b) → NobodyWaits rest.view ⊎ IsRemembered shape account rest.view
  not_forgotten rest = elim (look rest.view b.desk.desk.knows rest.stopping) [
    | inl nothing ↦ inl nothing
    | inr waits ↦ inr (remembered rest.view rest.kept waits)
  ]
