-- A book that stopped: how it comes to that, what keeps it so, and what it says of the level word now.
use Rattle.std.proofs.Common.{◌≡◌, ◌⊎◌, inl, inr, ℕ, zero, suc, ◌<◌, List, [], ◌∷◌, ◌++◌, length, Option, None, refl, sym, ap, ◌∙◌, subst, arith}
use Rattle.std.specs.Prelude.{Contains}
use Rattle.std.proofs.lemmas.List.{append_assoc}
use Rattle.std.proofs.Math.Logic.{∥∥₁_map}
use Rattle.apf_words.specs.Fits.{Fits}
use Rattle.apf_words.specs.Level.{Level}
use Rattle.apf_words.specs.declared.decision.Decision.{Decision}
use Rattle.apf_history.specs.declared.events.Event.{Event}
use Rattle.apf_model.specs.World.{width, seats, FitsIn}
use Rattle.apf_model.specs.History.{waiting}
use Rattle.apf_gate.specs.declared.record.Shape.{Shape}
use Rattle.apf_gate.specs.declared.record.Actor.TheVariants.{OfDesk}
use Rattle.apf_gate.specs.declared.record.Entry.{Entry}
use Rattle.apf_gate.specs.declared.record.Knowledge.{Knowledge}
use Rattle.apf_gate.specs.declared.record.DeskRecord.{DeskRecord}
use Rattle.apf_gate.specs.Records.{level_of, KnowsMore}
use Rattle.apf_gate.specs.Traces.{entry, NoneOf, world_of}
use Rattle.apf_gate.specs.Steps.{SawDecision}
use Rattle.apf_gate.specs.DeskSteps.{DeskLoadsDecision}
use Rattle.apf_gate.specs.Account.{Account, IsSound}
use Rattle.apf_gate.specs.Owing.{DeskLoads, NoDispatchIsLost}
use Rattle.apf_book.specs.LedgerView.{LedgerView, NothingWaits}
use Rattle.apf_book.specs.BookView.{IsKept}
use Rattle.apf_book.specs.Servings.{Stops}
use Rattle.apf_book.specs.Histories.{Laws}
use Rattle.apf_book.specs.Stopped.{LoadedDecisions, HeadWaits, Stopping, IsStopped, IsRemembered, NoRequestIsForgotten}
use Rattle.apf_book.proofs.Keeping.{member_waits}
use Rattle.apf_book.proofs.Lists.{first_contains}

-- the steps of others are no moves of the Desk
others_load : (es : List Entry) → NoneOf OfDesk es → DeskLoads es
others_load [] none = tt
others_load (e ∷ es) none = (λ own. absurd (none.0 own), others_load es none.1)

load_both : (es fs : List Entry) → DeskLoads es → DeskLoads fs → DeskLoads (es ++ fs)
load_both [] fs one other = other
load_both (e ∷ es) fs one other = (one.0, load_both es fs one.1 other)

-- what the trace says of loads of decision words
pub record AreLoads (known known' : Knowledge) : Type 0 where
  pub shape : known'.shape ≡ known.shape
  pub newer : List Entry
  pub trace : known'.trace ≡ newer ++ known.trace
  pub loads : DeskLoads newer

are_loads : (n : ℕ) (known known' : Knowledge) → LoadedDecisions n known known' → AreLoads known known'
are_loads zero known known' same = record { shape = ap (λ (k : Knowledge). k.shape) same; newer = []; trace = ap (λ (k : Knowledge). k.trace) same; loads = tt }
are_loads (suc n) known known' since =
    let before = are_loads n known since.0 since.1 in
    let step = since.2.1.1 in
    record {
      shape = step.more.shape ∙ before.shape;
      newer = entry OfDesk None ∷ (step.between ++ before.newer);
      trace = ap (λ (k : Knowledge). k.trace) step.is_after
          ∙ ap (λ (es : List Entry). entry OfDesk None ∷ es) (ap (λ (es : List Entry). step.between ++ es) before.trace ∙ sym (append_assoc step.between before.newer known.trace));
      loads = (λ _. refl, load_both step.between before.newer (others_load step.between step.of_others) before.loads);
    }

-- a stopped book, opened and closed
pub look : (v : LedgerView) (known : Knowledge) → Stopping v known → NothingWaits v ⊎ HeadWaits v known
unfolding Stopping
look v known is = is

pub close : (v : LedgerView) (known : Knowledge) → NothingWaits v ⊎ HeadWaits v known → Stopping v known
unfolding Stopping
close v known is = is

-- nothing waits in an empty log
pub begins_stopped : (v : LedgerView) (known : Knowledge) → v.history ≡ [] → IsStopped v known
begins_stopped v known empty = ∣ close v known (inl (λ q. ap (λ (h : List Event). waiting h q) empty)) ∣₁

-- where serving stops, the book is stopped
pub stopped : (v : LedgerView) (known known' : Knowledge) → KnowsMore known known' → Stops v known known' → IsStopped v known'
stopped v known known' more stops = ∣ close v known' (elim stops [
  | inl nothing ↦ inl nothing
  | inr misses ↦ inr (record {
    head = misses.head;
    is_next = misses.is_next;
    before = misses.misses.between;
    level = misses.misses.level;
    last = known';
    found = misses.misses.step;
    no_room = subst (λ (s : Shape). ¬ Fits misses.misses.level.seats misses.misses.level.limit (width s.widths misses.head.request)) (sym more.shape) misses.misses.no_room;
    loads = 0;
    since = refl;
  })
]) ∣₁

-- the head waits still after a load of a decision word
head_waits : (v : LedgerView) (known known' : Knowledge) (r : ℕ) (found : Option Decision) → SawDecision OfDesk known r found found None known' → HeadWaits v known → HeadWaits v known'
head_waits v known known' r found step waits = record {
  head = waits.head;
  is_next = waits.is_next;
  before = waits.before;
  level = waits.level;
  last = waits.last;
  found = waits.found;
  no_room = subst (λ (s : Shape). ¬ Fits waits.level.seats waits.level.limit (width s.widths waits.head.request)) (sym step.more.shape) waits.no_room;
  loads = suc waits.loads;
  since = (known, waits.since, (r, (found, step)));
}

-- and stays so after a load of a decision word
pub still_stopped : (v : LedgerView) (desk desk' : DeskRecord) (r : ℕ) (found : Option Decision) → DeskLoadsDecision r desk found desk' → IsStopped v desk.knows → IsStopped v desk'.knows
still_stopped v desk desk' r found loads is = subst (λ (d : DeskRecord). IsStopped v d.knows) (sym loads.3) (∥∥₁_map is (λ was. close v loads.0 (elim (look v desk.knows was) [
  | inl nothing ↦ inl nothing
  | inr waits ↦ inr (head_waits v desk.knows loads.0 r found loads.1 waits)
])))

module _ (laws : Laws) (lost : NoDispatchIsLost) (shape : Shape) (account : Account) (v : LedgerView) (sound : IsSound shape account) (kept : IsKept account.desk v) where
  same_shape : account.desk.knows.shape ≡ shape
  same_shape = sound.desk_knows.shape_is

  remembered : HeadWaits v account.desk.knows → IsRemembered shape account v
  remembered waits =
      let r : ℕ = waits.head.request in
      let stands : Contains (waiting v.history waits.head.queue) r = first_contains (waiting v.history waits.head.queue) r waits.is_next.is_first in
      let in_view = (laws.numbers _ _ v.history kept.of_log.fair.0).waits_named (length v.costs) kept.of_log.names_requests waits.head.queue r stands in
      let low : r < length shape.widths = (let a = kept.one_cost_each in let b = ap (λ (s : Shape). length s.widths) same_shape in omega arith) in
      let since = are_loads waits.loads waits.last account.desk.knows waits.since in
      let newest = sound.desk_knows.newer in
      let later : List Entry = newest.0 ++ since.newer in
      let is : later ++ waits.last.trace ≡ account.trace = append_assoc newest.0 since.newer waits.last.trace ∙ (ap (λ (es : List Entry). newest.0 ++ es) (sym since.trace) ∙ newest.1) in
      let loads = load_both newest.0 since.newer (others_load newest.0 newest.2) since.loads in
      let owed = lost shape account sound r low (member_waits (laws.statuses) account.desk v kept waits.head.queue r stands) later waits.last.trace is loads in
      let step = waits.found in
      let shape_was : waits.before.shape ≡ shape = sym step.more.shape ∙ (sym since.shape ∙ same_shape) in
      let found : level_of shape.widths (world_of shape waits.last.trace) ≡ waits.level =
      subst (λ (s : Shape). level_of s.widths (world_of s waits.last.trace) ≡ waits.level) shape_was
      (ap (λ (k : Knowledge). level_of waits.before.shape.widths (world_of waits.before.shape k.trace)) step.is_after ∙ step.found) in
      record {
        head = waits.head;
        is_next = waits.is_next;
        later = later;
        saw = waits.last.trace;
        since = is;
        loads = loads;
        no_room = λ none fits. waits.no_room (
            let in_trace : FitsIn shape.widths (world_of shape (later ++ waits.last.trace)) r = subst (λ (es : List Entry). FitsIn shape.widths (world_of shape es) r) (sym is) fits in
            let same_seats = owed.seats none ∙ ap (λ (l : Level). l.seats) found in
            let same_limit = owed.limit none ∙ ap (λ (l : Level). l.limit) found in
            subst (λ (s : Shape). Fits waits.level.seats waits.level.limit (width s.widths r)) (sym same_shape)
            (subst (λ n. Fits n waits.level.limit (width shape.widths r)) same_seats
            (subst (λ n. Fits (seats shape.widths (world_of shape (later ++ waits.last.trace))) n (width shape.widths r)) same_limit in_trace)));
        owes = owed.owes;
        before = waits.before;
        level = waits.level;
        last = waits.last;
        found = waits.found;
        found_no_room = subst (λ (s : Shape). ¬ Fits waits.level.seats waits.level.limit (width s.widths r)) same_shape waits.no_room;
        saw_is = refl;
        count = waits.loads;
        decisions_alone = waits.since;
      }

pub forgotten : Laws → NoDispatchIsLost → NoRequestIsForgotten
forgotten laws lost shape account v sound kept is = ∥∥₁_map is (λ was. elim (look v account.desk.knows was) [
  | inl nothing ↦ inl nothing
  | inr waits ↦ inr (remembered laws lost shape account v sound kept waits)
])
