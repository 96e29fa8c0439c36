-- What is promised of a batch that ended.
use Rattle.std.proofs.Common.{◌≡◌, ℕ, ◌+◌, ◌<◌, List, [], ◌∷◌, ◌++◌, length, Option, Some, refl, sym, ◌∙◌, subst, arith}
use Rattle.std.specs.Prelude.{All, Contains}
use Rattle.std.proofs.lemmas.List.Elements.{All-nil, All-cons, All-contains, All-weaker}
use Rattle.apf_words.specs.Level.{Level}
use Rattle.apf_words.specs.declared.decision.Decision.{Decision}
use Rattle.apf_words.specs.declared.decision.Decision.TheVariants.{Execute, QueueFull, Closed, Cancelled, ConcurrencyLimit}
use Rattle.apf_history.specs.declared.events.Event.{Event}
use Rattle.apf_history.specs.declared.events.Event.TheVariants.{Dispatch, Strike}
use Rattle.apf_history.specs.Standing.{EachNames}
use Rattle.apf_model.specs.declared.moves.Move.{Move}
use Rattle.apf_model.specs.History.{NamesRequests, IsLegal, request_of}
use Rattle.apf_model.specs.Order.{AreInOrder}
use Rattle.apf_model.specs.Schedule.{world}
use Rattle.apf_model.specs.Safety.{IsSafe}
use Rattle.apf_gate.specs.Gauges.{IsShape}
use Rattle.apf_gate.specs.Tokens.{PassToken, StationToken}
use Rattle.apf_gate.specs.Traces.{opening_of, moves, world_of}
use Rattle.apf_book.specs.LedgerView.{hand_in}
use Rattle.apf_line.specs.Promises.{OneDecision, InOrder, WithinTheLimit, AddsUp}
use Rattle.apf_level.specs.declared.report.Counts.{Counts}
use Rattle.apf_level.specs.Levels.{LevelId, logged_as}
use Rattle.apf_level.specs.Reports.{AreSums, Ended, WasToldBy}
use Rattle.apf_level.proofs.Listing.{all_of, length_of, decided_in, none_twice, each_is, contains_each}

all_named : (n : ℕ) (h : List Event) → NamesRequests n h → All (λ (e : Event). request_of e < n) h
all_named n [] names = All-nil (λ (e : Event). request_of e < n)
all_named n (e ∷ h) names = All-cons (λ (e : Event). request_of e < n) e h names.0 (all_named n h names.1)

named : (n : ℕ) (h : List Event) (e : Event) → NamesRequests n h → Contains h e → request_of e < n
named n h e names there = All-contains (λ (e : Event). request_of e < n) h e (all_named n h names) there

pub same_hands : (hands : ℕ → List ℕ) (h : List Event) → EachNames (λ r. hands r ≡ hands r) h
same_hands hands [] = tt
same_hands hands (e ∷ h) = (refl, same_hands hands h)

module _ (k : LevelId) (level : Level) (decision : ℕ → Option Decision) (h : List Event) (passes : List PassToken) (stations : List StationToken) (counts : Counts)
    (shape : IsShape k.gate.shape) (e : Ended k level decision h passes stations) (sums : AreSums counts decision (length k.gate.shape.widths)) (one_each : length k.opening.costs ≡ length k.gate.shape.widths) where
  pub one_decision : IsSafe (opening_of k.gate.shape) (moves e.made.trace) → OneDecision (opening_of k.gate.shape) (moves e.made.trace) (λ r d. (r < length k.gate.shape.widths) × WasToldBy passes stations r d)
  one_decision safe = record { written_once = safe.one_decide; told = λ r d was. sym (e.decides r was.0) ∙ e.told_one r d was.0 was.1 }

  pub within : ((later earlier : List Move) → later ++ earlier ≡ moves e.made.trace → IsSafe (opening_of k.gate.shape) earlier) → WithinTheLimit (opening_of k.gate.shape) (moves e.made.trace)
  within safe = λ later earlier is. (safe later earlier is).alone shape.widths

  pub it_adds_up : AddsUp (length k.gate.shape.widths) (world (opening_of k.gate.shape) (moves e.made.trace)) counts.executed (counts.queue_full + counts.closed + counts.concurrency_limit) counts.cancelled
  it_adds_up =
      let n = length k.gate.shape.widths in
      let D : ℕ → Option Decision = (world_of k.gate.shape e.made.trace).decision in
      record {
        all = all_of n decision;
        once = none_twice n decision e.all_decided;
        no_others = All-weaker (λ (one : ℕ × Decision). (one.0 < n) × (decision one.0 ≡ Some one.1)) (λ (one : ℕ × Decision). D one.0 ≡ Some one.1) (λ one so. sym (e.decides one.0 so.0) ∙ so.1) (all_of n decision) (each_is n decision e.all_decided);
        each = λ r d low is. contains_each n decision e.all_decided r d low (e.decides r low ∙ is);
        undecided_never_came = λ r low none. absurd (e.all_decided r low (e.decides r low ∙ none));
        executed_are = sums.executed ∙ decided_in Execute n decision e.all_decided;
        rejected_are =
            let full = sums.queue_full ∙ decided_in QueueFull n decision e.all_decided in
            let closed = sums.closed ∙ decided_in Closed n decision e.all_decided in
            let limited = sums.concurrency_limit ∙ decided_in ConcurrencyLimit n decision e.all_decided in
            omega arith;
        cancelled_are = sums.cancelled ∙ decided_in Cancelled n decision e.all_decided;
        sum = let all = sums.all in let many = length_of n decision e.all_decided in omega arith;
      }

  decides_event : (x : Event) (d : Decision) → Contains h x → decision (request_of x) ≡ Some d → (world (opening_of k.gate.shape) (moves e.made.trace)).decision (request_of x) ≡ Some d
  decides_event x d there is = sym (e.decides (request_of x) (subst (λ (n : ℕ). request_of x < n) one_each (named (length k.opening.costs) h x e.of_log.names_requests there))) ∙ is

  pub in_order : ((later earlier : List Event) → IsLegal (hand_in (logged_as k h)) k.opening.limit (later ++ earlier) → IsLegal (hand_in (logged_as k h)) k.opening.limit earlier)
      → ((h' : List Event) → IsLegal (hand_in (logged_as k h)) k.opening.limit h' → AreInOrder k.opening.limit h') → InOrder (world (opening_of k.gate.shape) (moves e.made.trace)) h
  in_order beginnings order = record {
    in_order = λ later earlier is q. (order earlier (beginnings later earlier (subst (λ (x : List Event). IsLegal (hand_in (logged_as k h)) k.opening.limit x) (sym is) e.of_log.fair.0))).in_order q;
    each_once = (order h e.of_log.fair.0).dispatched_once;
    served_is_executed = λ i q there. decides_event (Dispatch i q) Execute there (e.agrees.dispatched i q there);
    struck_is_cancelled = λ i q there. decides_event (Strike i q) Cancelled there (e.agrees.struck i q there);
  }
