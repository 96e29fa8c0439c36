-- What is promised of a level that ended.
use Rattle.std.proofs.Common.{◌≡◌, ℕ, ◌+◌, ◌<◌, List, [], ◌∷◌, ◌++◌, length, Option, Some, sym, subst, arith}
use Rattle.std.specs.Prelude.{All, Contains}
use Rattle.std.proofs.lemmas.List.Elements.{All-nil, All-cons, All-contains, All-weaker}
use Rattle.apf_words.specs.declared.decision.Decision.{Decision}
use Rattle.apf_history.specs.declared.events.Event.{Event}
use Rattle.apf_history.specs.declared.events.Event.TheVariants.{Dispatch}
use Rattle.apf_model.specs.History.{NamesRequests, IsLegal, request_of}
use Rattle.apf_model.specs.Order.{AreInOrder}
use Rattle.apf_model.specs.Schedule.{world}
use Rattle.apf_model.specs.Safety.{IsSafe}
use Rattle.apf_gate.specs.Ends.{WasTold}
use Rattle.apf_gate.specs.Tokens.{PassToken, StationToken}
use Rattle.apf_gate.specs.Traces.{opening_of, moves, world_of}
use Rattle.apf_book.specs.Life.{LifeView}
use Rattle.apf_line.specs.declared.report.Report.{Report}
use Rattle.apf_line.specs.Levels.{LifeId}
use Rattle.apf_line.specs.Promises.{OneDecision, InOrder, ClosedStaysClosed, WithinTheLimit, AddsUp}
use Rattle.apf_line.specs.Reports.{EndedAs}

all_named : (n : ℕ) (h : List Event) → NamesRequests n h → All (λ e. request_of e < n) h
all_named n [] names = All-nil (λ (e : Event). request_of e < n)
all_named n (e ∷ h) names = All-cons (λ (e : Event). request_of e < n) e h names.0 (all_named n h names.1)

named : (n : ℕ) (h : List Event) (e : Event) → NamesRequests n h → Contains h e → request_of e < n
named n h e names there = All-contains (λ (e : Event). request_of e < n) h e (all_named n h names) there

module _ (k : LifeId) (v : LifeView) (slots : List PassToken) (stations : List StationToken) (r : Report) (e : EndedAs k v slots stations r)
    (safe : IsSafe (opening_of k.gate.shape) (moves e.words_agree.trace)) where
  pub one_decision : OneDecision (opening_of k.gate.shape) (moves e.words_agree.trace) (WasTold e.desk slots stations)
  one_decision = record { written_once = safe.one_decide; told = e.words_agree.told }

  pub closed_stays_closed : ClosedStaysClosed (moves e.words_agree.trace)
  closed_stays_closed = safe.no_arrival_after_close

  pub it_adds_up : AddsUp (length k.gate.shape.widths) (world (opening_of k.gate.shape) (moves e.words_agree.trace)) r.words.counts.executed (r.words.counts.queue_full + r.words.counts.closed + r.words.counts.concurrency_limit) r.words.counts.cancelled
  it_adds_up =
      let a = e.words_agree in
      let D : ℕ → Option Decision = (world_of k.gate.shape a.trace).decision in
      record {
        all = a.ever;
        once = a.are_all.once;
        no_others = All-weaker (λ (one : ℕ × Decision). (one.0 < length k.gate.shape.widths) × (D one.0 ≡ Some one.1)) (λ (one : ℕ × Decision). D one.0 ≡ Some one.1) (λ one so. so.1) a.ever a.are_all.no_others;
        each = a.are_all.each;
        undecided_never_came = e.all_decided;
        executed_are = a.sums.executed;
        rejected_are = let x = a.sums.queue_full in let y = a.sums.closed in let z = a.sums.concurrency_limit in omega arith;
        cancelled_are = a.sums.cancelled;
        sum = let all = a.sums.all in omega arith;
      }

  pub in_order : ((later earlier : List Event) → IsLegal v.hands v.limit (later ++ earlier) → IsLegal v.hands v.limit earlier) → ((h : List Event) → IsLegal v.hands v.limit h → AreInOrder v.limit h)
      → InOrder (world (opening_of k.gate.shape) (moves e.words_agree.trace)) v.history
  in_order beginnings order = record {
    in_order = λ later earlier is q. (order earlier (beginnings later earlier (subst (λ (h : List Event). IsLegal v.hands v.limit h) (sym is) e.of_level.fair.0))).in_order q;
    each_once = (order v.history e.of_level.fair.0).dispatched_once;
    served_is_executed = λ i q there. e.agrees.dispatched i q (named (length k.gate.shape.widths) v.history (Dispatch i q) e.of_level.names_requests there) there;
    struck_is_cancelled = e.agrees.struck;
  }

-- the seats at each moment, of safe schedules
pub within : (k : LifeId) (v : LifeView) (slots : List PassToken) (stations : List StationToken) (r : Report) (e : EndedAs k v slots stations r)
    → ((later earlier : List _) → later ++ earlier ≡ moves e.words_agree.trace → IsSafe (opening_of k.gate.shape) earlier) → WithinTheLimit (opening_of k.gate.shape) (moves e.words_agree.trace)
within k v slots stations r e safe = λ later earlier is. (safe later earlier is).alone e.words_agree.shape.widths
