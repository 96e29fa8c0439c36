-- History and decisions of a level that ended.
use Rattle.std.proofs.Common.{◌≡◌, ◌≢◌, ℕ, zero, ◌<◌, inl, inr, List, [], ◌∷◌, length, Option, Some, refl, sym, ap, ◌∙◌, arith}
use Rattle.std.specs.Prelude.{Contains}
use Rattle.apf_words.specs.declared.decision.Decision.TheVariants.{Cancelled}
use Rattle.apf_history.specs.declared.events.Event.{Event}
use Rattle.apf_history.specs.declared.events.Status.{Status}
use Rattle.apf_history.specs.declared.events.Status.TheVariants as status_is
use Rattle.apf_model.specs.History.{waiting}
use Rattle.apf_model.specs.Order.{status, AreStatuses}
use Rattle.apf_gate.specs.declared.record.DeskRecord.{DeskRecord}
use Rattle.apf_gate.specs.declared.record.Service.{Service}
use Rattle.apf_gate.specs.declared.record.Service.TheVariants as service_is
use Rattle.apf_gate.specs.Records.{new_desk, service}
use Rattle.apf_gate.specs.Traces.{world_of}
use Rattle.apf_gate.specs.Tokens.{GateId, PassToken, StationToken}
use Rattle.apf_gate.specs.LifeEnds.{LifeView as WordsView, LifeAgrees}
use Rattle.apf_book.specs.BookView.{logged}
use Rattle.apf_book.specs.Said.{sayings}
use Rattle.apf_book.specs.Agreeing.{IsDeskOf}
use Rattle.apf_line.specs.Reports.{HistoryAgrees}

-- what the Desk did, where the history says this
pub waits_then : (s : Service) → logged s ≡ Some status_is.Waits → s ≡ service_is.Waiting
waits_then service_is.NotHanded is = cc
waits_then service_is.Handed is = cc
waits_then service_is.RefusedFull is = cc
waits_then service_is.RefusedClosed is = cc
waits_then service_is.Waiting is = refl
waits_then service_is.Held is = cc
waits_then service_is.Settled is = cc
waits_then service_is.Left is = cc

dispatched_then : (s : Service) → logged s ≡ Some status_is.Dispatched → s ≡ service_is.Settled
dispatched_then service_is.NotHanded is = cc
dispatched_then service_is.Handed is = cc
dispatched_then service_is.RefusedFull is = cc
dispatched_then service_is.RefusedClosed is = cc
dispatched_then service_is.Waiting is = cc
dispatched_then service_is.Held is = cc
dispatched_then service_is.Settled is = refl
dispatched_then service_is.Left is = cc

full_then : (s : Service) → logged s ≡ Some status_is.Full → s ≡ service_is.RefusedFull
full_then service_is.NotHanded is = cc
full_then service_is.Handed is = cc
full_then service_is.RefusedFull is = refl
full_then service_is.RefusedClosed is = cc
full_then service_is.Waiting is = cc
full_then service_is.Held is = cc
full_then service_is.Settled is = cc
full_then service_is.Left is = cc

some_is : (a b : Status) → ◌≡◌ {A = Option Status} (Some a) (Some b) → a ≡ b
some_is a b is = cc

nothing : (xs : List ℕ) → ((r : ℕ) → ¬ Contains xs r) → xs ≡ []
nothing [] none = refl
nothing (x ∷ xs) none = absurd (none x (zero, omega arith, refl))

module _ (h : List Event) (d : DeskRecord) (of : IsDeskOf h d) (statuses : AreStatuses h) where
  -- who waits by the history, the Desk has waiting
  pub nobody_waits : (numbers : ℕ) → ((q r : ℕ) → Contains (waiting h q) r → r < numbers) → ((r : ℕ) → r < numbers → service d r ≢ service_is.Waiting) → (q : ℕ) → waiting h q ≡ []
  nobody_waits numbers named none q = nothing (waiting h q) (λ r here.
      none r (named q r here) (waits_then (service d r) (of.did r ∙ ap (λ (s : Status). Some s) ((statuses.waits r).1 (q, here)))))

  status_of : (r : ℕ) (s : Service) (was : Status) → service d r ≡ s → logged s ≡ Some was → status h r ≡ was
  status_of r s was is said = some_is (status h r) was (sym (of.did r) ∙ (ap logged is ∙ said))

  pub history_agrees : (g : GateId) (ps : List PassToken) (ss : List StationToken) (w : WordsView) (a : LifeAgrees g d ps ss w) → HistoryAgrees (length g.shape.widths) h (λ (i : ℕ). (world_of g.shape a.trace).decision i) a.pass
  history_agrees g ps ss w a = record {
    dispatched = λ r q low here. a.settled r low (dispatched_then (service d r) (of.did r ∙ ap (λ (s : Status). Some s) ((statuses.dispatched r).1 (q, here))));
    struck = λ r q here. a.told r Cancelled (inl (of.struck r ((statuses.struck r).1 (q, here))));
    full = λ r q low here. a.refused_as_full r low (full_then (service d r) (of.did r ∙ ap (λ (s : Status). Some s) ((statuses.full r).1 (q, here))));
    was_full = λ r low is. (statuses.full r).0 (status_of r service_is.RefusedFull status_is.Full (a.full_was_refused r low is) refl);
    executed = λ r low is. elim (a.executed r low is) [
      | inl settled ↦ inl ((statuses.dispatched r).0 (status_of r service_is.Settled status_is.Dispatched settled refl))
      | inr took ↦ inr took.0
    ];
  }

-- a Desk that made no step says an empty history
pub fresh_says : (d : DeskRecord) → d ≡ new_desk d.knows.shape → IsDeskOf [] d
fresh_says d fresh = record {
  did = λ r. ap (λ (x : DeskRecord). logged (service x r)) fresh;
  holds_none = ap (λ (x : DeskRecord). x.held) fresh;
  said = ap (λ (x : DeskRecord). sayings x.knows.trace) (sym fresh);
  struck = λ r struck. cc;
}
