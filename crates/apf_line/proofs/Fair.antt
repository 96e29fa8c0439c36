-- A level on which nothing was settled has a fair history, and every log of a level is settled.
use Rattle.std.proofs.Common.{◌≡◌, ℕ, List, sym, subst}
use Rattle.apf_history.specs.declared.events.Event.{Event}
use Rattle.apf_history.specs.declared.events.LogEntry.{LogEntry}
use Rattle.apf_history.specs.Standing.{EachNames}
use Rattle.apf_model.specs.World.{width}
use Rattle.apf_model.specs.History.{IsLegal}
use Rattle.apf_model.specs.Fair.{IsFair}
use Rattle.apf_model.specs.Charged.{events, log_of, IsSettled}
use Rattle.apf_gate.specs.declared.record.Entry.{Entry}
use Rattle.apf_book.specs.Life.{LifeView}
use Rattle.apf_line.specs.Levels.{LifeId, IsHistoryOf}

module _ (k : LifeId) (trace : List Entry) (v : LifeView) (is : IsHistoryOf k trace v) where
  pub settled : IsSettled v.queues v.costs v.hands v.limit v.log
  settled = (subst (λ (h : List Event). IsLegal v.hands v.limit h) (sym is.events_are) is.fair.0, is.fair.1)

  pub named_in_log : (costs : List ℕ) → EachNames (λ r. width costs r ≡ width v.costs r) v.history → EachNames (λ r. width costs r ≡ width v.costs r) (events v.log)
  named_in_log costs agree = subst (λ (h : List Event). EachNames (λ r. width costs r ≡ width v.costs r) h) (sym is.events_are) agree

  pub fair_if_unsettled : ((queues : ℕ) (costs : List ℕ) (hands : ℕ → List ℕ) (limit : ℕ) (h : List Event) → IsSettled queues costs hands limit (log_of h) → IsFair queues costs hands limit h)
      → v.log ≡ log_of v.history → IsFair v.queues v.costs v.hands v.limit v.history
  fair_if_unsettled law same = law v.queues v.costs v.hands v.limit v.history (subst (λ (l : List LogEntry). IsSettled v.queues v.costs v.hands v.limit l) same settled)
