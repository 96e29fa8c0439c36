-- The event of an arrival stands in the log of a level, whatever is dispatched and struck after it.
use Rattle.std.proofs.Common.{◌≡◌, ℕ, [], ◌∷◌, ap, ◌∙◌, subst}
use Rattle.apf_history.specs.declared.events.Event.{Event}
use Rattle.apf_book.specs.LedgerView.{LedgerView, IsLogOf}
use Rattle.apf_book.specs.Servings.{Serves, with}
use Rattle.apf_level.specs.Levels.{LevelId, logged_as}
use Rattle.apf_level.specs.Arrivals.{Appended}

pub appended : (k : LevelId) (event : Event) (old between new : LedgerView) (count : ℕ) → old ≡ logged_as k old.history → between ≡ with (event ∷ []) old → Serves between new count → IsLogOf new
    → Appended k event
appended k event old between new count began arrived serves of_log = record {
  older = old.history;
  newer = serves.events;
  of_log = subst IsLogOf (serves.log ∙ (ap (with serves.events) arrived ∙ ap (λ (v : LedgerView). with serves.events (with (event ∷ []) v)) began)) of_log;
  servings = serves.servings;
}
