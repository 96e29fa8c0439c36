-- What a history has after an arrival and a dispatch.
use Rattle.std.proofs.Common.{◌≡◌, ℕ, inl, inr, List, [], ◌∷◌, ◌++◌, Option, Some, None, refl, sym, ap, subst}
use Rattle.std.proofs.lemmas.List.{append_assoc}
use Rattle.apf_history.specs.declared.events.Event.{Event}
use Rattle.apf_history.specs.declared.events.Event.TheVariants.{Enter, Full, Dispatch, Strike}
use Rattle.apf_history.specs.declared.events.LogEntry.{LogEntry}
use Rattle.apf_history.specs.declared.events.LogEntry.TheVariants.{Happens}
use Rattle.apf_model.specs.Charged.{log_of}
use Rattle.apf_book.specs.Servings.{AreServings}
use Rattle.apf_local.specs.Owners.{StrikesOne}
use Rattle.apf_book.specs.declared.life_event.LifeEvent.{LifeEvent}
use Rattle.apf_book.specs.Life.{LifeView, asked, then_came}
use Rattle.apf_book.specs.LifeBook.{LifeBookView, IsLifeKept, ServesLife, then_came_all}
use Rattle.apf_book.specs.RecentEvents.{event_of}
use Rattle.apf_local.specs.declared.admitting.Admitted.{Admitted}
use Rattle.apf_local.specs.Levels.{GoesOn, LogsOne, LogsIn}

pub went_on : (v : LifeView) (b b' : LifeBookView) (count : ℕ) → ServesLife v b count b' → GoesOn v b'
went_on v b b' count served = record { events = served.events; kept = served.kept; servings = served.servings }

module _ (v : LifeView) (r : ℕ) (hand : List ℕ) (cost : ℕ) (a : Admitted) (b b' : LifeBookView) where
  pub logged : (event : Option LifeEvent) → LogsOne v r hand cost a event b → (w : LifeView) × IsLifeKept w b
  logged None logs = (v, logs.2)
  logged (Some event) logs = (then_came (asked v r hand cost) (event_of event), logs.2)

  pub logs_in : (count : ℕ) → ((w : LifeView) → IsLifeKept w b → ServesLife w b count b') → (event : Option LifeEvent) → LogsOne v r hand cost a event b → LogsIn v r hand cost a event b'
  logs_in count served None logs = (logs.0, logs.1, went_on v b b' count (served v logs.2))
  logs_in count served (Some event) logs =
      let w = then_came (asked v r hand cost) (event_of event) in
      (logs.0, logs.1, went_on w b b' count (served w logs.2))

pub servings_then : (a b : List Event) → AreServings a → AreServings b → AreServings (a ++ b)
servings_then [] b first then = then
servings_then (Enter r q ∷ a) b first then = absurd first
servings_then (Full r q ∷ a) b first then = absurd first
servings_then (Dispatch r q ∷ a) b first then = servings_then a b first then
servings_then (Strike r q ∷ a) b first then = servings_then a b first then

log_of_both : (a b : List Event) (l : List LogEntry) → log_of (a ++ b) ++ l ≡ log_of a ++ (log_of b ++ l)
log_of_both [] b l = refl
log_of_both (e ∷ a) b l = ap (λ (rest : List LogEntry). Happens e ∷ rest) (log_of_both a b l)

-- events that came after others
pub came_twice : (a b : List Event) (v : LifeView) → then_came_all (a ++ b) v ≡ then_came_all a (then_came_all b v)
came_twice a b v = λ i. record v { history = append_assoc a b v.history i; log = log_of_both a b v.log i }

-- what had come, and then a dispatch
pub goes_on_then : (v : LifeView) (b b' : LifeBookView) (count : ℕ) → GoesOn v b → ((w : LifeView) → IsLifeKept w b → ServesLife w b count b') → GoesOn v b'
goes_on_then v b b' count on served =
    let next = served (then_came_all on.events v) on.kept in
    record {
      events = next.events ++ on.events;
      kept = subst (λ (w : LifeView). IsLifeKept w b') (sym (came_twice next.events on.events v)) next.kept;
      servings = servings_then next.events on.events next.servings on.servings;
    }

pub still_on : (v : LifeView) (b : LifeBookView) → IsLifeKept v b → GoesOn v b
still_on v b kept = record { events = []; kept = kept; servings = tt }

pub struck_on : (v : LifeView) (b : LifeBookView) (r : ℕ) → StrikesOne r v b → GoesOn v b
struck_on v b r (inl kept) = still_on v b kept
struck_on v b r (inr struck) = record { events = Strike r struck.0 ∷ []; kept = struck.1; servings = tt }
