-- What was told once one event more was.
use Rattle.std.proofs.Common.{◌≡◌, ◌≤◌, ℕ, zero, suc, List, [], ◌∷◌, ◌++◌, length, set, Option, refl, sym, ap, ◌∙◌, subst, arith}
use Rattle.apf_history.specs.declared.events.LogEntry.{LogEntry}
use Rattle.apf_history.specs.declared.events.LogEntry.TheVariants.{Happens}
use Rattle.apf_bound.specs.Kept.{BoundView, IsKeptOf, queues_of}
use Rattle.apf_book.specs.declared.life_event.LifeEvent.{LifeEvent}
use Rattle.apf_book.specs.RecentEvents.{event_of}
use Rattle.apf_watched.specs.declared.note.Note.{Note}
use Rattle.apf_watched.specs.Notes.{AreOf}
use Rattle.apf_watched.specs.Followed.{TellsEvents, with_events}

pub with_one_more : (es : List LifeEvent) (e : LifeEvent) (l : List LogEntry) → with_events (es ++ e ∷ []) l ≡ Happens (event_of e) ∷ with_events es l
with_one_more [] e l = refl
with_one_more (x ∷ es) e l = with_one_more es e (Happens (event_of x) ∷ l)

pub told_none : (notes : List (Option Note)) (b : BoundView) → TellsEvents notes [] b b
told_none notes b = record { queues = refl; told = λ costs measure hands limit l are kept. kept }

-- one event more was told
pub told_more : (notes : List (Option Note)) (es all : List LifeEvent) (e : LifeEvent) (a b d : BoundView) → all ≡ es ++ e ∷ [] → TellsEvents notes es a b → queues_of d ≡ queues_of b
    → ((costs : List ℕ) (measure : ℕ → ℕ) (hands : ℕ → List ℕ) (limit : ℕ) (l : List LogEntry) → AreOf costs measure notes → IsKeptOf costs measure hands limit l b → IsKeptOf costs measure hands limit (Happens (event_of e) ∷ l) d)
    → TellsEvents notes all a d
told_more notes es all e a b d is first queues then = record {
  queues = queues ∙ first.queues;
  told = λ costs measure hands limit l are kept.
      let told : IsKeptOf costs measure hands limit (Happens (event_of e) ∷ with_events es l) d = then costs measure hands limit (with_events es l) are (first.told costs measure hands limit l are kept) in
      subst (λ (xs : List LogEntry). IsKeptOf costs measure hands limit xs d) (sym (ap (λ (xs : List LifeEvent). with_events xs l) is ∙ with_one_more es e l)) told;
}

-- a write behind the end changes nothing
pub set_beyond : {A : Type 0} (xs : List A) (i : ℕ) (x : A) → length xs ≤ i → set xs i x ≡ xs
set_beyond [] i x beyond = refl
set_beyond (y ∷ ys) zero x beyond = absurd (omega (arith, beyond))
set_beyond (y ∷ ys) (suc i) x beyond = ap (λ (rest : _). y ∷ rest) (set_beyond ys i x (omega (arith, beyond)))
