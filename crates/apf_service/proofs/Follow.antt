-- What follows of a log and of one event more.
use Rattle.std.proofs.Common.{◌≡◌, ℕ, ◌+◌, List, [], ◌∷◌, ◌++◌, take, refl, sym, subst}
use Rattle.apf_book.specs.declared.life_event.LifeEvent.{LifeEvent}
use Rattle.apf_service.specs.Kept.{State, Follows, FollowsAll}

pub one_more : (log : List LifeEvent) (event : LifeEvent) (old between new : State) → FollowsAll log old between → Follows event between new → FollowsAll (log ++ event ∷ []) old new
one_more [] event old between new all one = (new, subst (λ (s : State). Follows event s new) all one, refl)
one_more (first ∷ log) event old between new (next, is, rest) one = (next, is, one_more log event next between new rest one)

-- of the events so far and of the next one
pub next_more : (log : List LifeEvent) (i : ℕ) (event : LifeEvent) (old between new : State) → take (i + 1) log ≡ take i log ++ event ∷ [] → FollowsAll (take i log) old between → Follows event between new → FollowsAll (take (i + 1) log) old new
next_more log i event old between new step all one = subst (λ (l : List LifeEvent). FollowsAll l old new) (sym step) (one_more (take i log) event old between new all one)
