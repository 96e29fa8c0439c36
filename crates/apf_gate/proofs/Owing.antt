-- While a request waits, seats and limit change by a Release and a SetLimit alone, and each finds it waiting.
use Rattle.std.proofs.Common.{◌≡◌, ◌≢◌, ℕ, ◌<◌, ◌≤◌, List, [], ◌∷◌, ◌++◌, length, Option, Some, None, refl, sym, ap, ◌∙◌, subst, arith}
use mathlib.Core.Logic.{dite}
use native.Mathlib.Decide.{ℕ_discrete}
use Rattle.apf_model.specs.declared.moves.Move.{Move}
use Rattle.apf_model.specs.declared.moves.Move.TheVariants.{Take, Enter, Grant, Leave, Decide, Release, Close, SetLimit, See}
use Rattle.apf_model.specs.declared.moves.Stage.{Stage}
use Rattle.apf_model.specs.declared.moves.Stage.TheVariants.{Waits, Stands, Gone}
use Rattle.apf_model.specs.World.{World, put, seats, waiters, IsWaiting}
use Rattle.apf_model.specs.Schedule.{IsSchedule}
use Rattle.apf_model.specs.Safety.{AreSums}
use Rattle.apf_gate.specs.declared.record.Shape.{Shape}
use Rattle.apf_gate.specs.declared.record.Actor.{Actor}
use Rattle.apf_gate.specs.declared.record.Actor.TheVariants.{OfPass, OfDesk, OfStation}
use Rattle.apf_gate.specs.declared.record.Entry.{Entry}
use Rattle.apf_gate.specs.Traces.{opening_of, entry, move_before, moves, world_of, MayMake, AreMade}
use Rattle.apf_gate.specs.Requests.{stage_of}
use Rattle.apf_gate.specs.Owing.{MayMakeRoom, DeskLoads, IsOwed, NoDispatchIsLost}
use Rattle.apf_gate.proofs.Puts.{put_here, put_else}

waits_not_stands : Stands ≢ Waits
waits_not_stands e = absurd (cc)

waits_not_gone : Gone ≢ Waits
waits_not_gone e = absurd (cc)

-- where the stage of j became another than waiting, r is another request and waited before
waited_else : (stage : ℕ → Stage) (j r : ℕ) (to : Stage) → to ≢ Waits → put stage j to r ≡ Waits → stage r ≡ Waits
waited_else stage j r to other is = dite (ℕ_discrete r j)
    (λ e. absurd (other (sym (put_here stage j to) ∙ (ap (put stage j to) (sym e) ∙ is))))
    (λ ne. sym (put_else stage j to r ne) ∙ is)

module _ (s : Shape) (sums : (w : World) → AreSums s.widths w) (r : ℕ) (low : r < length s.widths) where
  -- who waits is counted
  some_wait : (w : World) → IsWaiting w r → 1 ≤ waiters s.widths w
  some_wait w is = let a = ((sums w).change r Waits Gone low is).1 in omega arith

  -- a step that is no move of the Desk takes nobody out of a queue
  waited : (who : Actor) (m : Option Move) (es : List Entry) → MayMake who m → (who ≡ OfDesk → m ≡ None) → IsWaiting (world_of s (entry who m ∷ es)) r → IsWaiting (world_of s es) r
  waited who None es may loads is = is
  waited who (Some (Take j)) es may loads is = waited_else (world_of s es).stage j r Stands waits_not_stands is
  waited who (Some (Release j)) es may loads is = waited_else (world_of s es).stage j r Gone waits_not_gone is
  waited who (Some (Decide j d)) es may loads is = is
  waited who (Some Close) es may loads is = is
  waited who (Some (SetLimit n)) es may loads is = is
  waited who (Some (See j)) es may loads is = is
  waited (OfPass i) (Some (Enter j)) es may loads is = absurd may
  waited (OfPass i) (Some (Grant j)) es may loads is = absurd may
  waited (OfPass i) (Some (Leave j)) es may loads is = absurd may
  waited (OfStation i) (Some (Enter j)) es may loads is = absurd may
  waited (OfStation i) (Some (Grant j)) es may loads is = absurd may
  waited (OfStation i) (Some (Leave j)) es may loads is = absurd may
  waited OfDesk (Some (Enter j)) es may loads is = let a = loads refl in absurd (cc)
  waited OfDesk (Some (Grant j)) es may loads is = let a = loads refl in absurd (cc)
  waited OfDesk (Some (Leave j)) es may loads is = let a = loads refl in absurd (cc)

  -- the seats stay where no step makes room
  same_seats : (who : Actor) (m : Option Move) (es : List Entry) → IsSchedule (opening_of s) (move_before m (moves es)) → MayMake who m → (who ≡ OfDesk → m ≡ None) → (¬ MayMakeRoom m) → IsWaiting (world_of s es) r
      → seats s.widths (world_of s (entry who m ∷ es)) ≡ seats s.widths (world_of s es)
  same_seats who None es schedule may loads none is = refl
  same_seats who (Some (Take j)) es schedule may loads none is = absurd (let a = schedule.0.nobody_waits in let b = some_wait (world_of s es) is in omega arith)
  same_seats who (Some (Release j)) es schedule may loads none is = absurd (none tt)
  same_seats who (Some (Decide j d)) es schedule may loads none is = refl
  same_seats who (Some Close) es schedule may loads none is = refl
  same_seats who (Some (SetLimit n)) es schedule may loads none is = absurd (none tt)
  same_seats who (Some (See j)) es schedule may loads none is = refl
  same_seats (OfPass i) (Some (Enter j)) es schedule may loads none is = absurd may
  same_seats (OfPass i) (Some (Grant j)) es schedule may loads none is = absurd may
  same_seats (OfPass i) (Some (Leave j)) es schedule may loads none is = absurd may
  same_seats (OfStation i) (Some (Enter j)) es schedule may loads none is = absurd may
  same_seats (OfStation i) (Some (Grant j)) es schedule may loads none is = absurd may
  same_seats (OfStation i) (Some (Leave j)) es schedule may loads none is = absurd may
  same_seats OfDesk (Some (Enter j)) es schedule may loads none is = let a = loads refl in absurd (cc)
  same_seats OfDesk (Some (Grant j)) es schedule may loads none is = let a = loads refl in absurd (cc)
  same_seats OfDesk (Some (Leave j)) es schedule may loads none is = let a = loads refl in absurd (cc)

  same_limit : (who : Actor) (m : Option Move) (es : List Entry) → (¬ MayMakeRoom m) → (world_of s (entry who m ∷ es)).limit ≡ (world_of s es).limit
  same_limit who None es none = refl
  same_limit who (Some (Take j)) es none = refl
  same_limit who (Some (Enter j)) es none = refl
  same_limit who (Some (Grant j)) es none = refl
  same_limit who (Some (Leave j)) es none = refl
  same_limit who (Some (Decide j d)) es none = refl
  same_limit who (Some (Release j)) es none = absurd (none tt)
  same_limit who (Some Close) es none = refl
  same_limit who (Some (SetLimit n)) es none = absurd (none tt)
  same_limit who (Some (See j)) es none = refl

  before : (m : Option Move) (es : List Entry) → IsSchedule (opening_of s) (move_before m (moves es)) → IsSchedule (opening_of s) (moves es)
  before None es k = k
  before (Some m) es k = k.1

  owed : (later saw : List Entry) → IsSchedule (opening_of s) (moves (later ++ saw)) → AreMade s (later ++ saw) → DeskLoads later → IsWaiting (world_of s (later ++ saw)) r → IsOwed s later saw
  owed [] saw schedule made loads is = record { seats = λ _. refl; limit = λ _. refl; owes = tt }
  owed (e ∷ later) saw schedule made loads is =
      let was = waited e.by e.step (later ++ saw) made.1 loads.0 is in
      let rest = owed later saw (before e.step (later ++ saw) schedule) made.2 loads.1 was in
      record {
        seats = λ none. same_seats e.by e.step (later ++ saw) schedule made.1 loads.0 none.0 was ∙ rest.seats none.1;
        limit = λ none. same_limit e.by e.step (later ++ saw) none.0 ∙ rest.limit none.1;
        owes = (λ _. some_wait (world_of s (later ++ saw)) was, rest.owes);
      }

pub none_lost : ((widths : List ℕ) (w : World) → AreSums widths w) → NoDispatchIsLost
none_lost sums s account sound r low waits later saw is loads =
    owed s (sums s.widths) r low later saw
    (subst (λ (es : List Entry). IsSchedule (opening_of s) (moves es)) (sym is) sound.schedule)
    (subst (λ (es : List Entry). AreMade s es) (sym is) sound.made)
    loads
    (subst (λ (es : List Entry). IsWaiting (world_of s es) r) (sym is) ((sound.request r low).stage ∙ ap (stage_of (account.pass r)) waits))
