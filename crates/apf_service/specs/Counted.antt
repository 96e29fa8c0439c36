-- How many requests ever arrived, from line to line.
use Rattle.std.specs.Prelude.{◌≡◌, ℕ, ◌+◌, List, Result, Ok}
use Rattle.apf_book.specs.declared.life_event.LifeEvent.{LifeEvent}
use Rattle.apf_protocol.specs.declared.answer.Answer.{Answer as Told}
use Rattle.apf_protocol.specs.declared.answer.Answer.TheVariants as tell
use Rattle.apf_protocol.specs.declared.answer.Tried.TheVariants as tried
use Rattle.apf_protocol.specs.declared.command.Command.{Command}
use Rattle.apf_service.specs.declared.replies.Refusal.{Refusal}
use Rattle.apf_service.specs.Tallies.{arrived_in, slots_of, IsTallyOf}
use Rattle.apf_service.specs.Kept.{State, FollowsAll}
use Rattle.apf_service.specs.Turns.{Turns}

-- how many requests came by a line that is answered so: one by an arrival, and by an attempt that was not busy
abbrev pub came_by : Result Told Refusal → ℕ
came_by (Ok (tell.Arrives n arrived)) = 1
came_by (Ok (tell.Tries n (tried.Decided decision))) = 1
came_by reply = 0

-- where the command turns one state into the next, and what follows of the new events turns that into the last, the executed, the rejected, the cancelled and the waiting are as many more as came
abbrev pub IsEveryRequestCounted : Type 0
IsEveryRequestCounted = (command : Command) (reply : Result Told Refusal) (log : List LifeEvent) (next : ℕ) (old between new : State)
    → IsTallyOf (slots_of old.level) old.tally → Turns command old reply between → FollowsAll log (record between { seen = next }) new
    → arrived_in new.tally ≡ arrived_in old.tally + came_by reply
