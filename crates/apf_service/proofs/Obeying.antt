-- A command that changes something was carried out where the level's call was made and what it answered is told.
use Rattle.std.proofs.Common.{ℕ, List, Result}
use Rattle.apf_protocol.specs.declared.answer.Answer.{Answer as Told}
use Rattle.apf_protocol.specs.declared.command.Command.{Command}
use Rattle.apf_protocol.specs.declared.command.Command.TheVariants as commands
use Rattle.apf_service.specs.declared.replies.Refusal.{Refusal}
use Rattle.apf_service.specs.Kept.{State}
use Rattle.apf_service.specs.Lines.{Tells, Obeys}
use Rattle.apf_service.specs.Turns.{Turns}

pub changes : (level : List ℕ) (number : ℕ) (command : Command) (old between new : State) (reply : Result Told Refusal) (Writes : List ℕ → Type 0) → Turns command old reply between → Tells number reply between Writes new → Obeys level number command old Writes new
changes level number (commands.Arrive n a) old between new reply Writes turns tells = record { reply = reply; between = between; turns = turns; tells = tells }
changes level number (commands.Try n a) old between new reply Writes turns tells = record { reply = reply; between = between; turns = turns; tells = tells }
changes level number (commands.Finish n ran) old between new reply Writes turns tells = record { reply = reply; between = between; turns = turns; tells = tells }
changes level number (commands.Spent n micros) old between new reply Writes turns tells = record { reply = reply; between = between; turns = turns; tells = tells }
changes level number (commands.Cancel n) old between new reply Writes turns tells = record { reply = reply; between = between; turns = turns; tells = tells }
changes level number (commands.Limit limit) old between new reply Writes turns tells = record { reply = reply; between = between; turns = turns; tells = tells }
changes level number commands.Close old between new reply Writes turns tells = record { reply = reply; between = between; turns = turns; tells = tells }
changes level number commands.Book old between new reply Writes turns tells = absurd turns
changes level number commands.Queues old between new reply Writes turns tells = absurd turns
changes level number commands.Metrics old between new reply Writes turns tells = absurd turns
