-- What a line commands.
use Rattle.std.specs.Prelude.{ℕ, ◌<◌, ◌≤◌, ⊤, List, Result, Ok}
use Rattle.apf_words.specs.Limits.{max_limit}
use Rattle.apf_files.specs.FirstFault.{◌>>=◌}
use Rattle.apf_protocol.specs.Lines.{IsHeadInRange, IsTimeInRange, most_ran}
use Rattle.apf_protocol.specs.Objects.{arrival_in, IsArrivalInRange}
use Rattle.apf_protocol.specs.declared.command.Command.{Command}
use Rattle.apf_protocol.specs.declared.command.Command.TheVariants as commands
use Rattle.apf_protocol.specs.declared.fault.FaultKind.{FaultKind}
use Rattle.apf_protocol.specs.declared.head.Head.{Head}
use Rattle.apf_protocol.specs.declared.head.Head.TheVariants.{Arrive, Try, Finish, Spent, Cancel, Limit, Close, Book, Queues, Metrics}

-- the command of a head and of the text of its object, or what is wrong with that
unfoldable pub command_from : Head → List ℕ → Result Command FaultKind
command_from (Arrive n) object = arrival_in object >>= (λ a. Ok (commands.Arrive n a))
command_from (Try n) object = arrival_in object >>= (λ a. Ok (commands.Try n a))
command_from (Finish n ran) object = Ok (commands.Finish n ran)
command_from (Spent n micros) object = Ok (commands.Spent n micros)
command_from (Cancel n) object = Ok (commands.Cancel n)
command_from (Limit n) object = Ok (commands.Limit n)
command_from Close object = Ok commands.Close
command_from Book object = Ok commands.Book
command_from Queues object = Ok commands.Queues
command_from Metrics object = Ok commands.Metrics

-- an object stands behind the number
abbrev pub HasObject : Head → Type 0
HasObject (Arrive n) = ⊤
HasObject (Try n) = ⊤
HasObject head = ⊥

-- each number of a command is in its range
abbrev pub IsCommandInRange : ℕ → Command → Type 0
IsCommandInRange slots (commands.Arrive n arrival) = (n < slots) × IsArrivalInRange arrival
IsCommandInRange slots (commands.Try n arrival) = (n < slots) × IsArrivalInRange arrival
IsCommandInRange slots (commands.Finish n ran) = (n < slots) × IsTimeInRange ran
IsCommandInRange slots (commands.Spent n micros) = (n < slots) × (micros ≤ most_ran)
IsCommandInRange slots (commands.Cancel n) = n < slots
IsCommandInRange slots (commands.Limit n) = (1 ≤ n) × (n ≤ max_limit)
IsCommandInRange slots command = ⊤

-- the command's numbers are in their ranges, where the words' are
abbrev pub IsInRangeAs : Head → Command → Type 0
IsInRangeAs head command = (slots : ℕ) → IsHeadInRange slots head → IsCommandInRange slots command
