-- The levels with a change.
use Rattle.std.specs.Prelude.{ℕ, List, Option, Some, None, find, option_map, unwrap_or, if◌then◌else◌, Result, Ok, Err}
use Rattle.apf_words.specs.Limits.{max_queues, max_queue_length}
use Rattle.apf_files.specs.ConfigFile.{max_hand_size}
use Rattle.apf_files.specs.FirstFault.{◌>>=◌, or_fault}
use Rattle.apf_objects.specs.Levels.{LevelSaid, max_shares}
use Rattle.apf_objects.specs.Rules.{Text}
use Rattle.apf_objects.specs.declared.level.LevelSettings.{LevelSettings}
use Rattle.apf_objects.specs.declared.level.Queuing.{Queuing}
use Rattle.apf_changes.specs.Amounts.{judged}
use Rattle.apf_changes.specs.Lists.{is_level, replaced}
use Rattle.apf_changes.specs.declared.change.LevelChange.{LevelChange}
use Rattle.apf_changes.specs.declared.change.LevelChange.TheVariants.{Number, BorrowsAll, Response as Responds}
use Rattle.apf_changes.specs.declared.change.LevelNumber.{LevelNumber}
use Rattle.apf_changes.specs.declared.change.LevelNumber.TheVariants.{Shares, Lendable, Borrowing, Queues, Hand, Length}
use Rattle.apf_changes.specs.declared.change.Response.{Response}
use Rattle.apf_changes.specs.declared.change.Response.TheVariants.{Queue, Reject}
use Rattle.apf_changes.specs.declared.fault.Bounds.{Bounds}
use Rattle.apf_changes.specs.declared.fault.ChangeFault.{ChangeFault}
use Rattle.apf_changes.specs.declared.fault.ChangeFault.TheVariants.{NoLevel, Exempt, NoQueues}

-- the bounds of a number of a level, which are those of the objects
abbrev pub bounds_of : LevelNumber → Bounds
bounds_of Shares = record { low = 0; high = max_shares }
bounds_of Lendable = record { low = 0; high = 100 }
bounds_of Borrowing = record { low = 0; high = max_shares }
bounds_of Queues = record { low = 1; high = max_queues }
bounds_of Hand = record { low = 1; high = max_hand_size }
bounds_of Length = record { low = 1; high = max_queue_length }

-- the value, if the level is not exempt
abbrev pub if_limited : {A : Type 0} → LevelSettings → A → Result A ChangeFault
if_limited settings value = if settings.is_exempt then Err Exempt else Ok value

-- the queues of a level, which has to have some
abbrev pub queuing_of : LevelSettings → Result Queuing ChangeFault
queuing_of settings = if_limited settings settings.queuing >>= or_fault NoQueues

-- the number that stands there; none where the level borrows as many seats as there are
abbrev pub standing : LevelNumber → LevelSettings → Result (Option ℕ) ChangeFault
standing Shares settings = Ok (Some settings.shares)
standing Lendable settings = Ok (Some settings.lendable_percent)
standing Borrowing settings = if_limited settings settings.borrowing_percent
standing Queues settings = queuing_of settings >>= (λ queuing. Ok (Some queuing.queues))
standing Hand settings = queuing_of settings >>= (λ queuing. Ok (Some queuing.hand_size))
standing Length settings = queuing_of settings >>= (λ queuing. Ok (Some queuing.queue_length_limit))

-- the queues with a number of theirs
abbrev pub with_queue_number : LevelNumber → ℕ → Queuing → Queuing
with_queue_number Queues value queuing = record queuing { queues = value }
with_queue_number Hand value queuing = record queuing { hand_size = value }
with_queue_number Length value queuing = record queuing { queue_length_limit = value }
with_queue_number _ value queuing = queuing

-- the settings with a number of theirs
abbrev pub with_number : LevelNumber → ℕ → LevelSettings → LevelSettings
with_number Shares value settings = record settings { shares = value }
with_number Lendable value settings = record settings { lendable_percent = value }
with_number Borrowing value settings = record settings { borrowing_percent = Some value }
with_number number value settings = record settings { queuing = option_map (with_queue_number number value) settings.queuing }

-- the queues where nothing else is said of them
abbrev pub usual_queuing : Queuing
usual_queuing = record { queues = 64; hand_size = 8; queue_length_limit = 50 }

-- the queues of a level with this response, which had these
abbrev pub queuing_by : Response → Option Queuing → Option Queuing
queuing_by Queue queuing = Some (unwrap_or queuing usual_queuing)
queuing_by Reject queuing = None

-- the settings with a change
unfoldable pub settings_with : LevelChange → LevelSettings → Result LevelSettings ChangeFault
settings_with (Number number amount) settings = do
  stands ← standing number settings
  value ← judged amount stands (bounds_of number)
  Ok (with_number number value settings)
settings_with BorrowsAll settings = if_limited settings (record settings { borrowing_percent = None })
settings_with (Responds response) settings = if_limited settings (record settings { queuing = queuing_by response settings.queuing })

-- the levels with a change of the one of this name
unfoldable pub levels_with : LevelChange → Text → List LevelSaid → Result (List LevelSaid) ChangeFault
levels_with change name levels = do
  level ← or_fault NoLevel (find (is_level name) levels)
  settings ← settings_with change level.settings
  Ok (replaced (is_level name) (record { name = level.name; settings = settings }) levels)
