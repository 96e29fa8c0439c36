-- The levels, as a text of objects says them.
use Rattle.std.specs.Prelude.{ℕ, ◌≤◌, true, false, Option, Some, None, is_some, IfSome, if◌then◌else◌, Result, Ok, Err, codes, bytes_eq, string_bytes}
use Rattle.serde_json.specs.Data.{Data}
use Rattle.apf_words.specs.Limits.{max_queues, max_queue_length}
use Rattle.apf_files.specs.FirstFault.{◌>>=◌}
use Rattle.apf_files.specs.ConfigFile.{max_hand_size}
use Rattle.apf_objects.specs.Rules.{Text}
use Rattle.apf_objects.specs.Values.{at, part_at, text_at, number_at}
use Rattle.apf_objects.specs.declared.fault.Place.{Place}
use Rattle.apf_objects.specs.declared.fault.ObjectFault.{ObjectFault}
use Rattle.apf_objects.specs.declared.fault.ObjectFault.TheVariants.{BadValue}
use Rattle.apf_objects.specs.declared.key.ObjectKey.{ObjectKey}
use Rattle.apf_objects.specs.declared.key.ObjectKey.TheVariants as key
use Rattle.apf_objects.specs.declared.level.Version.{Version}
use Rattle.apf_objects.specs.declared.level.Version.TheVariants.{V1, V1beta3, V1beta2}
use Rattle.apf_objects.specs.declared.level.Queuing.{Queuing}
use Rattle.apf_objects.specs.declared.level.LevelSettings.{LevelSettings}
use Rattle.apf_objects.specs.declared.level.Level.{Level}

-- a level
pub record LevelSaid : Type 0 where
  pub name : Text
  pub settings : LevelSettings

-- what the code holds
abbrev pub level_view : Level → LevelSaid
level_view level = record { name = string_bytes level.name; settings = level.settings }

-- the most shares, the largest number of 32 bits with a sign
abbrev pub max_shares : ℕ
max_shares = 2147483647

-- the key of the shares of a level that holds requests back
abbrev pub shares_key : Version → ObjectKey
shares_key V1 = key.NominalShares
shares_key V1beta3 = key.NominalShares
shares_key V1beta2 = key.AssuredShares

-- the queues of a level
unfoldable pub queuing_at : Place → Option Data → Result Queuing ObjectFault
queuing_at place response = do
  queuing ← part_at place key.Queuing response
  queues ← number_at place key.Queues 1 max_queues 64 queuing
  hand_size ← number_at place key.HandSize 1 max_hand_size 8 queuing
  queue_length_limit ← number_at place key.QueueLengthLimit 1 max_queue_length 50 queuing
  Ok (record { queues = queues; hand_size = hand_size; queue_length_limit = queue_length_limit })

-- what becomes of a request that does not fit, by the name of it: the queues, or none where it is rejected
abbrev pub response_by : Place → Option Data → Text → Result (Option Queuing) ObjectFault
response_by place response name =
    if bytes_eq name (codes "Queue") then queuing_at place response >>= (λ queuing. Ok (Some queuing))
    else (if bytes_eq name (codes "Reject") then Ok None else Err (BadValue place key.ResponseType))

unfoldable pub response_at : Place → Option Data → Result (Option Queuing) ObjectFault
response_at place limited = do
  response ← part_at place key.LimitResponse limited
  name ← text_at place key.ResponseType response
  response_by place response name

-- how much a level borrows at most, and none where the key is absent
unfoldable pub borrowing_at : Place → Option Data → Result (Option ℕ) ObjectFault
borrowing_at place limited =
    if is_some (at key.BorrowingLimitPercent limited)
    then number_at place key.BorrowingLimitPercent 0 max_shares 0 limited >>= (λ n. Ok (Some n)) else Ok None

-- a level that holds requests back
unfoldable pub limited_of : Place → Version → Option Data → Result LevelSettings ObjectFault
limited_of place version body = do
  limited ← part_at place key.Limited body
  shares ← number_at place (shares_key version) 0 max_shares 30 limited
  lendable_percent ← number_at place key.LendablePercent 0 100 0 limited
  borrowing_percent ← borrowing_at place limited
  queuing ← response_at place limited
  Ok (record {
    is_exempt = false;
    shares = shares;
    lendable_percent = lendable_percent;
    borrowing_percent = borrowing_percent;
    queuing = queuing;
  })

-- a level that holds no request back
unfoldable pub exempt_of : Place → Option Data → Result LevelSettings ObjectFault
exempt_of place body = do
  exempt ← part_at place key.Exempt body
  shares ← number_at place key.ExemptShares 0 max_shares 0 exempt
  lendable_percent ← number_at place key.ExemptLendablePercent 0 100 0 exempt
  Ok (record {
    is_exempt = true;
    shares = shares;
    lendable_percent = lendable_percent;
    borrowing_percent = None;
    queuing = None;
  })

-- what a level of this type is
abbrev pub settings_by : Place → Version → Option Data → Text → Result LevelSettings ObjectFault
settings_by place version body name =
    if bytes_eq name (codes "Limited") then limited_of place version body
    else (if bytes_eq name (codes "Exempt") then exempt_of place body else Err (BadValue place key.LevelType))

unfoldable pub settings_of : Place → Version → Option Data → Result LevelSettings ObjectFault
settings_of place version body = text_at place key.LevelType body >>= settings_by place version body

-- the name of an object
unfoldable pub name_of : Place → Data → Result Text ObjectFault
name_of place d = part_at place key.Metadata (Some d) >>= text_at place key.Name

-- the level that an object is, or its first fault
unfoldable pub level_of : Place → Version → Data → Result LevelSaid ObjectFault
level_of place version d = do
  name ← name_of place d
  body ← part_at place key.Spec (Some d)
  settings ← settings_of place version body
  Ok (record { name = name; settings = settings })

-- each number is in its range
abbrev pub IsQueuingInRange : Queuing → Type 0
IsQueuingInRange queuing =
    (1 ≤ queuing.queues) × (queuing.queues ≤ max_queues) × (1 ≤ queuing.hand_size) × (queuing.hand_size ≤ max_hand_size)
    × (1 ≤ queuing.queue_length_limit) × (queuing.queue_length_limit ≤ max_queue_length)

pub record AreSettingsInRange (settings : LevelSettings) : Type 0 where
  pub shares : settings.shares ≤ max_shares
  pub lendable : settings.lendable_percent ≤ 100
  pub borrowing : IfSome settings.borrowing_percent (λ n. n ≤ max_shares)
  pub queuing : IfSome settings.queuing IsQueuingInRange
