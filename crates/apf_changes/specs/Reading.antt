-- The change that a text asks for.
use Rattle.std.specs.Prelude.{◌∷◌, ◌++◌, ◌&&◌, Option, Some, None, option_map, if◌then◌else◌, Result, Ok, Err, codes, bytes_eq}
use Rattle.apf_files.specs.FirstFault.{◌>>=◌, or_fault}
use Rattle.apf_objects.specs.Rules.{Text}
use Rattle.apf_objects.specs.declared.schema.Distinguisher.TheVariants as distinguished
use Rattle.apf_matching.specs.Matches.{behind}
use Rattle.apf_changes.specs.Amounts.{amount_of, rate_of}
use Rattle.apf_changes.specs.Changes as said
use Rattle.apf_changes.specs.Changes.{ChangeSaid}
use Rattle.apf_changes.specs.Texts.{around_last, equals_sign, dot}
use Rattle.apf_changes.specs.declared.change.Amount.{Amount}
use Rattle.apf_changes.specs.declared.change.LevelNumber.{LevelNumber}
use Rattle.apf_changes.specs.declared.change.LevelNumber.TheVariants.{Shares, Lendable, Borrowing, Queues, Hand, Length}
use Rattle.apf_changes.specs.declared.change.LevelChange.{LevelChange}
use Rattle.apf_changes.specs.declared.change.LevelChange.TheVariants as level
use Rattle.apf_changes.specs.declared.change.Response.TheVariants as response
use Rattle.apf_changes.specs.declared.change.SchemaChange.{SchemaChange}
use Rattle.apf_changes.specs.declared.change.SchemaChange.TheVariants as schema
use Rattle.apf_changes.specs.declared.fault.ChangeFault.{ChangeFault}
use Rattle.apf_changes.specs.declared.fault.ChangeFault.TheVariants.{NoValue, UnknownKey, BadValue}
use Rattle.apf_changes.specs.declared.fault.Wanted.TheVariants as wanted

-- the number of a value
abbrev pub number_in : Text → Result Amount ChangeFault
number_in value = or_fault (BadValue wanted.Number) (amount_of value)

-- the rate of a value
abbrev pub rate_in : Text → Result Amount ChangeFault
rate_in value = or_fault (BadValue wanted.Rate) (rate_of value)

-- how much a level borrows at most
abbrev pub borrowing_in : Text → Result LevelChange ChangeFault
borrowing_in value =
    if bytes_eq value (codes "none") then Ok level.BorrowsAll
    else or_fault (BadValue wanted.NumberOrNone) (option_map (level.Number Borrowing) (amount_of value))

-- what becomes of a request that does not fit
abbrev pub response_in : Text → Result LevelChange ChangeFault
response_in value =
    if bytes_eq value (codes "Queue") then Ok (level.Response response.Queue)
    else (if bytes_eq value (codes "Reject") then Ok (level.Response response.Reject) else Err (BadValue wanted.Response))

-- what makes a flow within a schema
abbrev pub by_in : Text → Result SchemaChange ChangeFault
by_in value =
    if bytes_eq value (codes "user") then Ok (schema.By distinguished.User)
    else (if bytes_eq value (codes "namespace") then Ok (schema.By distinguished.Namespace)
    else (if bytes_eq value (codes "none") then Ok (schema.By distinguished.Nothing) else Err (BadValue wanted.Distinguisher)))

-- the number of a level of this name
abbrev pub number_named : Text → Option LevelNumber
number_named setting =
    if bytes_eq setting (codes "shares") then Some Shares
    else (if bytes_eq setting (codes "lendable") then Some Lendable
    else (if bytes_eq setting (codes "queues") then Some Queues
    else (if bytes_eq setting (codes "hand") then Some Hand
    else (if bytes_eq setting (codes "length") then Some Length else None))))

-- a number of a level
abbrev pub number_change : (setting value : Text) → Result LevelChange ChangeFault
number_change setting value =
    or_fault UnknownKey (number_named setting) >>= (λ number. number_in value >>= (λ amount. Ok (level.Number number amount)))

-- what is changed of a level, but for its nominal limit
unfoldable pub level_change : (setting value : Text) → Result LevelChange ChangeFault
level_change setting value =
    if bytes_eq setting (codes "borrowing") then borrowing_in value
    else (if bytes_eq setting (codes "response") then response_in value else number_change setting value)

-- a setting of a level
unfoldable pub of_level : (name setting value : Text) → Result ChangeSaid ChangeFault
of_level name setting value =
    if bytes_eq setting (codes "seats") then number_in value >>= (λ amount. Ok (said.level_seats name amount))
    else level_change setting value >>= (λ change. Ok (said.of_level name change))

-- a setting of a schema
unfoldable pub of_schema : (name setting value : Text) → Result ChangeSaid ChangeFault
of_schema name setting value =
    if bytes_eq setting (codes "precedence") then number_in value >>= (λ amount. Ok (said.of_schema name (schema.Precedence amount)))
    else (if bytes_eq setting (codes "level") then Ok (said.schema_level name value)
    else (if bytes_eq setting (codes "by") then by_in value >>= (λ change. Ok (said.of_schema name change))
    else (if bytes_eq setting (codes "rate") then rate_in value >>= (λ amount. Ok (said.schema_rate name amount)) else Err UnknownKey)))

-- a setting of a user
unfoldable pub of_user : (name setting value : Text) → Result ChangeSaid ChangeFault
of_user name setting value =
    if bytes_eq setting (codes "rate") then rate_in value >>= (λ amount. Ok (said.user_rate name amount)) else Err UnknownKey

-- a setting of a user or of a level, by what is behind `user:`
abbrev pub of_user_or_level : (name setting value : Text) → Option Text → Result ChangeSaid ChangeFault
of_user_or_level name setting value (Some user) = of_user user setting value
of_user_or_level name setting value None = of_level name setting value

-- a setting of a schema, of a user or of a level, by what is behind `schema:`
abbrev pub of_any : (name setting value : Text) → Option Text → Result ChangeSaid ChangeFault
of_any name setting value (Some schema) = of_schema schema setting value
of_any name setting value None = of_user_or_level name setting value (behind (codes "user:") name)

-- a setting of what this names: the server, a schema, a user or a level
unfoldable pub of_name : (name setting value : Text) → Result ChangeSaid ChangeFault
of_name name setting value =
    if bytes_eq name (codes "server") && bytes_eq setting (codes "seats") then number_in value >>= (λ amount. Ok (said.server_seats amount))
    else of_any name setting value (behind (codes "schema:") name)

-- the change that a text asks for, or its first fault: the last `=` is behind the key, and the last dot of the key before the setting
unfoldable pub change_of : Text → Result ChangeSaid ChangeFault
change_of text = do
  sides ← or_fault NoValue (around_last equals_sign text)
  key ← or_fault UnknownKey (around_last dot sides.front)
  of_name key.front key.back sides.back

-- the text of a name, a setting and a value
abbrev pub written : (name setting value : Text) → Text
written name setting value = name ++ dot ∷ setting ++ equals_sign ∷ value
