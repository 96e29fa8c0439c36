-- What a change asks for, by its texts.
use Rattle.apf_objects.specs.Rules.{Text}
use Rattle.apf_changes.specs.declared.change.Amount.{Amount}
use Rattle.apf_changes.specs.declared.change.LevelChange.{LevelChange}
use Rattle.apf_changes.specs.declared.change.SchemaChange.{SchemaChange}
use Rattle.apf_changes.specs.declared.change.Change.{Change}
use Rattle.apf_changes.specs.declared.change.Change.TheVariants as of_code

-- what is changed of a cluster, of its server or of its requests
pub data ChangeSaid : Type 0 where
  server_seats : Amount → ChangeSaid
  level_seats : (level : Text) → Amount → ChangeSaid
  user_rate : (user : Text) → Amount → ChangeSaid
  schema_rate : (schema : Text) → Amount → ChangeSaid
  of_level : (level : Text) → LevelChange → ChangeSaid
  of_schema : (schema : Text) → SchemaChange → ChangeSaid
  schema_level : (schema level : Text) → ChangeSaid

-- what the code holds
abbrev pub change_view : Change → ChangeSaid
change_view (of_code.ServerSeats amount) = server_seats amount
change_view (of_code.LevelSeats name amount) = level_seats name.now amount
change_view (of_code.UserRate name amount) = user_rate name.now amount
change_view (of_code.SchemaRate name amount) = schema_rate name.now amount
change_view (of_code.Level name change) = of_level name.now change
change_view (of_code.Schema name change) = of_schema name.now change
change_view (of_code.SchemaLevel name level) = schema_level name.now level.now
