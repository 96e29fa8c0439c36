-- Which requests of a log are chosen, and what makes a flow.
use Rattle.std.specs.Prelude.{ℕ, ◌-◌, List, length, take, slice_get, Bool, true, ◌&&◌, nat_eq, nat_le, nat_lt, if◌then◌else◌, Option, Some, None, option_and_then, codes, bytes_eq}
use Rattle.std.specs.Borrow.{Bor}
use Rattle.std.specs.List.{starts_with, ends_with}
use Rattle.apf_objects.specs.declared.schema.Distinguisher.{Distinguisher}
use Rattle.apf_objects.specs.declared.schema.Distinguisher.TheVariants as what
use Rattle.apf_objects.specs.declared.schema.Schema.{Schema}
use Rattle.apf_audit.specs.declared.choice.By.{By}
use Rattle.apf_audit.specs.declared.choice.By.TheVariants.{User, Namespace, Schema as BySchema, Schemas as BySchemas}
use Rattle.apf_audit.specs.declared.choice.Choice.{Choice}

-- what makes a flow, by its word
abbrev pub by_named : List ℕ → Option By
by_named word = if bytes_eq word (codes "user") then Some User else (if bytes_eq word (codes "namespace") then Some Namespace else None)

-- what makes a flow within a schema, and nothing where there is none
abbrev pub within_schema : Option Schema → Distinguisher
within_schema None = what.Nothing
within_schema (Some schema) = schema.distinguisher

-- what makes a flow within the schema at this place
abbrev pub within : List Schema → Option ℕ → Distinguisher
within schemas place = within_schema (option_and_then (λ i. slice_get schemas i) place)

-- what makes a flow, of a request that is of the schema at this place where a schema makes a flow
abbrev pub distinguisher_by : By → Option ℕ → Distinguisher
distinguisher_by User place = what.User
distinguisher_by Namespace place = what.Namespace
distinguisher_by (BySchema cluster) place = within cluster.now.schemas.items place
distinguisher_by (BySchemas first second) place = within first.now.schemas.items place

-- the name is the pattern, or begins as it does where it ends with `*`
abbrev pub is_named : (pattern name : List ℕ) → Bool
is_named pattern name =
    if ends_with nat_eq pattern (codes "*") then starts_with nat_eq name (take (length pattern - 1) pattern) else bytes_eq name pattern

-- the requests of this user are chosen
abbrev pub has_user : Option (Bor (List ℕ)) → List ℕ → Bool
has_user None name = true
has_user (Some pattern) name = is_named pattern.now name

-- the instant is not before the first one
abbrev pub has_begun : Option ℕ → ℕ → Bool
has_begun None received = true
has_begun (Some since) received = nat_le since received

-- the instant is before the end
abbrev pub is_open : Option ℕ → ℕ → Bool
is_open None received = true
is_open (Some until) received = nat_lt received until

-- a request of this user is chosen that was received at this instant
unfoldable pub is_chosen : Choice → List ℕ → ℕ → Bool
is_chosen choice user received = has_user choice.user user && has_begun choice.since received && is_open choice.until received
