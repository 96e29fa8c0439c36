-- How many requests have a line of the server's own, and for how many the line names the same schema.
use Rattle.std.specs.Prelude.{ℕ, ◌+◌, ◌-◌, ◌^◌, min, List, [], ◌∷◌, ◌++◌, length, map, Bool, true, false, not, ◌&&◌, is_some, nat_lt, if◌then◌else◌, Option, Some, None, option_and_then, option_map, slice_get, bytes_eq, string_bytes}
use Rattle.apf_objects.specs.declared.schema.Schema.{Schema as FlowSchema}
use Rattle.apf_request_lines.specs.Lines.{Request}
use Rattle.apf_audit.specs.AuditEvent.{Event}
use Rattle.apf_audit.specs.declared.choice.By.{By}
use Rattle.apf_audit.specs.declared.choice.By.TheVariants.{User, Namespace, Schema, Schemas}
use Rattle.apf_joined_reader.specs.Joins.{Join, line_by}
use Rattle.apf_joined_reader.specs.declared.counts.Counts.{Counts}
use Rattle.apf_joined_reader.specs.declared.counts.Differs.{Differs}

-- a request whose line names another schema: the line of its audit event, the place of its schema, and the name that its line has
pub record DiffersSaid : Type 0 where
  pub line : ℕ
  pub schema : Option ℕ
  pub said : List ℕ

pub record CountsSaid : Type 0 where
  -- how many were handed out
  pub requests : ℕ
  -- of how many a line was found
  pub joined : ℕ
  -- how many have their run from it
  pub timed : ℕ
  -- of how many the line names the same schema, and of how many another one
  pub agreed : ℕ
  pub differ : ℕ
  -- the first two of these
  pub first : List DiffersSaid

-- what the code holds
abbrev pub differs_said : Differs → DiffersSaid
differs_said d = record { line = d.line; schema = d.schema; said = d.said.items }

abbrev pub counts_said : Counts → CountsSaid
counts_said c = record { requests = c.requests; joined = c.joined; timed = c.timed; agreed = c.agreed; differ = c.differ; first = map differs_said c.first.items }

-- nothing is counted yet
abbrev pub no_counts : CountsSaid
no_counts = record { requests = 0; joined = 0; timed = 0; agreed = 0; differ = 0; first = [] }

-- one more, and no more than can be counted
abbrev pub up : ℕ → ℕ
up count = min (count + 1) (2 ^ 64 - 1)

-- the name of the schema at this place of these
abbrev pub name_in : List FlowSchema → Option ℕ → Option (List ℕ)
name_in schemas place = option_map (λ schema. string_bytes schema.name) (option_and_then (λ i. slice_get schemas i) place)

-- the name of the schema at this place, where schemas make the flows
abbrev pub name_by : By → Option ℕ → Option (List ℕ)
name_by User place = None
name_by Namespace place = None
name_by (Schema cluster) place = name_in cluster.now.schemas.items place
name_by (Schemas first second) place = name_in first.now.schemas.items place

-- the run is the line's: of a request that was not turned away, whose line says it
abbrev pub is_timed : Event → Request → Bool
is_timed e r = not e.turned_away && is_some r.runs_for

-- the first two
abbrev pub first_with : List DiffersSaid → DiffersSaid → List DiffersSaid
first_with first d = if nat_lt (length first) 2 then first ++ d ∷ [] else first

-- one more, whose line names this schema: the same one, or another
abbrev pub counts_named : Bool → List ℕ → Event → CountsSaid → CountsSaid
counts_named true said e c = record c { agreed = up c.agreed }
counts_named false said e c = record c { differ = up c.differ; first = first_with c.first (record { line = e.line; schema = e.schema; said = said }) }

-- the same, where both names are there
abbrev pub counts_compared : Option (List ℕ) → Option (List ℕ) → Event → CountsSaid → CountsSaid
counts_compared None said e c = c
counts_compared (Some ours) None e c = c
counts_compared (Some ours) (Some said) e c = counts_named (bytes_eq ours said) said e c

-- a request, of a schema of this name, of which this line was found
abbrev pub counts_with : Option (List ℕ) → Event → Request → CountsSaid → CountsSaid
counts_with ours e r c = counts_compared ours r.schema e (record c { joined = up c.joined; timed = if is_timed e r then up c.timed else c.timed })

-- the same, if a line of it was found
abbrev pub counts_if : Option (List ℕ) → Event → Option Request → CountsSaid → CountsSaid
counts_if ours e None c = c
counts_if ours e (Some r) c = counts_with ours e r c

-- one more was handed out
abbrev pub counts_then : Option (List ℕ) → Event → Option Request → CountsSaid → CountsSaid
counts_then ours e line c = counts_if ours e line (record c { requests = up c.requests })

-- these, one after the other
abbrev pub counts_from : By → CountsSaid → List Join → CountsSaid
counts_from by c [] = c
counts_from by c (j ∷ joins) = counts_from by (counts_then (name_by by j.event.schema) j.event (line_by j.asked) c) joins

abbrev pub counts_of : By → List Join → CountsSaid
counts_of by joins = counts_from by no_counts joins
