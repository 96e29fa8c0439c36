-- The first thing of a schema that a request does not match.
use Rattle.std.specs.Prelude.{ℕ, List, [], ◌∷◌, nat_lt, Option, Some, None, if◌then◌else◌}
use Rattle.apf_objects.specs.Rules.{Text, Resources, Paths, RuleSaid}
use Rattle.apf_objects.specs.Schemas.{SchemaSaid}
use Rattle.apf_matching.specs.Matches.{allows, allows_path, allows_namespace, has_subject}
use Rattle.apf_matching.specs.declared.miss.Miss.{Miss}
use Rattle.apf_matching.specs.declared.miss.Miss.TheVariants as the
use Rattle.apf_matching.specs.Requests.{RequestSaid, TargetSaid, of_resource, of_path}

-- how far a request got
abbrev pub depth : Miss → ℕ
depth the.NoRule = 0
depth the.Subject = 1
depth the.Rules = 2
depth the.Verb = 3
depth the.ApiGroup = 4
depth the.Path = 4
depth the.Resource = 5
depth the.Namespace = 6

-- of two misses the one that is further, and the first of two alike; none, which is a match, is the furthest
abbrev pub further : Option Miss → Option Miss → Option Miss
further None other = None
further (Some one) None = None
further (Some one) (Some other) = if nat_lt (depth one) (depth other) then Some other else Some one

-- the furthest miss, begun with this one
abbrev pub furthest_from : {A : Type 0} → (A → Option Miss) → Option Miss → List A → Option Miss
furthest_from miss_of miss [] = miss
furthest_from miss_of miss (x ∷ xs) = furthest_from miss_of (further miss (miss_of x)) xs

-- the furthest miss of rules, and this one where there are none
abbrev pub furthest : {A : Type 0} → Miss → (A → Option Miss) → List A → Option Miss
furthest none miss_of xs = furthest_from miss_of (Some none) xs

-- the first thing of a resource rule that such a request does not match
abbrev pub resource_miss : (verb api_group resource namespace : Text) → Resources → Option Miss
resource_miss verb api_group resource namespace rule =
    if allows rule.verbs verb then
    (if allows rule.api_groups api_group then
    (if allows rule.resources resource then
    (if allows_namespace rule namespace then None else Some the.Namespace)
    else Some the.Resource)
    else Some the.ApiGroup)
    else Some the.Verb

-- the first thing of a non-resource rule that such a request does not match
abbrev pub path_miss : (verb path : Text) → Paths → Option Miss
path_miss verb path rule =
    if allows rule.verbs verb then (if allows_path rule.paths path then None else Some the.Path) else Some the.Verb

-- the furthest miss of the rule's rules for such a target
abbrev pub target_miss : RuleSaid → Text → TargetSaid → Option Miss
target_miss rule verb (of_resource api_group name namespace) = furthest the.Rules (resource_miss verb api_group name namespace) rule.resource_rules
target_miss rule verb (of_path text) = furthest the.Rules (path_miss verb text) rule.path_rules

-- the first thing of a rule that a request does not match
abbrev pub rule_miss : RequestSaid → RuleSaid → Option Miss
rule_miss request rule =
    if has_subject request rule.subjects then target_miss rule request.verb request.target else Some the.Subject

-- the first thing of a schema that a request does not match, of the rule that matches furthest
unfoldable pub schema_miss : RequestSaid → SchemaSaid → Option Miss
schema_miss request schema = furthest the.NoRule (rule_miss request) schema.rules
