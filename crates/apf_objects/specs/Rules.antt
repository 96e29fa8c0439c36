-- The rules of a schema, as a text of objects says them.
use Rattle.std.specs.Prelude.{ℕ, List, Bool, map, Option, Some, is_some, if◌then◌else◌, Result, Ok, Err, String, codes, bytes_eq, string_bytes}
use Rattle.std.specs.declared.alloc.Global.{Global}
use Rattle.serde_json.specs.Data.{Data, Items}
use Rattle.serde_json.specs.Find.{as_object}
use Rattle.apf_files.specs.FirstFault.{◌>>=◌}
use Rattle.apf_objects.specs.Values.{part_at, text_at, texts_at, flag_at, items_at, each_from}
use Rattle.apf_objects.specs.declared.fault.Place.{Place}
use Rattle.apf_objects.specs.declared.fault.ObjectFault.{ObjectFault}
use Rattle.apf_objects.specs.declared.fault.ObjectFault.TheVariants.{BadValue}
use Rattle.apf_objects.specs.declared.key.ObjectKey.{ObjectKey}
use Rattle.apf_objects.specs.declared.key.ObjectKey.TheVariants as key
use Rattle.apf_objects.specs.declared.rule.Rule.{Rule}
use Rattle.apf_objects.specs.declared.rule.subject.Subject.{Subject}
use Rattle.apf_objects.specs.declared.rule.subject.Subject.TheVariants as of_code
use Rattle.apf_objects.specs.declared.rule.requests.ResourceRule.{ResourceRule}
use Rattle.apf_objects.specs.declared.rule.requests.PathRule.{PathRule}

-- a text, by its bytes
abbrev pub Text : Type 0
Text = List ℕ

-- whose requests a rule is about
pub data Who : Type 0 where
  user : Text → Who
  group : Text → Who
  account : (namespace name : Text) → Who

-- which requests for resources a rule is about
pub record Resources : Type 0 where
  pub verbs : List Text
  pub api_groups : List Text
  pub resources : List Text
  pub cluster_scope : Bool
  pub namespaces : List Text

-- which requests that name no resource a rule is about
pub record Paths : Type 0 where
  pub verbs : List Text
  pub paths : List Text

-- a rule
pub record RuleSaid : Type 0 where
  pub subjects : List Who
  pub resource_rules : List Resources
  pub path_rules : List Paths

-- what the code holds
abbrev pub text_view : String Global → Text
text_view text = string_bytes text

abbrev pub subject_view : Subject → Who
subject_view (of_code.User name) = user (string_bytes name)
subject_view (of_code.Group name) = group (string_bytes name)
subject_view (of_code.ServiceAccount namespace name) = account (string_bytes namespace) (string_bytes name)

abbrev pub resource_rule_view : ResourceRule → Resources
resource_rule_view rule = record {
  verbs = map string_bytes rule.verbs.items;
  api_groups = map string_bytes rule.api_groups.items;
  resources = map string_bytes rule.resources.items;
  cluster_scope = rule.cluster_scope;
  namespaces = map string_bytes rule.namespaces.items;
}

abbrev pub path_rule_view : PathRule → Paths
path_rule_view rule = record { verbs = map string_bytes rule.verbs.items; paths = map string_bytes rule.paths.items }

abbrev pub rule_view : Rule → RuleSaid
rule_view rule = record {
  subjects = map subject_view rule.subjects.items;
  resource_rules = map resource_rule_view rule.resource_rules.items;
  path_rules = map path_rule_view rule.path_rules.items;
}

-- the value is an object; else the fault of this key
abbrev pub object_at : Place → ObjectKey → Data → Result Data ObjectFault
object_at place key d = if is_some (as_object d) then Ok d else Err (BadValue place key)

-- the text at a key of the object at another
unfoldable pub name_within : Place → (outer inner : ObjectKey) → Data → Result Text ObjectFault
name_within place outer inner d = part_at place outer (Some d) >>= text_at place inner

-- the subject of each kind
unfoldable pub user_of : Place → Data → Result Who ObjectFault
user_of place d = name_within place key.User key.UserName d >>= (λ name. Ok (user name))

unfoldable pub group_of : Place → Data → Result Who ObjectFault
group_of place d = name_within place key.Group key.GroupName d >>= (λ name. Ok (group name))

unfoldable pub account_of : Place → Data → Result Who ObjectFault
account_of place d = do
  namespace ← name_within place key.ServiceAccount key.AccountNamespace d
  name ← name_within place key.ServiceAccount key.AccountName d
  Ok (account namespace name)

abbrev pub subject_by : Place → Data → Text → Result Who ObjectFault
subject_by place d kind =
    if bytes_eq kind (codes "User") then user_of place d
    else (if bytes_eq kind (codes "Group") then group_of place d
    else (if bytes_eq kind (codes "ServiceAccount") then account_of place d else Err (BadValue place key.SubjectKind)))

-- the subject that a value is, or its first fault
unfoldable pub subject_of : Place → Data → Result Who ObjectFault
subject_of place d = do
  whole ← object_at place key.Subject d
  kind ← text_at place key.SubjectKind (Some d)
  subject_by place d kind

abbrev pub subjects_of : Place → Items → Result (List Who) ObjectFault
subjects_of place items = each_from (λ i d. subject_of (record place { member = i }) d) 0 items

unfoldable pub subjects_at : Place → Data → Result (List Who) ObjectFault
subjects_at place d = items_at place key.Subjects (Some d) >>= subjects_of place

-- the resource rule that a value is, or its first fault
unfoldable pub resource_rule_of : Place → Data → Result Resources ObjectFault
resource_rule_of place d = do
  whole ← object_at place key.ResourceRule d
  verbs ← texts_at place key.Verbs (Some d)
  api_groups ← texts_at place key.ApiGroups (Some d)
  resources ← texts_at place key.Resources (Some d)
  cluster_scope ← flag_at place key.ClusterScope (Some d)
  namespaces ← texts_at place key.Namespaces (Some d)
  Ok (record { verbs = verbs; api_groups = api_groups; resources = resources; cluster_scope = cluster_scope; namespaces = namespaces })

abbrev pub resource_rules_of : Place → Items → Result (List Resources) ObjectFault
resource_rules_of place items = each_from (λ i d. resource_rule_of (record place { member = i }) d) 0 items

unfoldable pub resource_rules_at : Place → Data → Result (List Resources) ObjectFault
resource_rules_at place d = items_at place key.ResourceRules (Some d) >>= resource_rules_of place

-- the non-resource rule that a value is, or its first fault
unfoldable pub path_rule_of : Place → Data → Result Paths ObjectFault
path_rule_of place d = do
  whole ← object_at place key.PathRule d
  verbs ← texts_at place key.PathVerbs (Some d)
  paths ← texts_at place key.Paths (Some d)
  Ok (record { verbs = verbs; paths = paths })

abbrev pub path_rules_of : Place → Items → Result (List Paths) ObjectFault
path_rules_of place items = each_from (λ i d. path_rule_of (record place { member = i }) d) 0 items

unfoldable pub path_rules_at : Place → Data → Result (List Paths) ObjectFault
path_rules_at place d = items_at place key.PathRules (Some d) >>= path_rules_of place

-- the rule that a value is, or its first fault
unfoldable pub rule_of : Place → Data → Result RuleSaid ObjectFault
rule_of place d = do
  whole ← object_at place key.Rule d
  subjects ← subjects_at place d
  resource_rules ← resource_rules_at place d
  path_rules ← path_rules_at place d
  Ok (record { subjects = subjects; resource_rules = resource_rules; path_rules = path_rules })

abbrev pub rules_of : Place → Items → Result (List RuleSaid) ObjectFault
rules_of place items = each_from (λ i d. rule_of (record place { rule = i }) d) 0 items

-- the rules of a schema, none where the key is absent
unfoldable pub rules_at : Place → Option Data → Result (List RuleSaid) ObjectFault
rules_at place d = items_at place key.Rules d >>= rules_of place
