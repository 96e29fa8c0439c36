-- Which requests a schema matches.
use Rattle.std.specs.Prelude.{◌-◌, List, length, take, drop, Bool, false, ◌&&◌, ◌||◌, nat_eq, Option, Some, None, option_and_then, if◌then◌else◌, codes, bytes_eq}
use Rattle.std.specs.List.{list_any, starts_with, ends_with}
use Rattle.apf_objects.specs.Rules.{Text, Who, user, group, account, Resources, Paths, RuleSaid}
use Rattle.apf_objects.specs.Schemas.{SchemaSaid}
use Rattle.apf_matching.specs.Requests.{RequestSaid, TargetSaid, of_resource, of_path}

-- the text is one of these
abbrev pub is_among : List Text → Text → Bool
is_among texts text = list_any (λ one. bytes_eq one text) texts

-- the text is one of these, or `*` is
abbrev pub allows : List Text → Text → Bool
allows texts text = is_among texts (codes "*") || is_among texts text

-- the rest of a text behind this beginning, if it begins so
abbrev pub behind : (front text : Text) → Option Text
behind front text = if starts_with nat_eq text front then Some (drop (length front) text) else None

-- the name of the service account of this namespace that a user is: what is behind `system:serviceaccount:NAMESPACE:`
abbrev pub account_of : (namespace name : Text) → Option Text
account_of namespace name = option_and_then (behind (codes ":")) (option_and_then (behind namespace) (behind (codes "system:serviceaccount:") name))

abbrev pub is_named : Text → Option Text → Bool
is_named name None = false
is_named name (Some other) = bytes_eq name (codes "*") || bytes_eq name other

-- a user is the service account of this name in this namespace, where `*` is every name
abbrev pub is_account : (namespace name of_user : Text) → Bool
is_account namespace name of_user = is_named name (account_of namespace of_user)

-- one of the groups has this name
abbrev pub has_group : List Text → Text → Bool
has_group groups name = list_any (λ one. bytes_eq one name) groups

-- a subject is about the request
abbrev pub is_about : RequestSaid → Who → Bool
is_about request (user name) = bytes_eq name (codes "*") || bytes_eq name request.user
is_about request (group name) = bytes_eq name (codes "*") || has_group request.groups name
is_about request (account namespace name) = is_account namespace name request.user

-- one of the subjects is
abbrev pub has_subject : RequestSaid → List Who → Bool
has_subject request subjects = list_any (is_about request) subjects

-- the path begins with the stem, and behind that is a `/` if the stem does not end with one
abbrev pub is_below : (stem path : Text) → Bool
is_below stem path = starts_with nat_eq path stem && (ends_with nat_eq stem (codes "/") || starts_with nat_eq (drop (length stem) path) (codes "/"))

-- a non-resource URL stands for the path: it is `*`, or the path, or it ends with `*` and the path is below what is in front of that
abbrev pub is_path : (url path : Text) → Bool
is_path url path =
    bytes_eq url (codes "*") || bytes_eq url path || (ends_with nat_eq url (codes "*") && is_below (take (length url - 1) url) path)

-- one of these stands for the path
abbrev pub allows_path : List Text → Text → Bool
allows_path urls path = list_any (λ url. is_path url path) urls

-- the rule allows the namespace; without one its cluster scope has to be true
abbrev pub allows_namespace : Resources → Text → Bool
allows_namespace rule namespace = if bytes_eq namespace (codes "") then rule.cluster_scope else allows rule.namespaces namespace

-- a resource rule is about such a request
abbrev pub is_resource : (verb api_group resource namespace : Text) → Resources → Bool
is_resource verb api_group resource namespace rule =
    allows rule.verbs verb && allows rule.api_groups api_group && allows rule.resources resource && allows_namespace rule namespace

-- a non-resource rule is about such a request
abbrev pub is_other : (verb path : Text) → Paths → Bool
is_other verb path rule = allows rule.verbs verb && allows_path rule.paths path

-- one of the rule's resource rules is about the request, or where it names no resource one of its non-resource rules
abbrev pub has_target : RuleSaid → Text → TargetSaid → Bool
has_target rule verb (of_resource api_group name namespace) = list_any (is_resource verb api_group name namespace) rule.resource_rules
has_target rule verb (of_path text) = list_any (is_other verb text) rule.path_rules

-- a rule matches a request of one of its subjects for one of its targets
unfoldable pub rule_matches : RequestSaid → RuleSaid → Bool
rule_matches request rule = has_subject request rule.subjects && has_target rule request.verb request.target

-- a schema matches what one of its rules matches
unfoldable pub schema_matches : RequestSaid → SchemaSaid → Bool
schema_matches request schema = list_any (rule_matches request) schema.rules
