-- A schema is missed by nothing exactly where it matches.
use Rattle.std.proofs.Common.{◌≡◌, ◌∙◌, List, [], ◌∷◌, Bool, true, false, Option, Some, None, refl, ap}
use Rattle.std.specs.Prelude.{◌&&◌, ◌||◌, is_none, nat_lt, if◌then◌else◌}
use Rattle.std.specs.List.{list_any}
use Rattle.apf_objects.specs.Rules.{Text, Resources, Paths, RuleSaid}
use Rattle.apf_objects.specs.Schemas.{SchemaSaid}
use Rattle.apf_matching.specs.Matches.{allows, allows_path, allows_namespace, has_subject, has_target, is_resource, is_other, rule_matches, schema_matches}
use Rattle.apf_matching.specs.Misses.{depth, further, furthest, furthest_from, resource_miss, path_miss, target_miss, rule_miss, schema_miss}
use Rattle.apf_matching.specs.declared.miss.Miss.{Miss}
use Rattle.apf_matching.specs.Requests.{RequestSaid, TargetSaid, of_resource, of_path}

chosen : (b : Bool) (one other : Miss) → is_none (if b then Some other else Some one) ≡ false
chosen true one other = refl
chosen false one other = refl

either_none : (a b : Option Miss) → is_none (further a b) ≡ (is_none a || is_none b)
either_none None b = refl
either_none (Some one) None = refl
either_none (Some one) (Some other) = chosen (nat_lt (depth one) (depth other)) one other

or_assoc : (a b c : Bool) → ((a || b) || c) ≡ (a || (b || c))
or_assoc true b c = refl
or_assoc false b c = refl

any_from : {A : Type 0} (miss_of : A → Option Miss) (test : A → Bool) → ((x : A) → is_none (miss_of x) ≡ test x) → (miss : Option Miss) (xs : List A)
    → is_none (furthest_from miss_of miss xs) ≡ (is_none miss || list_any test xs)
any_from miss_of test same None [] = refl
any_from miss_of test same (Some m) [] = refl
any_from miss_of test same miss (x ∷ xs) =
    any_from miss_of test same (further miss (miss_of x)) xs
    ∙ ap (λ b. b || list_any test xs) (either_none miss (miss_of x) ∙ ap (λ b. is_none miss || b) (same x))
    ∙ or_assoc (is_none miss) (test x) (list_any test xs)

any : {A : Type 0} (none : Miss) (miss_of : A → Option Miss) (test : A → Bool) → ((x : A) → is_none (miss_of x) ≡ test x) → (xs : List A)
    → is_none (furthest none miss_of xs) ≡ list_any test xs
any none miss_of test same xs = any_from miss_of test same (Some none) xs

four : (a b c d : Bool) (w x y z : Miss)
    → is_none (if a then (if b then (if c then (if d then None else Some z) else Some y) else Some x) else Some w) ≡ (a && b && c && d)
four false b c d w x y z = refl
four true false c d w x y z = refl
four true true false d w x y z = refl
four true true true false w x y z = refl
four true true true true w x y z = refl

two : (a b : Bool) (w x : Miss) → is_none (if a then (if b then None else Some x) else Some w) ≡ (a && b)
two false b w x = refl
two true false w x = refl
two true true w x = refl

one_resource : (verb api_group resource namespace : Text) (rule : Resources)
    → is_none (resource_miss verb api_group resource namespace rule) ≡ is_resource verb api_group resource namespace rule
one_resource verb api_group resource namespace rule =
    four (allows rule.verbs verb) (allows rule.api_groups api_group) (allows rule.resources resource) (allows_namespace rule namespace) _ _ _ _

one_path : (verb path : Text) (rule : Paths) → is_none (path_miss verb path rule) ≡ is_other verb path rule
one_path verb path rule = two (allows rule.verbs verb) (allows_path rule.paths path) _ _

one_target : (rule : RuleSaid) (verb : Text) (target : TargetSaid) → is_none (target_miss rule verb target) ≡ has_target rule verb target
one_target rule verb (of_resource api_group name namespace) =
    any _ _ _ (one_resource verb api_group name namespace) rule.resource_rules
one_target rule verb (of_path text) = any _ _ _ (one_path verb text) rule.path_rules

guarded : (a : Bool) (w : Miss) (inner : Option Miss) (b : Bool) → is_none inner ≡ b → is_none (if a then inner else Some w) ≡ (a && b)
guarded true w inner b same = same
guarded false w inner b same = refl

one_rule : (request : RequestSaid) (rule : RuleSaid) → is_none (rule_miss request rule) ≡ rule_matches request rule
unfolding rule_matches
one_rule request rule = guarded (has_subject request rule.subjects) _ _ _ (one_target rule request.verb request.target)

pub none_where_it_matches : (request : RequestSaid) (schema : SchemaSaid) → is_none (schema_miss request schema) ≡ schema_matches request schema
unfolding schema_miss schema_matches
none_where_it_matches request schema = any _ (rule_miss request) (rule_matches request) (one_rule request) schema.rules
