-- The levels and schemas that a server adds where they lack.
use Rattle.std.specs.Prelude.{List, [], ◌∷◌, ◌++◌, true, false, None, codes}
use Rattle.apf_objects.specs.Rules.{Text, Who, group, Resources, Paths, RuleSaid}
use Rattle.apf_objects.specs.Levels.{LevelSaid}
use Rattle.apf_objects.specs.Schemas.{SchemaSaid}
use Rattle.apf_objects.specs.declared.schema.Distinguisher.TheVariants.{Nothing, User}

-- every text
abbrev pub everything : List Text
everything = codes "*" ∷ []

-- every request for a resource
abbrev pub all_resources : Resources
all_resources = record { verbs = everything; api_groups = everything; resources = everything; cluster_scope = true; namespaces = everything }

-- every request that names no resource
abbrev pub all_paths : Paths
all_paths = record { verbs = everything; paths = everything }

abbrev pub with_group : Text → List Who → List Who
with_group name subjects = subjects ++ group name ∷ []

-- every request of these subjects
abbrev pub all_of : List Who → List RuleSaid
all_of subjects = record { subjects = subjects; resource_rules = all_resources ∷ []; path_rules = all_paths ∷ [] } ∷ []

-- what the group of administrators asks for is exempt
abbrev pub exempt_schema : SchemaSaid
exempt_schema = record {
  name = codes "exempt";
  level = codes "exempt";
  precedence = 1;
  distinguisher = Nothing;
  rules = all_of (group (codes "system:masters") ∷ []);
}

-- what everybody asks for
abbrev pub catch_all_schema : SchemaSaid
catch_all_schema = record {
  name = codes "catch-all";
  level = codes "catch-all";
  precedence = 10000;
  distinguisher = User;
  rules = all_of (group (codes "system:unauthenticated") ∷ group (codes "system:authenticated") ∷ []);
}

abbrev pub exempt_level : LevelSaid
exempt_level = record {
  name = codes "exempt";
  settings = record { is_exempt = true; shares = 0; lendable_percent = 0; borrowing_percent = None; queuing = None };
}

abbrev pub catch_all_level : LevelSaid
catch_all_level = record {
  name = codes "catch-all";
  settings = record { is_exempt = false; shares = 5; lendable_percent = 0; borrowing_percent = None; queuing = None };
}
