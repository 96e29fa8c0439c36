-- The first of a name in a list.
use Rattle.std.specs.Prelude.{List, [], ◌∷◌, Bool, if◌then◌else◌, bytes_eq}
use Rattle.apf_objects.specs.Levels.{LevelSaid}
use Rattle.apf_objects.specs.Rules.{Text}
use Rattle.apf_objects.specs.Schemas.{SchemaSaid}

-- the level has the name
abbrev pub is_level : Text → LevelSaid → Bool
is_level name level = bytes_eq level.name name

-- the schema has the name
abbrev pub is_schema : Text → SchemaSaid → Bool
is_schema name schema = bytes_eq schema.name name

-- the list with this in the place of the first that passes the test
abbrev pub replaced : {A : Type 0} → (A → Bool) → A → List A → List A
replaced test new [] = []
replaced test new (x ∷ xs) = if test x then new ∷ xs else x ∷ replaced test new xs

-- the list without the first that passes the test
abbrev pub without : {A : Type 0} → (A → Bool) → List A → List A
without test [] = []
without test (x ∷ xs) = if test x then xs else x ∷ without test xs
