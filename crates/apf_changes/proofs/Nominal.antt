-- The nominal limit of a level that was found.
use Rattle.std.proofs.Common.{◌≡◌, ◌∙◌, ℕ, List, Some, None, option_map, get_or, map, refl, sym, ap}
use Rattle.std.specs.Prelude.{find, string_bytes}
use Rattle.std.proofs.lemmas.Slice.Eq.{bytes_eq-Decides}
use Rattle.apf_objects.specs.Levels.{level_view}
use Rattle.apf_objects.specs.Rules.{Text}
use Rattle.apf_objects.specs.declared.level.Level.{Level}
use Rattle.apf_matching.specs.First.{place_from}
use Rattle.apf_matching.specs.Limits.{nominal_of as part_of, sum_of_shares}
use Rattle.apf_changes.specs.Lists.{is_level}
use Rattle.apf_changes.specs.Scenarios.{ScenarioSaid, last_of, nominal_of}
use Rattle.apf_changes.proofs.Firsts.{first_at, nothing}

pub no_level : (scenario : ScenarioSaid) (name : Text) (levels : List Level) → place_from (is_level name) 0 (map level_view levels) ≡ None
    → None ≡ option_map (nominal_of scenario) (find (is_level name) (map level_view levels))
no_level scenario name levels nowhere = sym (ap (option_map (nominal_of scenario)) (nothing (is_level name) 0 (map level_view levels) nowhere))

-- the limit that was fixed
pub fixed : (scenario : ScenarioSaid) (name : Text) (levels : List Level) (i seats : ℕ) → place_from (is_level name) 0 (map level_view levels) ≡ Some i
    → last_of name scenario.nominal ≡ Some seats
    → Some seats ≡ option_map (nominal_of scenario) (find (is_level name) (map level_view levels))
fixed scenario name levels i seats at set =
    let first = first_at (is_level name) level_view levels i at in
    let same : string_bytes first.item.name ≡ name = (bytes_eq-Decides (string_bytes first.item.name) name).0 first.passes in
    let is : nominal_of scenario (level_view first.item) ≡ seats = rw (same, set) refl in
    sym (ap (option_map (nominal_of scenario)) first.found ∙ ap Some is)

-- the level's share
pub shared : (scenario : ScenarioSaid) (name : Text) (levels : List Level) (i : ℕ) (d : Level) → place_from (is_level name) 0 (map level_view levels) ≡ Some i
    → last_of name scenario.nominal ≡ None
    → Some (part_of scenario.seats (get_or levels i d).settings.shares (sum_of_shares scenario.cluster.levels))
    ≡ option_map (nominal_of scenario) (find (is_level name) (map level_view levels))
shared scenario name levels i d at set =
    let first = first_at (is_level name) level_view levels i at in
    let same : string_bytes first.item.name ≡ name = (bytes_eq-Decides (string_bytes first.item.name) name).0 first.passes in
    let is : nominal_of scenario (level_view first.item) ≡ part_of scenario.seats first.item.settings.shares (sum_of_shares scenario.cluster.levels) =
    rw (same, set) refl in
    rw (first.stands d) (sym (ap (option_map (nominal_of scenario)) first.found ∙ ap Some is))
