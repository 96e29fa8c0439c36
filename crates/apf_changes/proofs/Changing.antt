-- The levels with a change.
use Rattle.std.proofs.Common.{◌≡◌, ℕ, List, Some, None, Ok, Err, get_or, set, map, refl, ap}
use Rattle.apf_objects.specs.Levels.{level_view}
use Rattle.apf_objects.specs.Rules.{Text}
use Rattle.apf_objects.specs.declared.level.Level.{Level}
use Rattle.apf_objects.specs.declared.level.LevelSettings.{LevelSettings}
use Rattle.apf_matching.specs.First.{place_from}
use Rattle.apf_changes.specs.Levels.{levels_with, settings_with}
use Rattle.apf_changes.specs.Lists.{is_level}
use Rattle.apf_changes.specs.declared.change.LevelChange.{LevelChange}
use Rattle.apf_changes.specs.declared.fault.ChangeFault.{ChangeFault}
use Rattle.apf_changes.specs.declared.fault.ChangeFault.TheVariants.{NoLevel}
use Rattle.apf_changes.proofs.Firsts.{first_at, nothing}

pub level_gone : (change : LevelChange) (name : Text) (levels : List Level) → place_from (is_level name) 0 (map level_view levels) ≡ None
    → levels_with change name (map level_view levels) ≡ Err NoLevel
unfolding levels_with
level_gone change name levels nowhere = rw (nothing (is_level name) 0 (map level_view levels) nowhere) refl

pub level_refused : (change : LevelChange) (name : Text) (levels : List Level) (i : ℕ) (d : Level) (fault : ChangeFault)
    → place_from (is_level name) 0 (map level_view levels) ≡ Some i → settings_with change (get_or levels i d).settings ≡ Err fault
    → levels_with change name (map level_view levels) ≡ Err fault
unfolding levels_with
level_refused change name levels i d fault at refused =
    let first = first_at (is_level name) level_view levels i at in
    let of_item : settings_with change first.item.settings ≡ Err fault = rw (first.stands d) at refused in
    rw (first.found, of_item) refl

pub level_changed : (change : LevelChange) (name : Text) (levels : List Level) (i : ℕ) (d e : Level) (settings : LevelSettings)
    → place_from (is_level name) 0 (map level_view levels) ≡ Some i → settings_with change (get_or levels i d).settings ≡ Ok settings
    → levels_with change name (map level_view levels) ≡ Ok (map level_view (set levels i (record { name = (get_or levels i e).name; settings = settings })))
unfolding levels_with
level_changed change name levels i d e settings at changed =
    let first = first_at (is_level name) level_view levels i at in
    let of_item : settings_with change first.item.settings ≡ Ok settings = rw (first.stands d) at changed in
    rw (first.found, of_item, first.stands e) (ap Ok (first.put (record { name = first.item.name; settings = settings })))
