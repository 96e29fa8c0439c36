use Rattle.std.proofs.Common.{◌≡◌, ◌∙◌, Some, None, Ok, Err, get_or, map, sym, ap, rules}
use Rattle.apf_objects.specs.Levels.{level_view}
use Rattle.apf_objects.specs.declared.level.Level.{Level}
use Rattle.apf_matching.specs.First.{place_from}
use Rattle.apf_changes.specs.Levels.{settings_with}
use Rattle.apf_changes.specs.Lists.{is_level}
use Rattle.apf_changes.proofs.Changing.{level_gone, level_refused, level_changed}
use Rattle.apf_changes.proofs.levels.change_level.Goals as goal

pub returns-in_default-clause-err : goal.returns-in_default-clause-err
returns-in_default-clause-err c =
    let nowhere : place_from (is_level c.args.name.now) 0 (map level_view c.args.levels.now.items) ≡ None =
    cc (c.level_place.ensures.value, c.as_slice.ensures.value, c.in_default.is) in
    level_gone c.args.change c.args.name.now c.args.levels.now.items nowhere

pub returns-in_err-settings-clause-err : goal.returns-in_err-settings-clause-err
returns-in_err-settings-clause-err c =
    let failed : c.from_residual.result ≡ Err c.in_err-settings.field-0.0 = search (c.from_residual.ensures, rules) in
    let at : place_from (is_level c.args.name.now) 0 (map level_view c.args.levels.now.items) ≡ Some c.in-Some.place =
    cc (c.level_place.ensures.value, c.as_slice.ensures.value, c.in-Some.is) in
    let refused : settings_with c.args.change (get_or c.args.levels.now.items c.in-Some.place c.index.result.now).settings ≡ Err c.in_err-settings.field-0.0 =
    ap (λ (level : Level). settings_with c.args.change level.settings) (sym c.index.ensures) ∙ sym c.settings_with.ensures ∙ c.in_err-settings.was in
    rw failed (level_refused c.args.change c.args.name.now c.args.levels.now.items c.in-Some.place c.index.result.now c.in_err-settings.field-0.0 at refused)

pub returns-clause-ok : goal.returns-clause-ok
returns-clause-ok c =
    let at : place_from (is_level c.args.name.now) 0 (map level_view c.args.levels.now.items) ≡ Some c.in-Some.place =
    cc (c.level_place.ensures.value, c.as_slice.ensures.value, c.in-Some.is) in
    let changed : settings_with c.args.change (get_or c.args.levels.now.items c.in-Some.place c.index.result.now).settings ≡ Ok c.in_ok-settings.settings =
    ap (λ (level : Level). settings_with c.args.change level.settings) (sym c.index.ensures) ∙ sym c.settings_with.ensures ∙ c.in_ok-settings.was in
    rw c.index_mut.ensures.value
    (level_changed c.args.change c.args.name.now c.args.levels.now.items c.in-Some.place c.index.result.now c.index_mut.result.now c.in_ok-settings.settings at changed)
