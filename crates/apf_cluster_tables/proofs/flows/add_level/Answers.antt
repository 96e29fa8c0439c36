-- The level is not there, and has no flows.
use Rattle.std.proofs.Common.{◌≡◌, ◌∙◌, ◌++◌, List, Option, None, map, slice_get, sym, ap, rules}
use Rattle.std.specs.Prelude.{option_map}
use Rattle.std.proofs.lemmas.List.{append-nil}
use Rattle.std.proofs.lemmas.Option.{slice_get-map, slice_get_past}
use Rattle.apf_objects.specs.Levels.{LevelSaid, level_view}
use Rattle.apf_objects.specs.declared.level.Level.{Level}
use Rattle.apf_cluster_tables.specs.Pairs.{FlowSaid, flow_view, flows_by}
use Rattle.apf_cluster_tables.proofs.flows.add_level.Goals as goal

pub returns-in-None : goal.returns-in-None
returns-in-None c =
    let flows : List FlowSaid = map flow_view c.args.flows.now.items in
    let levels : List Level = c.args.side.levels.now in
    let nowhere : slice_get levels c.args.level ≡ None = slice_get_past levels c.args.level (search rules) in
    let none : slice_get (map level_view levels) c.args.level ≡ None = slice_get-map level_view levels c.args.level ∙ ap (option_map level_view) nowhere in
    sym (ap (λ (l : Option LevelSaid). flows ++ flows_by l c.args.level c.args.lines.now) none ∙ append-nil flows)
