-- What is kept.
use Rattle.std.proofs.Common.{List, ap, ◌∙◌, rules}
use Rattle.std.specs.List.{filter}
use Rattle.std.proofs.lemmas.Fn.{filter_same}
use Rattle.apf_simulator.specs.Windows.{stays}
use Rattle.apf_simulator.specs.declared.held.Held.{Held}
use Rattle.apf_simulator.proofs.held.HeldList.keep.Goals as goal

pub returns : goal.returns
returns c =
    filter_same _ (stays c.args.window) _ (λ x b f' k. search rules) c.self.inside.held.items c.retain.new.self.items c.retain.ensures.filtered
    ∙ ap (λ (l : List Held). filter (stays c.args.window) l) c.self.view_is
