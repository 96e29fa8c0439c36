use Rattle.std.proofs.Common.{ap, sym, ◌∙◌, get_or, List, Some}
use Rattle.apf_charges.specs.declared.known.Known.{Known}
use Rattle.apf_charges.specs.Mean.{no_mean}
use Rattle.apf_charges.specs.Table.{mean_in}
use Rattle.apf_charges.proofs.Sets.{mean_nowhere, mean_here}
use Rattle.apf_charges.proofs.known.KnownFlows.mean_of.Goals as goal

pub returns-in-Some : goal.returns-in-Some
returns-in-Some c =
    let is = c.as_slice.ensures.value in
    let view = is ∙ c.self.view_is in
    let found = c.in-Some.ensures.found in
    let at = c.in-Some.at in
    ap (λ (xs : List Known). Some (get_or xs at (record { flow = 0; mean = no_mean })).mean) (c.deref.ensures.0 ∙ sym is)
    ∙ sym (mean_here c.args.flow c.as_slice.result.now at (record { flow = 0; mean = no_mean }) found.0 found.1 found.2)
    ∙ ap (λ (xs : List Known). mean_in c.args.flow xs) view

pub returns-in-None : goal.returns-in-None
returns-in-None c =
    let is = c.as_slice.ensures.value in
    let view = is ∙ c.self.view_is in
    sym (mean_nowhere c.args.flow c.as_slice.result.now c.in-None.ensures.found) ∙ ap (λ (xs : List Known). mean_in c.args.flow xs) view
