use Rattle.std.proofs.Common.{ap, sym, ◌∙◌, get_or, List}
use Rattle.std.specs.List.{remove}
use Rattle.apf_charges.specs.declared.known.Known.{Known}
use Rattle.apf_charges.specs.Table.{or_none, mean_in, others}
use Rattle.apf_charges.proofs.Sets.{mean_nowhere, others_nowhere, mean_here, others_here}
use Rattle.apf_charges.proofs.known.KnownFlows.forget.Goals as goal

pub returns-in-Some-clause-mean : goal.returns-in-Some-clause-mean
returns-in-Some-clause-mean c =
    let is = c.as_slice.ensures.value in
    let view = is ∙ c.self.view_is in
    let found = c.in-Some.ensures.found in
    let at = c.in-Some.at in
    ap (λ (k : Known). k.mean) c.remove.ensures.value
    ∙ ap (λ (xs : List Known). (get_or xs at c.remove.result).mean) (sym is)
    ∙ sym (ap or_none (mean_here c.args.flow c.as_slice.result.now at c.remove.result found.0 found.1 found.2))
    ∙ ap (λ (xs : List Known). or_none (mean_in c.args.flow xs)) view

pub returns-in-Some-clause-rest : goal.returns-in-Some-clause-rest
returns-in-Some-clause-rest c =
    let is = c.as_slice.ensures.value in
    let view = is ∙ c.self.view_is in
    let found = c.in-Some.ensures.found in
    let at = c.in-Some.at in
    c.remove.ensures.items
    ∙ ap (λ (xs : List Known). remove xs at) (sym is)
    ∙ sym (others_here c.args.flow c.as_slice.result.now at found.0 found.1 found.2)
    ∙ ap (λ (xs : List Known). others c.args.flow xs) view

pub returns-in-None-clause-mean : goal.returns-in-None-clause-mean
returns-in-None-clause-mean c =
    let is = c.as_slice.ensures.value in
    let view = is ∙ c.self.view_is in
    c.none.ensures
    ∙ sym (ap or_none (mean_nowhere c.args.flow c.as_slice.result.now c.in-None.ensures.found))
    ∙ ap (λ (xs : List Known). or_none (mean_in c.args.flow xs)) view

pub returns-in-None-clause-rest : goal.returns-in-None-clause-rest
returns-in-None-clause-rest c =
    let is = c.as_slice.ensures.value in
    let view = is ∙ c.self.view_is in
    sym view ∙ sym (others_nowhere c.args.flow c.as_slice.result.now c.in-None.ensures.found)
    ∙ ap (λ (xs : List Known). others c.args.flow xs) view
