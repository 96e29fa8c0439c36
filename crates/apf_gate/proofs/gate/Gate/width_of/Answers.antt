use Rattle.std.proofs.Common.{rules, ◌<◌, ◌≤◌, length, sym, ap, ◌∙◌, subst}
use Rattle.apf_model.specs.World.{width}
use Rattle.apf_gate.specs.Gauges.{all_widths}
use Rattle.apf_gate.specs.Tokens.{GateId}
use Rattle.apf_gate.proofs.Puts.{any_default}
use Rattle.apf_gate.proofs.Spreading.{first_width, later_width}
use Rattle.apf_gate.proofs.gate.Gate.width_of.Goals as goal

pub returns-then-request-len-clause-value : goal.returns-then-request-len-clause-value
returns-then-request-len-clause-value g c =
    let k = c.self.inside.gauge in
    let inside : c.args.request < length (all_widths k.lives k.numbers k.widths.items) = subst (λ (x : GateId). c.args.request < length x.shape.widths) (sym c.self.view_is) c.requires.inside in
    let first : c.args.request < length k.widths.items = search rules in
    c.index.ensures ∙ (any_default k.widths.items c.args.request c.index.result.now first ∙ (first_width k.lives k.numbers k.widths.items c.args.request inside first ∙ ap (λ (x : GateId). width x.shape.widths c.args.request) c.self.view_is))

pub returns-then-request-len-clause-small : goal.returns-then-request-len-clause-small
returns-then-request-len-clause-small g c =
    let k = c.self.inside.gauge in
    let inside : c.args.request < length (all_widths k.lives k.numbers k.widths.items) = subst (λ (x : GateId). c.args.request < length x.shape.widths) (sym c.self.view_is) c.requires.inside in
    let first : c.args.request < length k.widths.items = search rules in
    let e = c.index.ensures ∙ (any_default k.widths.items c.args.request c.index.result.now first ∙ first_width k.lives k.numbers k.widths.items c.args.request inside first) in
    subst (λ n. n ≤ 20000) (sym e) (c.self.invariant.shape.widths c.args.request inside).1

pub returns-clause-value : goal.returns-clause-value
returns-clause-value g c =
    let k = c.self.inside.gauge in
    let inside : c.args.request < length (all_widths k.lives k.numbers k.widths.items) = subst (λ (x : GateId). c.args.request < length x.shape.widths) (sym c.self.view_is) c.requires.inside in
    let past : length k.widths.items ≤ c.args.request = search rules in
    c.coded.ensures.value ∙ (later_width k.lives k.numbers k.widths.items c.args.request inside past ∙ ap (λ (x : GateId). width x.shape.widths c.args.request) c.self.view_is)
