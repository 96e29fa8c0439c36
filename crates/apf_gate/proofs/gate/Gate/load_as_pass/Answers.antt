use Rattle.std.proofs.Common.{rules, ◌≡◌, arith, sym, subst}
use Rattle.apf_gate.specs.declared.record.State.TheVariants.{Fresh}
use Rattle.apf_gate.specs.Tokens.{PassToken}
use Rattle.apf_gate.proofs.PassLevel.{pass_loads_level}
use Rattle.apf_gate.proofs.gate.Gate.load_as_pass.Goals as goal

pub load-requires : goal.load-requires
load-requires g c =
    let i = c.self.invariant in
    let m = c.pass.invariant in
    let fresh = subst (λ (t : PassToken). t.pass.state ≡ Fresh) (sym c.pass.view_is) c.requires.fresh in
    (search rules, omega (arith, i.has_words), rw (i.same_key, m.alone) (pass_loads_level _ i.shape i.laws _ _ _ fresh))
