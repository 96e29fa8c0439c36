use Rattle.std.proofs.Common.{rules, ◌≡◌, ◌+◌, ◌-◌, ◌%◌, ◌^◌, arith, sym, subst}
use Rattle.apf_words.specs.Level.{Level, packed, AllBelow20Bits}
use Rattle.apf_gate.specs.Tokens.{PassToken}
use Rattle.apf_gate.specs.PassCalls.{MayRelease}
use Rattle.apf_gate.proofs.PassRelease.{pass_subtracts_level}
use Rattle.apf_gate.proofs.gate.Gate.release.Goals as goal

pub fetch_sub-found-requires : goal.fetch_sub-found-requires
fetch_sub-found-requires g c =
    let i = c.self.invariant in
    let m = c.pass.invariant in
    let back = c.to_release-width.result in
    let may = subst (λ (t : PassToken). MayRelease t.pass) (sym c.pass.view_is) c.requires.stands in
    let leaves = subst (λ k. (l : Level) → AllBelow20Bits l.waiters (l.seats + k) l.limit → (packed (record l { seats = l.seats + k }) + (2 ^ 64 - back)) % 2 ^ 64 ≡ packed l) m.same_width c.to_release-width.ensures in
    (search rules, omega (arith, i.has_words), rw (i.same_key, m.alone) (pass_subtracts_level _ i.shape i.laws _ _ _ back may leaves))
