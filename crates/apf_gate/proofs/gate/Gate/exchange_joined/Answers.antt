use Rattle.std.proofs.Common.{arith, sym, ap, ◌∙◌}
use Rattle.apf_words.specs.Level.{packed}
use Rattle.apf_gate.specs.declared.record.Shape.{Shape}
use Rattle.apf_gate.specs.Tokens.{GateId}
use Rattle.apf_gate.proofs.JoinedLevel.{joined_exchanges_level}
use Rattle.apf_gate.proofs.gate.Gate.exchange_joined.Goals as goal

pub compare_exchange-found-requires : goal.compare_exchange-found-requires
compare_exchange-found-requires g c =
    let i = c.self.invariant in
    let m = c.requires.own in
    let table = m.same_table ∙ sym (ap (λ (x : GateId). x.table) c.self.view_is) in
    let queue = ap (λ (x : Shape). x.response) m.pass_shape ∙ c.requires.has_queues in
    let new = c.pack-new.ensures.value ∙ ap packed c.with_waiter.ensures in
    (table, omega (arith, i.has_words), rw (i.same_key, m.both) (joined_exchanges_level _ i.shape i.laws _ _ _ _ c.pack-word.result _ c.args.level c.requires.may queue c.pack-word.ensures.value c.requires.in_range c.requires.is_open new))
