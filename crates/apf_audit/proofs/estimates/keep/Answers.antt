-- One run more, in the order in which they came; there is always room for it.
use Rattle.std.proofs.Common.{◌∷◌, ◌++◌, [], arith}
use Rattle.std.proofs.lemmas.Result.{on_ok_weaker}
use Rattle.apf_audit.proofs.Answering.{as_many, behind}
use Rattle.apf_audit.proofs.estimates.keep.Goals as goal

pub returns-then-len-eq18446744073709551615 : goal.returns-then-len-eq18446744073709551615
returns-then-len-eq18446744073709551615 c = λ those few kept.
    let many = as_many those c.args.runs.now kept in
    let len = c.len.ensures in
    let full = c.if-len-eq18446744073709551615.true in
    absurd (omega arith)

pub returns : goal.returns
returns c =
    on_ok_weaker c.add.result
    (λ kept those few before. c.every_wait_is_kept.ensures.order (c.args.run ∷ those) (those ++ c.args.run ∷ []) c.add.new.self (behind those c.args.run) (kept those before))
    c.add.ensures.kept
