-- Each of the requests is the one, whose width is in range.
use Rattle.std.proofs.Common.{rules, subst, sym, arith}
use Rattle.std.specs.Prelude.{All}
use Rattle.std.proofs.lemmas.List.Elements.{All-replicate}
use Rattle.std.proofs.lemmas.Result.{IfOk-weaker}
use Rattle.apf_run.specs.RoundsPlans.{HasWidth}
use Rattle.apf_run_tests.proofs.refused.copies.Goals as goal

pub returns : goal.returns
returns c = IfOk-weaker c.vec.result _ _ (λ v h. subst (All HasWidth) (sym (h (λ y e. search rules))) (All-replicate HasWidth c.args.count _ (omega arith, omega arith))) c.vec.ensures.items_if_clones_equal
