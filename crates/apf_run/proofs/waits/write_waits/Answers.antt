-- One line more.
use Rattle.std.proofs.Common.{◌≡◌, suc, ◌+◌, ◌++◌, reverse, refl, subst, arith}
use Rattle.std.proofs.KnownBytes.{Appends-trans}
use Rattle.apf_model.specs.Order.{status}
use Rattle.apf_run.specs.Waits.{IsTextOf, wait_text}
use Rattle.apf_run.proofs.waits.write_waits.Goals as goal

pub loop-request-preserved : goal.loop-request-preserved
loop-request-preserved g c =
    let before = c.loop-request.invariant in
    let more = c.in_ok-write_wait.ensures in
    let request = c.loop-request.request in
    let line = wait_text request more.0 (status (reverse c.args.log.now) request) in
    let next : suc request ≡ request + 1 = omega arith in (
      before.0 ++ line,
      (
        subst (λ n. IsTextOf (record { log = c.args.log.now; widths = c.args.widths.now }) n (before.0 ++ line)) next (before.0, (more.0, (before.1.0, more.1.0, refl))),
        Appends-trans _ _ _ _ _ before.1.1 more.1.1,
      ),
    )
