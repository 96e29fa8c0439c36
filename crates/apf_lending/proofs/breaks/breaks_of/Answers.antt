use Rattle.std.proofs.Common.{◌∙◌, sym}
use Rattle.apf_lending.proofs.More.{more_breaks}
use Rattle.apf_lending.proofs.breaks.breaks_of.Goals as goal

pub loop-claim-preserved : goal.loop-claim-preserved
loop-claim-preserved c = record {
  breaks = c.in_ok-push_breaks.ensures.breaks ∙ (rw c.loop-claim.invariant.breaks (sym (more_breaks c.args.claims.now c.loop-claim.claim-index _ c.loop-claim-test.true)));
  small = c.in_ok-push_breaks.ensures.small c.loop-claim.invariant.small;
}
