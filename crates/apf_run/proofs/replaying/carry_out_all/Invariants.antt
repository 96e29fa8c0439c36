-- The level has its slots still.
use Rattle.std.proofs.Common.{◌≡◌, length}
use Rattle.apf_run.proofs.replaying.carry_out_all.Given as goal

abbrev pub invariant-loop-command : goal.invariant-loop-command
invariant-loop-command l = record {
  count : length l.recorder.batch.owner.passes ≡ length l.fn.recorder.batch.owner.passes;
}
