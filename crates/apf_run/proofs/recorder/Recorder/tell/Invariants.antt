-- The level has its slots still.
use Rattle.std.proofs.Common.{◌≡◌, length}
use Rattle.apf_run.proofs.recorder.Recorder.tell.Given as goal

abbrev pub invariant-loop-place : goal.invariant-loop-place
invariant-loop-place l = record {
  count : length l.self.batch.owner.passes ≡ length l.fn.self.batch.owner.passes;
}
