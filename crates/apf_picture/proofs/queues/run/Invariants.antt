-- The columns so far have the shade, and the others follow.
use Rattle.std.proofs.Common.{◌≡◌, ◌+◌, drop}
use Rattle.apf_picture.specs.Strips.{run_of}
use Rattle.apf_picture.proofs.queues.run.Given as goal

abbrev pub invariant-loop-length : goal.invariant-loop-length
invariant-loop-length l = record {
  columns : l.columns ≡ l.length-index;
  all : l.columns + run_of l.longest l.wanted (drop l.length-index l.lengths) ≡ run_of l.longest l.wanted l.lengths;
}
