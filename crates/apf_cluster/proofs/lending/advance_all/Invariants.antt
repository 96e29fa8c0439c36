-- The lanes so far went on.
use Rattle.std.proofs.Common.{◌≡◌, ◌≤◌, ℕ, length}
use Rattle.std.specs.Prelude.{slice_get}
use Rattle.apf_cluster.specs.Runs.{AreInTime, AreLived}
use Rattle.apf_cluster.proofs.Ending.{FirstSo, GoneOn}
use Rattle.apf_cluster.proofs.lending.advance_all.Given as goal

abbrev pub invariant-loop-level : goal.invariant-loop-level
invariant-loop-level l = record {
  still : length l.lanes.items ≡ length l.initial.lanes.items;
  in_time : AreInTime l.at l.lanes.items;
  lived : AreLived l.lanes.items;
  each : FirstSo GoneOn l.level l.initial.lanes.items l.lanes.items;
  rest : (i : ℕ) → l.level ≤ i → slice_get l.lanes.items i ≡ slice_get l.initial.lanes.items i;
}
