-- The periods of the levels so far ended.
use Rattle.std.proofs.Common.{◌≡◌, ◌≤◌, ℕ, length}
use Rattle.std.specs.Prelude.{All, slice_get}
use Rattle.apf_lending.specs.Claims.{IsClaim}
use Rattle.apf_cluster.specs.Runs.{AreInTime, AreLived}
use Rattle.apf_cluster.proofs.Ending.{Ended, FirstSo}
use Rattle.apf_cluster.proofs.lending.end_all.Given as goal

abbrev pub invariant-loop-level : goal.invariant-loop-level
invariant-loop-level l = record {
  many : length l.claims.items ≡ l.level;
  still : length l.lanes.items ≡ length l.initial.lanes.items;
  range : All IsClaim l.claims.items;
  in_time : AreInTime l.at l.lanes.items;
  lived : AreLived l.lanes.items;
  each : FirstSo (Ended l.at l.claims.items) l.level l.initial.lanes.items l.lanes.items;
  rest : (i : ℕ) → l.level ≤ i → slice_get l.lanes.items i ≡ slice_get l.initial.lanes.items i;
}
