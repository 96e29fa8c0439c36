use Rattle.std.proofs.Common.{◌≤◌, All, length}
use Rattle.apf_lending.specs.Claims.{IsClaim}
use Rattle.apf_base_tests.proofs.lending.divisions.claims_of.Given as goal

abbrev pub invariant-loop-row : goal.invariant-loop-row
invariant-loop-row l = record {
  claims : All IsClaim l.claims.items;
  few : length l.claims.items ≤ 1000;
}
