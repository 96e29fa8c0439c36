use Rattle.std.proofs.Common.{◌≡◌, ◌-◌, ◌≤◌, length}
use Rattle.apf_request_lines.specs.Steps.{steps}
use Rattle.apf_request_lines.specs.Times.{longest, with_amount}
use Rattle.apf_request_lines.proofs.times.amounts.Given as goal

abbrev pub invariant-loop : goal.invariant-loop
invariant-loop l = record {
  value : steps with_amount (length l.bytes - l.counter) l.time l.rest ≡ steps with_amount (length l.bytes) 0 l.bytes;
  most : l.time ≤ longest;
}
