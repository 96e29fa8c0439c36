use Rattle.std.proofs.Common.{◌≡◌, ◌≤◌, ◌+◌, ◌-◌, ℕ, All, length, [], vec_len}
use Rattle.apf_files.specs.ScriptFile.{script_of, lines_from, IsCommandInRange}
use Rattle.apf_files.specs.FirstFault.{with_front}
use Rattle.apf_files.specs.ScriptLine.{line_from}
use Rattle.apf_files.proofs.script.judge_script.Given as goal

abbrev pub invariant-loop-rest : goal.invariant-loop-rest
invariant-loop-rest l = record {
  so_far : with_front l.commands.items (lines_from l.requests l.line [] l.rest) ≡ script_of l.requests l.bytes;
  few : l.line ≤ 100001;
  count : vec_len l.commands + 1 ≡ l.line;
  ranges : All (IsCommandInRange l.requests) l.commands.items;
  within : length l.rest ≤ length l.bytes;
  place : (k : ℕ) → line_from (l.line - 1 + k) [] l.bytes ≡ line_from k [] l.rest;
}

abbrev pub decreases-loop-rest : goal.decreases-loop-rest
decreases-loop-rest l = length l.rest
