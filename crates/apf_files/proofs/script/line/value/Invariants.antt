use Rattle.std.proofs.Common.{◌≡◌, ◌<◌, ◌^◌, take}
use Rattle.apf_files.specs.ScriptFile.{decimal}
use Rattle.apf_files.proofs.script.line.value.Given as goal

abbrev pub invariant-loop-digit : goal.invariant-loop-digit
invariant-loop-digit l = record {
  value : l.number ≡ decimal (take l.digit-index l.numeral);
  small : l.number < 10 ^ l.digit-index;
}
