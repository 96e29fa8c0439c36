use Rattle.std.proofs.Common.{◌≡◌, take}
use Rattle.apf_files.specs.ScriptFile.{decimal}
use Rattle.apf_protocol.specs.Numerals.{told}
use Rattle.apf_protocol.proofs.numeral.value.Given as goal

abbrev pub invariant-loop-digit : goal.invariant-loop-digit
invariant-loop-digit l = l.number ≡ told (decimal (take l.digit-index l.numeral))
