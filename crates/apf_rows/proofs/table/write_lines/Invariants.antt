-- The lines so far were written.
use Rattle.std.proofs.Common.{take}
use Rattle.std.specs.List.{flat_map}
use Rattle.std.specs.Io.KnownBytes.{Appends}
use Rattle.apf_rows.specs.Texts.{flow_text}
use Rattle.apf_rows.proofs.table.write_lines.Given as goal

abbrev pub invariant-loop-line : goal.invariant-loop-line
invariant-loop-line g l = Appends (g.W.Write.contents l.initial.out) (g.W.Write.contents l.out) (flat_map flow_text (take l.line-index l.lines))
