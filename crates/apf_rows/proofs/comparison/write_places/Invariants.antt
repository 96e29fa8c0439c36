-- The lines of the places so far were written.
use Rattle.std.proofs.Common.{take}
use Rattle.std.specs.List.{flat_map}
use Rattle.std.specs.Io.KnownBytes.{Appends}
use Rattle.apf_rows.specs.Comparisons.{pair_text}
use Rattle.apf_rows.proofs.comparison.write_places.Given as goal

abbrev pub invariant-loop-place : goal.invariant-loop-place
invariant-loop-place g l = Appends (g.W.Write.contents l.initial.out) (g.W.Write.contents l.out) (flat_map (pair_text l.lines l.others) (take l.place-index l.places))
