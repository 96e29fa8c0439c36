-- The characters so far were written.
use Rattle.std.specs.List.{flat_map}
use Rattle.std.specs.Io.KnownBytes.{Appends}
use Rattle.apf_picture.specs.Names.{character_text}
use Rattle.apf_cluster_picture.proofs.facts.write_name.Given as goal

abbrev pub invariant-loop-character : goal.invariant-loop-character
invariant-loop-character g l = Appends (g.W.Write.contents l.initial.out) (g.W.Write.contents l.out) (flat_map character_text l.yielded)
