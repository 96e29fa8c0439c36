-- The lines of the requests so far were written.
use Rattle.std.proofs.Common.{take}
use Rattle.std.specs.List.{flat_map}
use Rattle.std.specs.Io.KnownBytes.{Appends}
use Rattle.apf_cluster_text.specs.ServerLines.{differs_text}
use Rattle.apf_cluster_text.proofs.server_lines.write_all_differ.Given as goal

abbrev pub invariant-loop-differs : goal.invariant-loop-differs
invariant-loop-differs g l = Appends (g.W.Write.contents l.initial.out) (g.W.Write.contents l.out) (flat_map (differs_text l.schemas) (take l.differs-index l.first))
