-- The columns so far were written.
use Rattle.std.specs.List.{flat_map, range_with_len}
use Rattle.apf_picture.specs.Strips.{run_at}
use Rattle.std.specs.Io.KnownBytes.{Appends}
use Rattle.apf_picture.proofs.queues.write_runs.Given as goal

abbrev pub invariant-loop-column : goal.invariant-loop-column
invariant-loop-column g l = Appends (g.W.Write.contents l.initial.out) (g.W.Write.contents l.out) (flat_map (run_at l.lengths l.y l.wanted l.longest) (range_with_len 0 l.column))
