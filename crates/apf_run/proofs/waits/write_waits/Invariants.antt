-- The lines of the requests so far were written.
use Rattle.std.proofs.Common.{ℕ, List}
use Rattle.std.specs.Io.KnownBytes.{Appends}
use Rattle.apf_run.specs.Waits.{IsTextOf}
use Rattle.apf_run.proofs.waits.write_waits.Given as goal

abbrev pub invariant-loop-request : goal.invariant-loop-request
invariant-loop-request g l = (text : List ℕ) × (IsTextOf (record { log = l.log; widths = l.widths }) l.request text × Appends (g.W.Write.contents l.initial.out) (g.W.Write.contents l.out) text)
