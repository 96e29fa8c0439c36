-- What was written, with what the rest of the bytes stands for, is the whole.
use Rattle.std.proofs.Common.{◌≡◌, ℕ, List, ◌++◌, length}
use Rattle.std.specs.Io.KnownBytes.{Appends}
use Rattle.apf_flows.specs.Json.{escapes_from, escapes_of}
use Rattle.apf_flows.proofs.json.write_bytes.Given as goal

abbrev pub invariant-loop-byte : goal.invariant-loop-byte
invariant-loop-byte g l =
    (written : List ℕ) × Appends (g.W.Write.contents l.initial.out) (g.W.Write.contents l.out) written
    × (written ++ escapes_from l.passed l.rest ≡ escapes_of l.bytes)

abbrev pub decreases-loop-byte : goal.decreases-loop-byte
decreases-loop-byte g l = length l.rest
