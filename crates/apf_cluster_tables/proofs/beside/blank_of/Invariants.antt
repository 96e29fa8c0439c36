-- No byte before this one is a blank.
use Rattle.std.proofs.Common.{◌≡◌, ◌+◌, drop}
use Rattle.apf_cluster_tables.specs.Beside.{blank_of}
use Rattle.apf_cluster_tables.proofs.beside.blank_of.Given as goal

abbrev pub invariant-loop-place : goal.invariant-loop-place
invariant-loop-place l = blank_of l.text ≡ l.place + blank_of (drop l.place l.text)
