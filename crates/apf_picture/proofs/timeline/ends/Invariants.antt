-- The ends of the spans so far, and of those that are left.
use Rattle.std.proofs.Common.{◌≡◌, ◌++◌, drop}
use Rattle.std.specs.Prelude.{map}
use Rattle.apf_picture.specs.Changes.{end_of}
use Rattle.apf_picture.proofs.timeline.ends.Given as goal

abbrev pub invariant-loop-span : goal.invariant-loop-span
invariant-loop-span l = l.changes.items ++ map end_of (drop l.span-index l.spans) ≡ map end_of l.spans
