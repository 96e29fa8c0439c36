-- The beginnings of the spans so far, and of those that are left.
use Rattle.std.proofs.Common.{◌≡◌, ◌++◌, drop}
use Rattle.std.specs.Prelude.{map}
use Rattle.apf_picture.specs.Changes.{beginning_of}
use Rattle.apf_picture.proofs.timeline.beginnings.Given as goal

abbrev pub invariant-loop-span : goal.invariant-loop-span
invariant-loop-span l = l.changes.items ++ map beginning_of (drop l.span-index l.spans) ≡ map beginning_of l.spans
