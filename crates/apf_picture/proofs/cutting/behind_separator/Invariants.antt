-- The last separator so far counts if none is left.
use Rattle.std.proofs.Common.{◌≡◌, ◌+◌, ◌≤◌, drop, length}
use Rattle.std.specs.Prelude.{if◌then◌else◌}
use Rattle.apf_picture.specs.Cuttings.{has_separator, behind_separator}
use Rattle.apf_picture.proofs.cutting.behind_separator.Given as goal

abbrev pub invariant-loop-place : goal.invariant-loop-place
invariant-loop-place l = record {
  behind : (if has_separator (drop l.place l.text) then behind_separator (drop l.place l.text) + l.place else l.behind) ≡ behind_separator l.text;
  within : l.behind ≤ length l.text;
}
