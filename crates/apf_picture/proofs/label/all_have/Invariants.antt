-- The flows so far have the schema.
use Rattle.std.proofs.Common.{◌≡◌, drop}
use Rattle.apf_picture.specs.Labels.{all_have}
use Rattle.apf_picture.proofs.label.all_have.Given as goal

abbrev pub invariant-loop-first : goal.invariant-loop-first
invariant-loop-first l = all_have l.trace l.schema (drop l.first-index l.firsts) ≡ all_have l.trace l.schema l.firsts
