-- The best of the candidates so far, and how many pairs look the same there.
use Rattle.std.proofs.Common.{◌≡◌, map}
use Rattle.apf_picture.specs.Rows.{label_in}
use Rattle.apf_picture.specs.Cuttings.{IsBest, candidate_clashes}
use Rattle.apf_picture.proofs.cutting.best.Given as goal

abbrev pub invariant-loop-candidate : goal.invariant-loop-candidate
invariant-loop-candidate l = record {
  best : IsBest (candidate_clashes (map label_in l.rows) l.left_out l.room) l.candidate l.best;
  least : l.least ≡ candidate_clashes (map label_in l.rows) l.left_out l.room l.best;
}
