-- The seats of a list of stages.
use Rattle.std.specs.Prelude.{ℕ, List, length, slice_index_or}
use Rattle.apf_model.specs.declared.moves.Stage.{Stage}
use Rattle.apf_model.specs.declared.moves.Stage.TheVariants.{Away}
use Rattle.apf_history.specs.Tally.{tally}
use Rattle.apf_model.specs.World.{seats_at, width}

-- the stage of a request
abbrev pub stage_in : List Stage → ℕ → Stage
stage_in stages r = slice_index_or stages r Away

-- the sum of the widths of the requests that stand
abbrev pub seats_of : List ℕ → List Stage → ℕ
seats_of widths stages = tally (λ r. seats_at (stage_in stages r) (width widths r)) (length widths)
