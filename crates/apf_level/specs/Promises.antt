-- What is promised of a batch that ended.
use Rattle.std.specs.Prelude.{◌+◌, ◌<◌, List, length}
use Rattle.apf_words.specs.Level.{Level}
use Rattle.apf_history.specs.declared.events.Event.{Event}
use Rattle.apf_model.specs.Charged.{log_of}
use Rattle.apf_model.specs.World.{width}
use Rattle.apf_gate.specs.Tokens.{PassToken, StationToken}
use Rattle.apf_gate.specs.Traces.{opening_of, moves}
use Rattle.apf_book.specs.Laws.{IsMade}
use Rattle.apf_line.specs.Promises.{Promises}
use Rattle.apf_level.specs.declared.report.Counts.{Counts}
use Rattle.apf_level.specs.Levels.{LevelId}
use Rattle.apf_level.specs.Reports.{WasToldBy}

-- what the report of a batch keeps, with this level word, this log and these numbers. The Passes and the Stations were handed in
pub record KeepsPromises (k : LevelId) (level : Level) (h : List Event) (passes : List PassToken) (stations : List StationToken) (counts : Counts) : Type 0 where
  -- the steps that all tokens made, which say the level word and the log
  pub made : IsMade k.gate h level passes stations
  pub promises : Promises (opening_of k.gate.shape) (length k.gate.shape.widths) (moves made.trace) k.opening.sizes.deck (width k.opening.costs) (log_of h) h
      (λ r d. (r < length k.gate.shape.widths) × WasToldBy passes stations r d) counts.executed (counts.queue_full + counts.closed + counts.concurrency_limit) counts.cancelled
