-- The gate that was opened is the level's.
use Rattle.apf_session.specs.Openings.{level_of}
use Rattle.apf_trials.proofs.bench.level.by_level.Given as goal

abbrev pub ghosts-run_named : goal.ghosts-run_named
ghosts-run_named g a = record { level = level_of a.opening.gate a.opening.board.cell a.opening.config a.opening.asks.now }
