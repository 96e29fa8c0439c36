-- The gate that was opened is the level's, and the costs are.
use Rattle.apf_session.specs.Openings.{level_with}
use Rattle.apf_level_tests.proofs.costs.play.Given as goal

abbrev pub ghosts-play_named : goal.ghosts-play_named
ghosts-play_named g a = record { level = level_with a.opening.gate a.opening.board.cell a.opening.config a.opening.asks.now a.costs.now }
