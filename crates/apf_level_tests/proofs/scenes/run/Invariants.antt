-- The gate that was opened is the level's.
use Rattle.apf_session.specs.Openings.{level_of}
use Rattle.apf_level_tests.proofs.scenes.run.Given as goal

abbrev pub ghosts-play_named : goal.ghosts-play_named
ghosts-play_named g a = record { level = level_of a.opening.gate a.opening.board.cell a.opening.config a.opening.asks.now }
