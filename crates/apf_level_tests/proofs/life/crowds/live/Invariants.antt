-- The gate that was opened is the level's.
use Rattle.apf_session.specs.LifeOpenings.{level_of}
use Rattle.apf_level_tests.proofs.life.crowds.live.Given as goal

abbrev pub ghosts-play : goal.ghosts-play
ghosts-play g a = record { level = level_of a.opening.gate a.opening.config }
