-- The gate that was opened is the level's.
use Rattle.apf_session.specs.LifeOpenings.{level_of}
use Rattle.apf_example.proofs.run.Given as goal

abbrev pub ghosts-serve : goal.ghosts-serve
ghosts-serve g a = record { level = level_of a.opening.gate a.opening.config }

abbrev pub ghosts-serve_in_threads : goal.ghosts-serve_in_threads
ghosts-serve_in_threads g a = record { level = level_of a.opening.gate a.opening.config }
