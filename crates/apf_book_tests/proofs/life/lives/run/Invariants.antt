-- The gate that was opened is the level's.
use Rattle.apf_book_tests.proofs.life.lives.run.Given as goal

abbrev pub ghosts-play : goal.ghosts-play
ghosts-play g a = record { gate = a.opened.0 }
