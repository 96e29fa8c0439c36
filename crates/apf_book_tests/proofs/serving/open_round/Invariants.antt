-- The gate that was opened is the level's.
use Rattle.apf_book_tests.proofs.serving.open_round.Given as goal

abbrev pub ghosts-round : goal.ghosts-round
ghosts-round g a = record { gate = a.opened.0 }
