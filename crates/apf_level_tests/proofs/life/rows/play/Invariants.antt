-- The gate that was opened is the level's.
use Rattle.apf_session.specs.LifeOpenings.{level_of, level_settling}
use Rattle.apf_level_tests.proofs.life.rows.play.Given as goal

abbrev pub ghosts-one_after_another : goal.ghosts-one_after_another
ghosts-one_after_another g a = record { level = level_of a.opening.gate a.opening.config }

abbrev pub ghosts-struck_full_and_closed : goal.ghosts-struck_full_and_closed
ghosts-struck_full_and_closed g a = record { level = level_of a.opening.gate a.opening.config }

abbrev pub ghosts-late_reader : goal.ghosts-late_reader
ghosts-late_reader g a = record { level = level_of a.opening.gate a.opening.config }

abbrev pub ghosts-rejected : goal.ghosts-rejected
ghosts-rejected g a = record { level = level_of a.opening.gate a.opening.config }

abbrev pub ghosts-tried : goal.ghosts-tried
ghosts-tried g a = record { level = level_of a.opening.gate a.opening.config }

abbrev pub ghosts-by_time : goal.ghosts-by_time
ghosts-by_time g a = record { level = level_settling a.opening.gate a.opening.config a.settling }
