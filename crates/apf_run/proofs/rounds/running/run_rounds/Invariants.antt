-- The gate that was opened is the level's, and the requests and the rounds are the plan's.
use Rattle.apf_session.specs.LifeOpenings.{level_of}
use Rattle.apf_run.proofs.rounds.running.run_rounds.Given as goal

abbrev pub ghosts-run_named-K-Naming : goal.ghosts-run_named-K-Naming
ghosts-run_named-K-Naming g a = record { level = level_of a.opening.gate a.opening.config }

abbrev pub ghosts-run_named-K-Plan : goal.ghosts-run_named-K-Plan
ghosts-run_named-K-Plan g a = record { requests = a.requests.now; rounds = a.rounds }
