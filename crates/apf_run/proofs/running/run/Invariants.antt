-- The gate that was opened is the level's, and the requests are the plan.
use Rattle.apf_session.specs.Openings.{level_of}
use Rattle.apf_run.proofs.running.run.Given as goal

abbrev pub ghosts-run_named-K-Naming : goal.ghosts-run_named-K-Naming
ghosts-run_named-K-Naming g a = record { level = level_of a.opening.gate a.opening.board.cell a.opening.config a.opening.asks.now }

abbrev pub ghosts-run_named-K-Plan : goal.ghosts-run_named-K-Plan
ghosts-run_named-K-Plan g a = record { requests = a.requests.now }
