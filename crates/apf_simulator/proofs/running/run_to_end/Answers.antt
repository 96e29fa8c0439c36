-- The whole trace ran.
use Rattle.apf_simulator.proofs.running.run_to_end.Goals as goal

pub returns : goal.returns
returns g c = λ before read heard. record { lane = c.in_ok-lane.lane; been = c.in_ok-lane.ensures before read heard; last = c.last.ensures }
