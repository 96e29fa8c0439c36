-- Nobody came.
use Rattle.std.proofs.Common.{refl, ap}
use Rattle.apf_calendar.specs.Guests.{SlotsView}
use Rattle.apf_stream.specs.States.{State, state_of}
use Rattle.apf_simulator.proofs.Laning.{nobody_of, ran_none}
use Rattle.apf_simulator.proofs.lane.Lane.open.Goals as goal

pub returns-clause-nobody : goal.returns-clause-nobody
returns-clause-nobody c =
    let s : State = state_of c.in_ok-stream.stream in
    let e = c.in_ok-stream.ensures in
    record {
      tied = e.tied;
      nobody = nobody_of s c.args.slots (ap (λ (v : SlotsView). v.slots) e.calendar);
      run = ran_none s;
      still = e.tied;
      asked = tt;
      met = c.new.ensures.met;
      are = c.new.ensures.rows;
      number = refl;
    }
