use Rattle.apf_lending.proofs.Divided.{division_near}
use Rattle.apf_lending.proofs.laws.every_division_is_of_all_seats.Goals as goal

pub returns : goal.returns
returns c seats claims limits are is enough reach =
    let near = division_near seats claims limits are is enough reach in
    (near.low, near.high)
