-- The same gate, with the book heard twice.
use Rattle.std.proofs.Common.{refl, List, length, ◌∙◌, ap}
use Rattle.std.proofs.lemmas.List.{length-set}
use Rattle.apf_gate.specs.Tokens.{StationToken}
use Rattle.apf_local.specs.Owners.{OwnerView}
use Rattle.apf_local.proofs.Knowing.{book_then}
use Rattle.apf_local.proofs.Places.{set_thrice, same_owner}
use Rattle.apf_local.proofs.owner.Owner.look.Goals as goal

pub returns-clause-same : goal.returns-clause-same
returns-clause-same c =
    let o : OwnerView = record { gate = c.self.inside.gate; response = c.self.inside.response; book = c.self.inside.book; passes = c.self.inside.passes.items; stations = c.self.inside.stations.items } in
    let ts : List StationToken = c.self.inside.stations.items in
    same_owner o c.args.self.now c.self.view_is c.hear_station-2.new.self (book_then c.self.inside.book c.hear_station.new.self c.hear_station-2.new.self c.hear_station.ensures.same c.hear_station-2.ensures.same) _ refl _
    (ap (λ (xs : List StationToken). length xs) (set_thrice ts 0 c.hear_station.new.station c.look-word.new.station c.hear_station-2.new.station) ∙ length-set ts 0 c.hear_station-2.new.station)
