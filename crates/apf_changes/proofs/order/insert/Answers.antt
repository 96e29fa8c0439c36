use Rattle.std.proofs.Common.{◌≡◌, ◌++◌, ◌∷◌, take, drop, rules}
use Rattle.apf_changes.proofs.Places.{insert_at_place}
use Rattle.apf_changes.proofs.order.insert.Goals as goal

pub returns : goal.returns
returns c =
    let put : c.insert.new.self.items ≡ take c.place_for-place.result c.args.schemas.now.items ++ c.args.schema ∷ drop c.place_for-place.result c.args.schemas.now.items = search rules in
    let place = c.place_for-place.ensures.place in
    rw (put, place, c.as_slice.ensures.value) (insert_at_place c.args.schema c.args.schemas.now.items)
