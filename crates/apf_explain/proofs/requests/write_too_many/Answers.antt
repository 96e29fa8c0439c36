use Rattle.std.proofs.Common.{◌≡◌, length, sym, arith}
use Rattle.apf_explain.proofs.requests.write_too_many.Goals as goal

pub returns-in-Some : goal.returns-in-Some
returns-in-Some g c =
    let items = c.in-Some.items.now.items in
    let count : length items ≡ c.len-count.result = omega arith in
    rw (sym c.in-Some.ensures, c.every_item_is_counted.ensures items, count) c.writeln.ensures.bytes
