use Rattle.std.proofs.Common.{◌≡◌, true, false, length, sym, rules}
use Rattle.std.specs.Prelude.{nat_le}
use Rattle.apf_explain.proofs.keys.write_unknown_key.Goals as goal

pub returns-then-is_whole : goal.returns-then-is_whole
returns-then-is_whole g c =
    let whole : nat_le (length c.in-Some.text.now) 64 ≡ true = search rules in
    rw (sym c.in-Some.ensures, whole, sym c.likeness-other.ensures) c.writeln.ensures.bytes

pub returns-else-is_whole : goal.returns-else-is_whole
returns-else-is_whole g c =
    let long : nat_le (length c.in-Some.text.now) 64 ≡ false = search rules in
    rw (sym c.in-Some.ensures, long) c.writeln-else-is_whole.ensures.bytes

pub returns-in-None : goal.returns-in-None
returns-in-None g c = rw (sym c.in-None.ensures) c.writeln-in-None.ensures.bytes
