-- Nothing in order is behind who is not before the last.
use Rattle.std.proofs.Common.{◌-◌, refl, arith}
use Rattle.apf_times.proofs.Windows.{behind_all, no_lower}
use Rattle.apf_times.proofs.window.is_behind.Goals as goal

pub returns-in-Some : goal.returns-in-Some
returns-in-Some g c none order =
    let stored = c.args.in_order.now.ok.0 in
    let some = c.in-Some.ensures.variant.0 refl in
    behind_all c.args.place c.args.in_order.now.items (c.args.in_order.now.len - 1) c.in-Some.last.now (omega arith) c.in-Some.ensures.lookup (no_lower _ _ c.is_before.ensures none) order
