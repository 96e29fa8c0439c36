-- One more is kept, or all are counted.
use Rattle.std.proofs.Common.{sym, subst, arith}
use Rattle.apf_times.specs.Waits.{AreKept}
use Rattle.apf_times.proofs.Keepings.{exact_more}
use Rattle.apf_times.proofs.waits.Waits.add.Goals as goal

pub returns-then-len-lt-MOST_EXACT-clause-kept : goal.returns-then-len-lt-MOST_EXACT-clause-kept
returns-then-len-lt-MOST_EXACT-clause-kept g c ws kept =
    let few = c.if-len-lt-MOST_EXACT.true in
    let len = c.len.ensures in
    let ok = c.self.inside.exact.ok.0 in
    exact_more ws c.self.inside.exact.items c.push.new.self.items c.self.inside.counts c.args.wait c.in_default.not-Some (omega arith) c.in_ok-push.ensures.items (subst (AreKept ws) (sym c.self.view_is) kept)
