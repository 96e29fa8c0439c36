-- What was copied stands behind what was read before.
use Rattle.std.proofs.Common.{sym}
use Rattle.std.specs.Prelude.{reverse}
use Rattle.apf_level.specs.Locked.{log_under}
use Rattle.apf_session.proofs.Following.{gains_from}
use Rattle.apf_session.proofs.follower.Follower.follow.Goals as goal

pub returns : goal.returns
returns g c = record {
  gained = gains_from (reverse (log_under c.args.locked.now)) c.args.self.now c.self.inside.log c.deref_mut.result.now c.self.inside.read c.copy_events-count.result c.copy_events-count.new.into (sym c.self.view_is) c.deref_mut.ensures.value
      c.self.inside.is_read c.copy_events-count.ensures.copied;
}
