use Rattle.std.proofs.Common.{arith}
use Rattle.apf_queue.proofs.RingLists.{seen_count}
use Rattle.apf_queue.proofs.rings.Rings.queue_count.Goals as goal

pub returns : goal.returns
returns g c = omega (arith, seen_count _ _ _ _ _ c.self.view_is)
