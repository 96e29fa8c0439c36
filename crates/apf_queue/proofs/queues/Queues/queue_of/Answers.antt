use Rattle.apf_queue.proofs.Kept.{stands_nowhere}
use Rattle.apf_queue.proofs.queues.Queues.queue_of.Goals as goal

pub returns-clause-stands : goal.returns-clause-stands
returns-clause-stands g c = rw (← c.self.view_is) c.queue_of.ensures

pub returns-clause-nowhere : goal.returns-clause-nowhere
returns-clause-nowhere g c = rw (← c.self.view_is) (stands_nowhere c.queue_of.result c.args.request c.self.inside.rings.queues c.queue_of.ensures)
