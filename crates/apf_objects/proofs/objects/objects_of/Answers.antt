use Rattle.std.proofs.Common.{arith}
use Rattle.apf_objects.proofs.Counts.{few}
use Rattle.apf_objects.proofs.objects.objects_of.Goals as goal

pub returns-clause-ok : goal.returns-clause-ok
returns-clause-ok c = rw (few 1000 c.args.items.now (omega arith)) c.all_objects.ensures.ok

pub returns-clause-err : goal.returns-clause-err
returns-clause-err c = rw (few 1000 c.args.items.now (omega arith)) c.all_objects.ensures.err
