-- The lanes went on.
use Rattle.apf_cluster.specs.Runs.{course_of}
use Rattle.apf_cluster.proofs.Coming.{all_went_on}
use Rattle.apf_cluster.proofs.lending.is_asked_then.Goals as goal

pub returns-clause-reaches : goal.returns-clause-reaches
returns-clause-reaches c = λ told reaches. all_went_on (course_of c.args.way) told c.args.periods c.args.lanes.now.items c.advance_all.new.lanes.items c.in_ok-advance_all.ensures.gone reaches
