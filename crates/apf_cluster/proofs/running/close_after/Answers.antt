-- The last periods ended, and each lane was closed.
use Rattle.std.proofs.Common.{◌∙◌}
use Rattle.std.proofs.lemmas.Result.{IfOk-weaker}
use Rattle.std.proofs.lemmas.Slice.Zip.{AllZip-long}
use Rattle.apf_cluster.specs.Runs.{IsClosed, course_of}
use Rattle.apf_cluster.proofs.HandedOut.{tables_of}
use Rattle.apf_cluster.proofs.running.close_after.Goals as goal

pub returns-clause-tables : goal.returns-clause-tables
returns-clause-tables c =
    IfOk-weaker c.close_all.result _ _
    (λ tables closed. λ told reaches. tables_of (course_of c.args.way) told c.in_ok-ended.ended _ c.pass_all.new.lanes.items tables.items c.in_ok-end_after.ensures.end (c.in_ok-ended.ensures.reaches told reaches) closed) c.close_all.ensures

pub returns-clause-count : goal.returns-clause-count
returns-clause-count c =
    IfOk-weaker c.close_all.result _ _ (λ tables closed. AllZip-long (IsClosed _) c.pass_all.new.lanes.items tables.items closed ∙ c.in_ok-ended.ensures.count) c.close_all.ensures
