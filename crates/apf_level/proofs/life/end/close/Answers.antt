-- The history of a level with queues, and of one without.
use Rattle.std.proofs.Common.{sym}
use Rattle.std.proofs.lemmas.Result.{IfOk-weaker}
use Rattle.apf_line.specs.Levels.{nothing_yet}
use Rattle.apf_level.proofs.life.end.close.Goals as goal

pub returns-in-Queued : goal.returns-in-Queued
returns-in-Queued g c =
    let k = g.K.Naming.level in
    let lived = c.close_book.ensures.lived in
    IfOk-weaker c.close_book.result _ _ (λ closing closes. record { view = lived.view; closes_as = closes k lived.view c.into_inner-book.result.tied (sym c.requires) lived.kept }) c.close_book.ensures.closes

pub returns-in-Unqueued : goal.returns-in-Unqueued
returns-in-Unqueued g c = record { view = nothing_yet g.K.Naming.level; closes_as = c.close_desk.ensures g.K.Naming.level c.into_inner-desk.result.tied }
