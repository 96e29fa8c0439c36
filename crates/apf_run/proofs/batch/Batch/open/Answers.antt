-- The level's opening, and its faults, are those of the requests.
use Rattle.std.proofs.Common.{rules, ◌≡◌, List, sym, subst}
use Rattle.apf_files.specs.declared.requests.Request.{Request}
use Rattle.apf_local.specs.declared.answer.Ask.{Ask}
use Rattle.apf_local.specs.Batches.{IsBatch, CanOpenBatch, IsBatchFault}
use Rattle.apf_run.specs.Asks.{charged_asks}
use Rattle.apf_run.specs.Faults.{IsReplayFault}
use Rattle.apf_run.proofs.BatchOpened.{can_run, replay_fault, of_slots}
use Rattle.apf_run.proofs.batch.Batch.open.Goals as goal

pub invariant_of-result : goal.invariant_of-result
invariant_of-result c =
    let rs : List Request = c.args.requests.now in
    let asks : c.as_slice.result.now ≡ charged_asks rs = (search rules) in
    of_slots c.args.config.now rs c.in-Ok.level (subst (CanOpenBatch c.args.config.now) asks c.in-Ok.ensures.settings) (subst (λ (xs : List Ask). IsBatch c.args.config.now xs c.in-Ok.level) asks c.in-Ok.ensures.opened) c.has_queues.ensures

pub returns-in-Ok-clause-settings : goal.returns-in-Ok-clause-settings
returns-in-Ok-clause-settings c =
    let rs : List Request = c.args.requests.now in
    let asks : c.as_slice.result.now ≡ charged_asks rs = (search rules) in
    can_run c.args.config.now rs (subst (CanOpenBatch c.args.config.now) asks c.in-Ok.ensures.settings)

pub returns-clause-fault : goal.returns-clause-fault
returns-clause-fault c =
    let rs : List Request = c.args.requests.now in
    let asks : c.as_slice.result.now ≡ charged_asks rs = (search rules) in
    subst (IsReplayFault c.args.config.now rs 1) (sym c.told.ensures) (replay_fault c.args.config.now rs c.in-Err.fault (subst (λ (xs : List Ask). IsBatchFault c.args.config.now xs c.in-Err.fault) asks c.in-Err.ensures.fault))
