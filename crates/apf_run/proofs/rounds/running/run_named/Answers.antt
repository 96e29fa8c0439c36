use Rattle.std.proofs.Common.{arith, ◌≡◌, ◌≤◌, ℕ, ap, ◌∙◌, subst, List, length}
use Rattle.apf_files.specs.declared.requests.Request.{Request}
use Rattle.apf_gate.specs.Tokens.{PassToken, StationToken}
use Rattle.apf_line.specs.Levels.{LifeId}
use Rattle.apf_line.specs.Reports.{Ended}
use Rattle.apf_run.specs.RoundsRuns.{AreFinished}
use Rattle.apf_run.proofs.RoundsOpened.{settings}
use Rattle.apf_run.proofs.RoundsTold.{told}
use Rattle.apf_run.proofs.rounds.running.run_named.Goals as goal

pub returns-clause-told : goal.returns-clause-told
returns-clause-told g c =
    let k : LifeId = g.K.Naming.level in
    let requests : List Request = c.args.requests.now in
    let report = c.in_ok-end.field-0 in
    let finished = c.in_ok-finished-2.finished in
    let few : length requests ≤ 10000 = (let f = c.args.opening.can_open.few_slots in omega (arith, f, c.requires.slots)) in
    let count : length finished.dones ≡ length requests = c.in_ok-finished-2.ensures.dones ∙ (c.in_ok-workers.ensures.held ∙ (ap length c.in_ok-level.ensures.slots ∙ (c.args.opening.passes_count ∙ c.requires.slots))) in
    told k c.args.opening.config requests c.args.rounds report finished c.requires.some_rounds c.requires.few_rounds c.requires.widths few
    (ap (λ (l : LifeId). length l.gate.shape.widths) c.requires.level ∙ c.args.opening.numbers_are)
    (settings k c.args.opening.gate c.args.opening.config (length requests) c.requires.level c.args.opening.limit_is c.args.opening.response_is c.requires.slots)
    (subst (λ (rounds : ℕ). AreFinished k.gate requests rounds finished) c.requires.rounds (subst (λ (plan : List Request). AreFinished k.gate plan g.K.Plan.rounds finished) c.requires.plan c.into_parts-dones.ensures.finished))
    (subst (λ (dones : List PassToken). Ended k dones finished.stations report) c.into_parts-dones.ensures.dones
    (subst (λ (stations : List StationToken). Ended k c.into_parts-dones.result.0.items stations report) c.into_parts-dones.ensures.stations
    c.in_ok-end.ensures))
    count
