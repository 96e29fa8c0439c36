use Rattle.std.proofs.Common.{refl, sym, ap, ◌∙◌, subst, List, map}
use Rattle.std.specs.Prelude.{slice_get, reverse}
use Rattle.apf_model.specs.declared.config.Ask.{Ask}
use Rattle.apf_book.specs.Opening.{opening_ledger}
use Rattle.apf_files.specs.declared.requests.Request.{Request}
use Rattle.apf_gate.specs.Tokens.{PassToken, StationToken}
use Rattle.apf_level.specs.Levels.{LevelId}
use Rattle.apf_level.specs.Reports.{Ended}
use Rattle.apf_run.specs.Runs.{AreFinished}
use Rattle.apf_run.proofs.Opened.{orders}
use Rattle.apf_run.proofs.Told.{told}
use Rattle.apf_run.proofs.running.run_named.Goals as goal

pub new-job-requires-after_bounds : goal.new-job-requires-after_bounds
new-job-requires-after_bounds g c κs within =
    orders g.K.Naming.level c.args.opening.gate c.args.opening.board.cell c.args.opening.config c.args.opening.asks.now g.K.Plan.requests c.args.requests.now c.requires.level c.requires.plan c.requires.asks c.args.opening.widths_are

pub returns-clause-told : goal.returns-clause-told
returns-clause-told g c =
    let k : LevelId = g.K.Naming.level in
    let config = c.args.opening.config in
    let requests : List Request = c.args.requests.now in
    let report = c.in_ok-end.field-0 in
    let finished = c.in_ok-finished-2.finished in
    told k config requests report finished (ap (λ (l : LevelId). l.opening) c.requires.level ∙ ap (λ (asks : List Ask). opening_ledger config asks) c.requires.asks)
    (orders k c.args.opening.gate c.args.opening.board.cell config c.args.opening.asks.now requests requests c.requires.level refl c.requires.asks c.args.opening.widths_are)
    (subst (λ (plan : List Request). AreFinished k.gate plan finished) c.requires.plan c.into_parts-dones.ensures.finished)
    (subst (λ (dones : List PassToken). Ended k report.word (slice_get report.decisions.items) (reverse report.log.items) dones finished.stations) c.into_parts-dones.ensures.dones
    (subst (λ (stations : List StationToken). Ended k report.word (slice_get report.decisions.items) (reverse report.log.items) c.into_parts-dones.result.0.items stations) c.into_parts-dones.ensures.stations
    c.in_ok-end.ensures.ended)) c.in_ok-end.ensures.count
    (ap (λ (l : LevelId). l.gate.shape.limit) c.requires.level ∙ c.args.opening.limit_is)
    (ap (λ (l : LevelId). l.gate.shape.response) c.requires.level ∙ c.args.opening.response_is)
    (ap (λ (l : LevelId). l.gate.shape.widths) c.requires.level ∙ (sym c.args.opening.widths_are ∙ ap (λ (asks : List Ask). map (λ (a : Ask). a.width) asks) c.requires.asks))
    c.in_ok-end.ensures.sums c.in_ok-end.ensures.stats
