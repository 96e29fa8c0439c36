-- The history of a book that is closed.
use Rattle.std.proofs.Common.{◌*◌, ◌∙◌, ℕ, sym, ap, subst}
use Rattle.apf_gate.specs.Tokens.{DeskToken, GateId, desk_gate}
use Rattle.apf_book.specs.Agreeing.{IsDeskOf}
use Rattle.apf_line.specs.Levels.{IsHistoryOf}
use Rattle.apf_line.specs.Reports.{AreNewest}
use Rattle.apf_line.proofs.Histories.{history_of}
use Rattle.apf_line.proofs.ending.close_book.Goals as goal

pub returns-clause-closes : goal.returns-clause-closes
returns-clause-closes c = λ k v own slots kept. record {
  of_level = subst (λ (d : DeskToken). IsHistoryOf k d.desk.knows.trace v) (sym c.end.ensures.desk) (history_of k v c.args.book own kept);
  gate = ap desk_gate c.end.ensures.desk ∙ own.gate;
  agrees = subst (λ (d : DeskToken). IsDeskOf v.history d.desk) (sym c.end.ensures.desk) kept.agrees;
  logs_nothing = λ rejects. kept.no_queues (ap (λ (g : GateId). g.shape.response) own.gate ∙ rejects);
  newest = λ few. subst (λ (n : ℕ). AreNewest (2 * n) v.history c.in_ok-newest.newest) (sym slots) (c.in_ok-newest.ensures v kept few);
}
