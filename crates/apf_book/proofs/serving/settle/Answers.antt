-- A grant that was lost is given back.
use Rattle.std.proofs.Common.{◌≡◌, ℕ, [], ◌∷◌, sym, subst, inl, inr, Some, refl, ap, ◌∙◌}
use Rattle.apf_words.specs.declared.decision.Decision.{Decision}
use Rattle.apf_words.specs.declared.decision.Decision.TheVariants.{Cancelled}
use Rattle.apf_gate.specs.declared.record.Service.TheVariants.{Left}
use Rattle.apf_gate.specs.Records.{service}
use Rattle.apf_book.specs.BookView.{logged}
use Rattle.apf_book.proofs.Knowing.{told_still}
use Rattle.apf_book.proofs.Moving.{moves_same, moves_to, moves_then}
use Rattle.apf_history.specs.declared.events.Status.TheVariants as status_is
use Rattle.apf_gate.specs.DeskCalls.{SettlesTo}
use Rattle.apf_book.specs.Said.{Says}
use Rattle.apf_book.proofs.Saying.{settles, settles_not, gives_back, quiet_then, same_held}
use Rattle.apf_book.proofs.serving.settle.Goals as goal

pub returns : goal.returns
returns g c =
    let lost : c.settle.result ≡ Cancelled = (elim c.settle.ensures.after.answers [ inl won ↦ absurd (c.in_default.not-Execute won) | inr is ↦ is ]) in
    let kept = c.settle.ensures.after.lost lost in
    let before = c.args.desk.now.desk in
    let between = c.settle.new.desk.desk in
    let after = c.give_back.new.desk.desk in
    let given = c.give_back.ensures.after.services c.args.request (kept.0 ∙ c.requires.holds) in
    record {
      gate = c.give_back.ensures.same.gate ∙ c.settle.ensures.same.gate;
      moves = moves_then before between after c.args.request (logged (service before c.args.request)) (logged Left)
          (moves_same before between c.args.request kept.1 c.settle.ensures.same.more)
          (moves_to between after c.args.request Left given c.give_back.ensures.same.more);
      says = quiet_then ((c.args.request, status_is.Struck) ∷ []) before.knows between.knows after.knows
          (settles_not before between (subst (λ (d : Decision). SettlesTo before d between) lost c.settle.ensures.answer))
          (subst (λ (r : ℕ). Says ((r, status_is.Struck) ∷ []) between.knows after.knows) (same_held c.give_back.ensures.answer.0 c.args.request (sym c.give_back.ensures.answer.1 ∙ (kept.0 ∙ c.requires.holds)))
          (gives_back between after c.give_back.ensures.answer.0 c.give_back.ensures.answer.2.0 c.give_back.ensures.answer.2.1));
      holds_none = c.give_back.ensures.after.holds_none;
      settled = inr refl;
      struck = λ e. told_still between.knows after.knows c.args.request Cancelled c.give_back.ensures.same.more
          (c.settle.ensures.after.told c.args.request c.requires.holds ∙ ap (λ (d : Decision). Some d) lost);
    }

pub returns-in-Execute-clause-says : goal.returns-in-Execute-clause-says
returns-in-Execute-clause-says g c = settles c.args.desk.now.desk c.settle.new.desk.desk c.args.request c.requires.holds c.in-Execute.ensures.answer
