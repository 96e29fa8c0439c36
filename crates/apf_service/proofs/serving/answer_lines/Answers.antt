-- With each line that is there one more was answered, and where none is, no LF is kept.
use Rattle.std.proofs.Common.{refl, ap, ◌∙◌, string_bytes}
use Rattle.apf_service.specs.Kept.{state_of}
use Rattle.apf_service.proofs.Rounds.{none_yet, one_more, none_more}
use Rattle.apf_service.proofs.serving.answer_lines.Goals as goal

pub lines-init : goal.lines-init
lines-init g c = record {
  longest = refl;
  same = (refl, refl, refl);
  answered = λ number bytes is u.
      none_yet (string_bytes c.args.service.now.name) number bytes (state_of c.args.service.now.level c.args.service.now.notes) (g.O.Write.contents c.args.out.now) c.args.lines.now c.args.first is u;
}

pub lines-preserved : goal.lines-preserved
lines-preserved g c = record {
  longest = c.answer_next.ensures.longest ∙ c.lines.invariant.longest;
  same = (c.answer_next.ensures.same.0 ∙ c.lines.invariant.same.0, c.answer_next.ensures.same.1 ∙ c.lines.invariant.same.1, c.answer_next.ensures.same.2 ∙ c.lines.invariant.same.2);
  answered = λ number bytes is u.
      one_more (string_bytes c.args.service.now.name) (string_bytes c.lines.service.name) number bytes
      (state_of c.args.service.now.level c.args.service.now.notes) (state_of c.lines.service.level c.lines.service.notes) (state_of c.answer_next.new.service.level c.answer_next.new.service.notes)
      (g.O.Write.contents c.args.out.now) (g.O.Write.contents c.lines.out) (g.O.Write.contents c.answer_next.new.out) c.lines.lines c.answer_next.new.lines c.lines.number c.saturating_add-number.result c.in_ok-answer_next.field-0
      (ap string_bytes c.lines.invariant.same.1) c.if-branch.true c.in_ok-answer_next.ensures.took c.saturating_add-number.ensures (c.lines.invariant.answered number bytes is u);
}

pub returns-clause-answered : goal.returns-clause-answered
returns-clause-answered g c = λ number bytes is u.
    none_more (string_bytes c.args.service.now.name) (string_bytes c.lines.service.name) number bytes
    (state_of c.args.service.now.level c.args.service.now.notes) (state_of c.lines.service.level c.lines.service.notes) (state_of c.answer_next.new.service.level c.answer_next.new.service.notes)
    (g.O.Write.contents c.args.out.now) (g.O.Write.contents c.lines.out) (g.O.Write.contents c.answer_next.new.out) c.lines.lines c.answer_next.new.lines c.lines.number c.in_ok-answer_next.field-0
    c.if-branch.false c.in_ok-answer_next.ensures.took (c.lines.invariant.answered number bytes is u)
