-- Each round reads on and answers the lines that came.
use Rattle.std.proofs.Common.{refl, ap, ◌∙◌, string_bytes}
use Rattle.std.proofs.lemmas.Result.{err_from_is_err_and}
use Rattle.apf_service.specs.declared.serving.ServeFault.TheVariants.{CannotRead, CannotWrite}
use Rattle.apf_service.specs.Kept.{state_of}
use Rattle.apf_service.specs.Rounds.{AnswersInput, AnswersWhole, AnswersUntil}
use Rattle.apf_service.proofs.Rounds.{nothing_yet, no_lf_yet, lines_more, read_more, whole_input, part_input, failed_input, read_so_far, at_fault}
use Rattle.apf_service.proofs.serving.answer_input.Goals as goal

pub rounds-init : goal.rounds-init
rounds-init g c = record {
  longest = refl;
  none = no_lf_yet c.args.lines.now c.requires.nothing;
  same = (refl, refl, refl);
  input = nothing_yet (string_bytes c.args.service.now.name) (state_of c.args.service.now.level c.args.service.now.notes) (g.I.Read.remaining c.args.input.now) (g.O.Write.contents c.args.out.now) c.args.lines.now c.requires.nothing c.requires.whole;
}

pub returns-in_err-read_on-clause-answered : goal.returns-in_err-read_on-clause-answered
returns-in_err-read_on-clause-answered g c =
    let name = string_bytes c.args.service.now.name in
    let old = state_of c.args.service.now.level c.args.service.now.notes in
    let new = state_of c.rounds.service.level c.rounds.service.notes in
    let was = g.I.Read.remaining c.args.input.now in
    let left = g.I.Read.remaining c.read_on.new.input in
    let held = g.O.Write.contents c.args.out.now in
    let holds = g.O.Write.contents c.rounds.out in
    at_fault c.from_residual.result CannotRead c.in_err-read_on.field-0.0 (AnswersWhole name old new was left held holds c.read_on.new.lines) (AnswersUntil name old new was left held holds c.read_on.new.lines)
    (err_from_is_err_and c.from_residual.result c.from_residual.ensures.1) c.in_err-read_on.ensures.read.0
    (failed_input name old new was (g.I.Read.remaining c.rounds.input) left held holds c.rounds.lines c.read_on.new.lines c.rounds.number c.rounds.invariant.none c.rounds.invariant.input c.in_err-read_on.ensures.read.1)

pub returns-then-not-branch-clause-answered : goal.returns-then-not-branch-clause-answered
returns-then-not-branch-clause-answered g c =
    whole_input (string_bytes c.args.service.now.name) (state_of c.args.service.now.level c.args.service.now.notes) (state_of c.rounds.service.level c.rounds.service.notes)
    (g.I.Read.remaining c.args.input.now) (g.I.Read.remaining c.rounds.input) (g.I.Read.remaining c.read_on.new.input) (g.O.Write.contents c.args.out.now) (g.O.Write.contents c.rounds.out)
    c.rounds.lines c.read_on.new.lines c.rounds.number c.in_ok-read_on.field-0 c.if-not-branch.true c.rounds.invariant.none c.rounds.invariant.input c.in_ok-read_on.ensures.read

pub returns-in_err-number-clause-answered : goal.returns-in_err-number-clause-answered
returns-in_err-number-clause-answered g c =
    let name = string_bytes c.args.service.now.name in
    let old = state_of c.args.service.now.level c.args.service.now.notes in
    let new = state_of c.answer_lines.new.service.level c.answer_lines.new.service.notes in
    let was = g.I.Read.remaining c.args.input.now in
    let left = g.I.Read.remaining c.read_on.new.input in
    let held = g.O.Write.contents c.args.out.now in
    let holds = g.O.Write.contents c.answer_lines.new.out in
    at_fault c.from_residual-in_err-number.result CannotWrite c.in_err-number.field-0.0 (AnswersWhole name old new was left held holds c.answer_lines.new.lines) (AnswersUntil name old new was left held holds c.answer_lines.new.lines)
    (err_from_is_err_and c.from_residual-in_err-number.result c.from_residual-in_err-number.ensures.1) c.in_err-number.ensures.fault
    (read_so_far name old (state_of c.rounds.service.level c.rounds.service.notes) was (g.I.Read.remaining c.rounds.input) left held (g.O.Write.contents c.rounds.out) c.rounds.lines c.read_on.new.lines c.rounds.number c.in_ok-read_on.field-0 c.rounds.invariant.input c.in_ok-read_on.ensures.read)

pub returns-in_err-flush-clause-answered : goal.returns-in_err-flush-clause-answered
returns-in_err-flush-clause-answered g c =
    let name = string_bytes c.args.service.now.name in
    let old = state_of c.args.service.now.level c.args.service.now.notes in
    let new = state_of c.answer_lines.new.service.level c.answer_lines.new.service.notes in
    let was = g.I.Read.remaining c.args.input.now in
    let left = g.I.Read.remaining c.read_on.new.input in
    let held = g.O.Write.contents c.args.out.now in
    let holds = g.O.Write.contents c.flush.new.out in
    at_fault c.from_residual-in_err-flush.result CannotWrite c.in_err-flush.field-0.0 (AnswersWhole name old new was left held holds c.answer_lines.new.lines) (AnswersUntil name old new was left held holds c.answer_lines.new.lines)
    (err_from_is_err_and c.from_residual-in_err-flush.result c.from_residual-in_err-flush.ensures.1) c.in_err-flush.ensures.fault
    (read_so_far name old (state_of c.rounds.service.level c.rounds.service.notes) was (g.I.Read.remaining c.rounds.input) left held (g.O.Write.contents c.rounds.out) c.rounds.lines c.read_on.new.lines c.rounds.number c.in_ok-read_on.field-0 c.rounds.invariant.input c.in_ok-read_on.ensures.read)

pub rounds-preserved : goal.rounds-preserved
rounds-preserved g c =
    let name = string_bytes c.args.service.now.name in
    let old = state_of c.args.service.now.level c.args.service.now.notes in
    let so_far = state_of c.rounds.service.level c.rounds.service.notes in
    let new = state_of c.answer_lines.new.service.level c.answer_lines.new.service.notes in
    let was = g.I.Read.remaining c.args.input.now in
    let left = g.I.Read.remaining c.read_on.new.input in
    let held = g.O.Write.contents c.args.out.now in
    let mid = g.O.Write.contents c.rounds.out in
    let input : AnswersInput name old so_far was left held mid c.read_on.new.lines c.rounds.number =
    read_more name old so_far was (g.I.Read.remaining c.rounds.input) left held mid c.rounds.lines c.read_on.new.lines c.rounds.number c.in_ok-read_on.field-0 c.rounds.invariant.input c.in_ok-read_on.ensures.read in
    record {
      longest = c.answer_lines.ensures.longest ∙ c.read_on.ensures.longest ∙ c.rounds.invariant.longest;
      none = c.in_ok-number.ensures.none;
      same = (c.answer_lines.ensures.same.0 ∙ c.rounds.invariant.same.0, c.answer_lines.ensures.same.1 ∙ c.rounds.invariant.same.1, c.answer_lines.ensures.same.2 ∙ c.rounds.invariant.same.2);
      input = lines_more name (string_bytes c.rounds.service.name) old so_far new was left held mid (g.O.Write.contents c.answer_lines.new.out) (g.O.Write.contents c.flush.new.out) c.read_on.new.lines c.answer_lines.new.lines c.rounds.number c.in_ok-number.number
          (ap string_bytes c.rounds.invariant.same.1) input c.in_ok-number.ensures.answered c.in_ok-flush.ensures.kept;
    }

pub returns-clause-answered : goal.returns-clause-answered
returns-clause-answered g c = part_input (string_bytes c.args.service.now.name) (state_of c.args.service.now.level c.args.service.now.notes) (state_of c.rounds.service.level c.rounds.service.notes)
    (g.I.Read.remaining c.args.input.now) (g.I.Read.remaining c.rounds.input) (g.O.Write.contents c.args.out.now) (g.O.Write.contents c.rounds.out) c.rounds.lines c.rounds.number c.rounds.invariant.none c.rounds.invariant.input
