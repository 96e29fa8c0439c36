use Rattle.std.proofs.Common.{◌≡◌, ℕ, ◌+◌, ◌<◌, [], ◌∷◌, ◌++◌, length, length-drop, vec_len, sym, ap, ◌∙◌, arith, rules, Err, lit≤}
use Rattle.std.proofs.lemmas.List.Elements.{All-push}
use Rattle.apf_files.specs.ScriptFile.{script_of, lines_from, IsCommandInRange}
use Rattle.apf_files.specs.FirstFault.{with_front}
use Rattle.apf_files.proofs.Judged.{with_front-nil, with_front-before}
use Rattle.apf_files.specs.ScriptLine.{line_from}
use Rattle.apf_files.proofs.ScriptLines.{lines_from-too_long, lines_from-line, lines_from-truncated, next_line, this_line, found_at}
use Rattle.apf_files.proofs.script.judge_script.Goals as goal

pub loop-rest-init : goal.loop-rest-init
unfolding script_of
loop-rest-init c = rw c.new-commands.ensures.items (record {
  so_far = with_front-nil _;
  few = lit≤ tt;
  count = omega (arith, c.new-commands.ensures.len);
  ranges = search rules;
  within = omega arith;
  place = λ k. let same : 0 + k ≡ k = omega arith in ap (λ (n : ℕ). line_from n [] c.args.bytes.now) same;
})

pub returns-then-line-gt-MAX_LINES-clause-err : goal.returns-then-line-gt-MAX_LINES-clause-err
returns-then-line-gt-MAX_LINES-clause-err c _ =
    let more : 0 < length c.loop-rest.rest.now = search rules in
    sym c.loop-rest.invariant.so_far ∙ ap (with_front c.loop-rest.commands.items)
    (lines_from-too_long c.args.requests c.loop-rest.line c.loop-rest.rest.now c.if-line-gt-MAX_LINES.true more) ∙ ap Err (sym c.refused.ensures)

pub returns-in_default-clause-err : goal.returns-in_default-clause-err
returns-in_default-clause-err c _ =
    let more : 0 < length c.loop-rest.rest.now = search rules in
    sym c.loop-rest.invariant.so_far ∙ ap (with_front c.loop-rest.commands.items)
    (lines_from-truncated c.args.requests c.loop-rest.line [] c.loop-rest.rest.now c.if-line-gt-MAX_LINES.false (omega arith) c.in_default.ensures.found)
    ∙ ap Err (sym c.refused-in_default.ensures)

pub returns-in_err-command-clause-err : goal.returns-in_err-command-clause-err
returns-in_err-command-clause-err c =
    let err : c.from_residual.result ≡ Err c.in_err-command.field-0.0 = search rules in
    let found = c.in-Some.ensures.found in
    let line = lines_from-line c.args.requests c.loop-rest.line [] c.loop-rest.rest.now c.in-Some.end c.if-line-gt-MAX_LINES.false found.0 found.1 found.2 in
    let bad = c.in_err-command.ensures.err in
    let stopped : lines_from c.args.requests c.loop-rest.line [] c.loop-rest.rest.now ≡ Err c.in_err-command.field-0.0.fault = rw bad at line in
    rw err (λ _. sym c.loop-rest.invariant.so_far ∙ ap (with_front c.loop-rest.commands.items) stopped)

pub returns-in_err-command-clause-found : goal.returns-in_err-command-clause-found
returns-in_err-command-clause-found c =
    let err : c.from_residual.result ≡ Err c.in_err-command.field-0.0 = search rules in
    let found = c.in-Some.ensures.found in
    let refused = c.in_err-command.field-0.0 in
    let line = this_line c.args.bytes.now c.loop-rest.rest.now c.loop-rest.line c.in-Some.end c.loop-rest.invariant.place found.0 found.1 found.2 in
    rw err (found_at c.args.bytes.now _ c.loop-rest.line refused.fault refused.found c.in_err-command.ensures.place line c.in_err-command.ensures.found)

pub returns-then-line-gt-MAX_LINES-clause-found : goal.returns-then-line-gt-MAX_LINES-clause-found
returns-then-line-gt-MAX_LINES-clause-found c = rw c.refused.ensures tt

pub returns-in_default-clause-found : goal.returns-in_default-clause-found
returns-in_default-clause-found c = rw c.refused-in_default.ensures tt

pub loop-rest-preserved : goal.loop-rest-preserved
loop-rest-preserved c =
    let found = c.in-Some.ensures.found in
    let line = lines_from-line c.args.requests c.loop-rest.line [] c.loop-rest.rest.now c.in-Some.end c.if-line-gt-MAX_LINES.false found.0 found.1 found.2 in
    let good = c.in_ok-command.ensures.ok in
    let went_on = rw good at line in
    let pushed : c.push.new.self.items ≡ c.loop-rest.commands.items ++ c.in_ok-command.command ∷ [] = search rules in
    let grown : vec_len c.push.new.self ≡ vec_len c.loop-rest.commands + 1 = search rules in
    record {
      so_far = rw (pushed, c.after-rest.ensures) (sym (with_front-before c.loop-rest.commands.items c.in_ok-command.command _)
          ∙ ap (with_front c.loop-rest.commands.items) (sym went_on) ∙ c.loop-rest.invariant.so_far);
      few = omega arith;
      count = omega arith;
      ranges = rw pushed (All-push (IsCommandInRange c.args.requests) c.loop-rest.commands.items c.in_ok-command.command
          c.loop-rest.invariant.ranges c.in_ok-command.ensures.ranges);
      within = rw c.after-rest.ensures (omega (arith, length-drop (c.in-Some.end + 1) c.loop-rest.rest.now));
      place = λ k. rw c.after-rest.ensures (next_line c.args.bytes.now c.loop-rest.rest.now c.loop-rest.line k c.in-Some.end (omega arith) c.loop-rest.invariant.place found.0 found.1 found.2);
    }
