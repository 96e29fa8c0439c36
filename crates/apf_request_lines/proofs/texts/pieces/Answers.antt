-- One piece after the other, until no byte is left.
use Rattle.std.proofs.Common.{◌∙◌, ◌++◌, length, Some, None, ap, sym, cond, option_map}
use Rattle.apf_request_lines.specs.Texts.{bytes_of, with_piece}
use Rattle.apf_request_lines.proofs.Stepping.{at_end, at_last, no_step, one_step}
use Rattle.apf_request_lines.proofs.texts.pieces.Goals as goal

pub returns-then-is_empty : goal.returns-then-is_empty
returns-then-is_empty c =
    sym (at_end with_piece (length c.args.bytes.now) c.loop.counter c.loop.text.items c.loop.rest.now _ c.loop-test.true (sym c.is_empty.ensures ∙ c.if-is_empty.true) c.loop.invariant)

pub returns-in_default : goal.returns-in_default
returns-in_default c =
    sym (no_step with_piece (length c.args.bytes.now) c.loop.counter c.loop.text.items c.loop.rest.now _ c.loop-test.true (sym c.is_empty.ensures ∙ c.if-is_empty.false)
    (ap (option_map (λ piece. (c.loop.text.items ++ bytes_of piece.0, piece.1))) (sym c.in_default.ensures)) c.loop.invariant)

pub loop-preserved : goal.loop-preserved
loop-preserved c = rw c.in_ok-push.ensures
    (one_step with_piece (length c.args.bytes.now) c.loop.counter c.loop.text.items (c.loop.text.items ++ bytes_of c.in-Some.piece) c.loop.rest.now c.in-Some.others.now _ c.loop-test.true
    (sym c.is_empty.ensures ∙ c.if-is_empty.false)
    (ap (option_map (λ piece. (c.loop.text.items ++ bytes_of piece.0, piece.1))) (sym c.in-Some.ensures)) c.loop.invariant)

pub returns-then-is_empty-2 : goal.returns-then-is_empty-2
returns-then-is_empty-2 c =
    sym (at_last with_piece (length c.args.bytes.now) c.loop.counter c.loop.text.items c.loop.rest.now _ c.loop-test.false c.loop.invariant
    ∙ ap (λ b. cond b (Some c.loop.text.items) None) (sym c.is_empty-2.ensures ∙ c.if-is_empty-2.true))

pub returns-else-is_empty-2 : goal.returns-else-is_empty-2
returns-else-is_empty-2 c =
    sym (at_last with_piece (length c.args.bytes.now) c.loop.counter c.loop.text.items c.loop.rest.now _ c.loop-test.false c.loop.invariant
    ∙ ap (λ b. cond b (Some c.loop.text.items) None) (sym c.is_empty-2.ensures ∙ c.if-is_empty-2.false))
