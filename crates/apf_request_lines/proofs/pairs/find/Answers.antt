-- One pair after the other, up to the one that has the key.
use Rattle.std.proofs.Common.{◌≡◌, ◌∙◌, length, Ok, Some, None, true, false, ap, sym, option_map}
use Rattle.std.specs.Prelude.{bytes_eq}
use Rattle.apf_request_lines.specs.Pairs.{pair, pair_at}
use Rattle.apf_request_lines.proofs.Walk.{ends, goes_on, is_found, is_none, is_over}
use Rattle.apf_request_lines.proofs.pairs.find.Goals as goal

pub returns-in-Ok-None : goal.returns-in-Ok-None
returns-in-Ok-None c =
    let has : pair_at c.loop.rest.now ≡ Ok None = c.in-Ok-None.ensures ∙ ap (λ o. Ok (option_map pair o)) c.in-Ok-None.field-0-is in
    is_none (length c.args.bytes.now) c.loop.counter c.args.key.now c.loop.rest.now _ c.loop-test.true has c.loop.invariant

pub returns-in-Err : goal.returns-in-Err
returns-in-Err c = ends c.in-Err.fault (length c.args.bytes.now) c.loop.counter c.args.key.now c.loop.rest.now _ c.loop-test.true c.in-Err.ensures c.loop.invariant

pub returns-then-are_same : goal.returns-then-are_same
returns-then-are_same c =
    let p = pair c.in-Ok-Some.pair in
    let has : pair_at c.loop.rest.now ≡ Ok (Some p) = c.in-Ok-Some.ensures ∙ ap (λ o. Ok (option_map pair o)) (c.in-Ok-Some.field-0-is) in
    let same : bytes_eq p.key c.args.key.now ≡ true = ap (bytes_eq p.key) (sym c.as_bytes.ensures.value) ∙ sym c.are_same.ensures ∙ c.if-are_same.true in
    is_found (length c.args.bytes.now) c.loop.counter c.args.key.now c.loop.rest.now p _ c.loop-test.true has same c.loop.invariant

pub loop-preserved : goal.loop-preserved
loop-preserved c =
    let p = pair c.in-Ok-Some.pair in
    let has : pair_at c.loop.rest.now ≡ Ok (Some p) = c.in-Ok-Some.ensures ∙ ap (λ o. Ok (option_map pair o)) (c.in-Ok-Some.field-0-is) in
    let other : bytes_eq p.key c.args.key.now ≡ false = ap (bytes_eq p.key) (sym c.as_bytes.ensures.value) ∙ sym c.are_same.ensures ∙ c.if-are_same.false in
    goes_on (length c.args.bytes.now) c.loop.counter c.args.key.now c.loop.rest.now p _ c.loop-test.true has other c.loop.invariant

pub returns : goal.returns
returns c = is_over (length c.args.bytes.now) c.loop.counter c.args.key.now c.loop.rest.now _ c.loop-test.false c.loop.invariant
