-- One strip more.
use Rattle.std.proofs.Common.{ℕ, ◌++◌, ◌∷◌, [], List, map, take, sym, ◌∙◌, ap, subst, arith}
use Rattle.std.specs.Prelude.{All}
use Rattle.std.specs.List.{range_with_len}
use Rattle.std.proofs.lemmas.Grind.{common_steps}
use Rattle.std.proofs.lemmas.List.{map_push, take_more}
use Rattle.std.proofs.lemmas.List.Elements.{All-push}
use Rattle.apf_picture.specs.declared.columns.Strip.{Strip}
use Rattle.apf_picture.specs.Columns.{IsStrip, queue_in, place_in}
use Rattle.apf_picture.proofs.Ranges.{range_more}
use Rattle.apf_picture.proofs.columns.strips.Goals as goal

pub loop-place-preserved : goal.loop-place-preserved
loop-place-preserved c =
    let old = c.loop-place.strips.items in
    let strip = c.in_ok-queue_strip.field-0 in
    let n = c.loop-place.place in
    let all = c.deref-queue-items.result.now in
    record {
      queues = ap (map queue_in) c.in_ok-push.ensures.items ∙ map_push queue_in old strip ∙ ap (λ (queues : List ℕ). queues ++ queue_in strip ∷ []) c.loop-place.invariant.queues ∙ ap (λ (queue : ℕ). take n all ++ queue ∷ []) c.in_ok-queue_strip.ensures.queue
          ∙ sym (take_more all n 0 c.loop-place-test.true);
      places = ap (map place_in) c.in_ok-push.ensures.items ∙ map_push place_in old strip ∙ ap (λ (places : List ℕ). places ++ place_in strip ∷ []) c.loop-place.invariant.places ∙ ap (λ (place : ℕ). range_with_len 0 n ++ place ∷ []) c.in_ok-queue_strip.ensures.place
          ∙ sym (range_more 0 n n (omega arith));
      strips = subst (λ (strips : List Strip). All (IsStrip c.args.lives.now c.args.end) strips) (sym c.in_ok-push.ensures.items) (All-push (IsStrip c.args.lives.now c.args.end) old strip c.loop-place.invariant.strips c.in_ok-queue_strip.ensures.strip);
      count = grind (arith, common_steps);
    }
