-- One event more is copied.
use Rattle.std.proofs.Common.{◌≡◌, ◌+◌, ◌<◌, ◌++◌, [], ◌∷◌, length, take, drop, length-set, length-drop, sym, ap, ◌∙◌, arith}
use Rattle.std.specs.Prelude.{slice_get, Some}
use Rattle.std.proofs.lemmas.Option.{get_or_from_slice_get}
use Rattle.std.proofs.lemmas.List.{take_more, take_more_set, get_or-drop}
use Rattle.apf_book.specs.declared.life_event.LifeEvent.{LifeEvent}
use Rattle.apf_book.proofs.recent_events.copy_run.Goals as goal

pub loop-i-preserved : goal.loop-i-preserved
loop-i-preserved g c =
    let was = c.loop-i.invariant in
    let i = c.loop-i.i in
    let k = c.args.skipped in
    let event : LifeEvent = c.event.result in
    let room = was.room in
    let all = length-drop k c.args.newest.now.items in
    let there : i < length (drop k c.args.newest.now.items) = omega (arith, c.requires.there, c.loop-i-test.true, c.loop-i.auto.i-end, all) in
    let is : slice_get c.args.newest.now.items (k + i) ≡ Some event = sym c.in-Some.ensures ∙ ap (λ (e : LifeEvent). Some e) (sym c.event.ensures) in
    record {
      room = length-set c.loop-i.into i event ∙ room;
      copied = take_more_set c.loop-i.into i event (omega (arith, c.loop-i-test.true, c.loop-i.auto.i-end, room))
          ∙ (ap (λ xs. xs ++ event ∷ []) was.copied ∙ sym (take_more (drop k c.args.newest.now.items) i event there
          ∙ ap (λ (e : LifeEvent). take i (drop k c.args.newest.now.items) ++ e ∷ []) (get_or-drop k c.args.newest.now.items i event ∙ get_or_from_slice_get c.args.newest.now.items (k + i) event event is)));
    }
