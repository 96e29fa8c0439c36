-- One event more was told.
use Rattle.std.proofs.Common.{rules, ◌≡◌, ◌+◌, true}
use Rattle.std.specs.Prelude.{take}
use Rattle.std.proofs.lemmas.List.{take_more}
use Rattle.apf_watched.proofs.Told.{told_more}
use Rattle.apf_watched.proofs.telling.tell_all.Goals as goal

pub loop-event-preserved : goal.loop-event-preserved
loop-event-preserved c =
    let es = c.args.events.now in
    let i = c.loop-event.event-index in
    let yes : c.tell.result ≡ true = search rules in
    told_more c.args.notes.now (take i es) (take (i + 1) es) _ c.args.bound.now c.loop-event.bound c.tell.new.bound (take_more es i _ c.loop-event-test.true) c.loop-event.invariant c.tell.ensures.queues (c.tell.ensures.told yes)
