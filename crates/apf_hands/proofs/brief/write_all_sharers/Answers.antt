-- One queue more.
use Rattle.std.proofs.Common.{◌+◌, take, get_or}
use Rattle.std.proofs.lemmas.List.{take_more}
use Rattle.apf_hands.specs.Holders.{places_at, others_text}
use Rattle.apf_hands.proofs.Written.{texts_more}
use Rattle.apf_hands.proofs.brief.write_all_sharers.Goals as goal

pub loop-queue-preserved : goal.loop-queue-preserved
loop-queue-preserved g c =
    let told = g.W.Write.contents in
    let hand = c.args.hand.now in
    let i = c.loop-queue.queue-index in
    texts_more (others_text (places_at c.args.holders.now)) (take i hand) (get_or hand i 0) (take (i + 1) hand) (take_more hand i 0 c.loop-queue-test.true)
    (told c.args.out.now) (told c.loop-queue.out) (told c.write_sharers.new.out) c.loop-queue.invariant c.in_ok-write_sharers.ensures
