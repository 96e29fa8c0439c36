-- Who entered waits until it leaves.
use Rattle.std.proofs.Common.{◌≡◌, ◌<◌, length, inr, sym, subst, arith}
use Rattle.std.specs.Prelude.{Contains}
use Rattle.std.proofs.lemmas.Option.{slice_get_within}
use Rattle.apf_history.specs.declared.events.Event.TheVariants.{Enter}
use Rattle.apf_model.specs.History.{waiting}
use Rattle.apf_book.specs.Stretch.{history_at}
use Rattle.apf_book.proofs.Opened.{opened}
use Rattle.apf_book.proofs.Leavings.{waits_entered, waits_still, leaves_at}
use Rattle.apf_book.proofs.overtaking.end_of.Goals as goal

pub loop-place-init : goal.loop-place-init
loop-place-init c =
    let l = c.requires.legal in
    waits_entered (opened c.legal_histories_are_in_order.ensures) l.0 l.1.0 c.args.log.now l.1.1 c.args.request c.args.queue c.args.from c.requires.enters

pub returns-then-leaves-clause-ends : goal.returns-then-leaves-clause-ends
returns-then-leaves-clause-ends c =
    let l = c.requires.legal in
    inr (leaves_at (opened c.legal_histories_are_in_order.ensures) l.0 l.1.0 c.args.log.now l.1.1 c.args.request c.args.queue c.loop-place.place (Enter 0 0) (omega arith) (sym c.if-leaves.ensures) c.loop-place.invariant)

pub loop-place-preserved : goal.loop-place-preserved
loop-place-preserved c =
    let l = c.requires.legal in
    waits_still (opened c.legal_histories_are_in_order.ensures) l.0 l.1.0 c.args.log.now l.1.1 c.args.request c.args.queue c.loop-place.place (Enter 0 0) (omega arith) (sym c.if-leaves.ensures) c.loop-place.invariant

pub returns-clause-waits : goal.returns-clause-waits
returns-clause-waits c =
    let inside : c.args.from < length c.args.log.now = slice_get_within c.args.log.now c.args.from (Enter c.args.request c.args.queue) c.requires.enters in
    let end : c.loop-place.place ≡ length c.args.log.now = omega arith in
    (inside, omega arith, c.requires.enters, subst (λ k. Contains (waiting (history_at c.args.log.now k) c.args.queue) c.args.request) end c.loop-place.invariant)
