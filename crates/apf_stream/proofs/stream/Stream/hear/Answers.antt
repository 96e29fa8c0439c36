-- The request of the event's slot waits, and reads.
use Rattle.std.proofs.Common.{rules, ◌≡◌, ◌<◌, length, Some, ap, ◌∙◌, arith}
use Rattle.apf_local.specs.declared.answer.Place.{Place}
use Rattle.apf_local.specs.declared.answer.Place.TheVariants as places
use Rattle.apf_stream.specs.declared.deed.Deed.TheVariants.{Read}
use Rattle.apf_stream.specs.States.{State, state_of}
use Rattle.apf_stream.proofs.Chains.{ran_one}
use Rattle.apf_stream.proofs.Readings.{waits_of}
use Rattle.apf_stream.proofs.stream.Stream.hear.Goals as goal

pub read-requires : goal.read-requires
read-requires c =
    let s : State = state_of c.args.self.now in
    let slot = c.slot-slot.result in
    let low : slot < length s.slots.slots = let a = c.if-slot-slots.false in let b = c.slots.ensures in let d = c.requires.tied.count.places in omega arith in
    let waits : c.held.result ≡ places.Waits = search rules in
    record { waits = waits_of s slot c.requires.tied low (c.held.ensures ∙ ap (λ (p : Place). Some p) waits) }

pub returns-clause-run : goal.returns-clause-run
returns-clause-run c =
    let r = c.in_ok-read.ensures.reads in
    ran_one (Read c.slot-slot.result) (state_of c.args.self.now) (state_of c.read.new.self) c.args.ends.now.items r.told c.read.new.ends.items (c.in_ok-read.field-0, r.reads) r.told_are
