use Rattle.std.proofs.Common.{◌≡◌, Option, Some, None, sym, subst, ap, arith}
use Rattle.std.proofs.lemmas.Option.{slice_get_within}
use Rattle.apf_calendar.specs.declared.guest.Guest.{Guest}
use Rattle.apf_calendar.specs.Guests.{SlotsView, IsFree, NothingBy}
use Rattle.apf_calendar.specs.Kept.{IsKeptGuest}
use Rattle.apf_calendar.proofs.Puts.{arrived_kept, later_kept}
use Rattle.apf_calendar.proofs.calendar.SlotCalendar.arrive.Goals as goal

some_is : {A : Type 0} (a b : A) → ◌≡◌ {A = Option A} (Some a) (Some b) → a ≡ b
some_is a b is = cc

pub invariant_of-self : goal.invariant_of-self
invariant_of-self g c =
    let s = c.self.inside in
    let v : SlotsView = record { time = s.time; patience = s.patience; slots = s.slots.items } in
    let over : NothingBy v c.args.times.arrives_at = subst (λ (w : SlotsView). NothingBy w c.args.times.arrives_at) (sym c.self.view_is) c.requires.over in
    let was = ap (λ (w : SlotsView). w.time) c.self.view_is in
    let forward = c.requires.forward in
    let early = c.requires.range.arrives_at in
    later_kept v s.dues s.frees c.args.times.arrives_at c.self.invariant (omega arith) (omega arith) (λ i h d here is. let a = over i h d here is in omega arith)

pub put-requires-clause-is_slot : goal.put-requires-clause-is_slot
put-requires-clause-is_slot g c =
    let s = c.self.inside in
    let free = subst (λ (w : SlotsView). IsFree w c.args.slot) (sym c.self.view_is) c.requires.free in
    slice_get_within s.slots.items c.args.slot None free

pub put-requires-clause-kept : goal.put-requires-clause-kept
put-requires-clause-kept g c h e =
    subst (λ (x : Guest). IsKeptGuest c.args.times.arrives_at c.self.inside.patience x) (some_is _ h e)
    (arrived_kept c.args.line c.self.inside.patience c.args.times c.ranges.line.fits c.requires.range c.self.invariant.patience)
