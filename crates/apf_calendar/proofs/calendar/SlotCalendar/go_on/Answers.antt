-- What is due is later still.
use Rattle.std.proofs.Common.{sym, subst, ap, arith}
use Rattle.apf_calendar.specs.Guests.{SlotsView, NothingBy}
use Rattle.apf_calendar.proofs.Puts.{later_kept}
use Rattle.apf_calendar.proofs.calendar.SlotCalendar.go_on.Goals as goal

pub invariant_of-self : goal.invariant_of-self
invariant_of-self g c =
    let s = c.self.inside in
    let v : SlotsView = record { time = s.time; patience = s.patience; slots = s.slots.items } in
    let over : NothingBy v c.args.at = subst (λ (w : SlotsView). NothingBy w c.args.at) (sym c.self.view_is) c.requires.over in
    let was = ap (λ (w : SlotsView). w.time) c.self.view_is in
    let forward = c.requires.forward in
    later_kept v s.dues s.frees c.args.at c.self.invariant (omega arith) c.requires.low (λ i h d here is. let a = over i h d here is in omega arith)
