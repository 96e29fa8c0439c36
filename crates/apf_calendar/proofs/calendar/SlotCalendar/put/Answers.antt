use Rattle.std.proofs.Common.{◌≡◌, ◌<◌, length, Some, sym, subst}
use Rattle.apf_calendar.specs.declared.guest.Guest.{Guest}
use Rattle.apf_calendar.specs.Guests.{SlotsView}
use Rattle.apf_calendar.specs.Kept.{IsKeptGuest}
use Rattle.apf_calendar.proofs.Puts.{put_kept}
use Rattle.apf_calendar.proofs.calendar.SlotCalendar.put.Goals as goal

pub invariant_of-self : goal.invariant_of-self
invariant_of-self g c =
    let s = c.self.inside in
    let v : SlotsView = record { time = s.time; patience = s.patience; slots = s.slots.items } in
    let is_slot = subst (λ (w : SlotsView). c.args.slot < length w.slots) (sym c.self.view_is) c.requires.is_slot in
    let kept : (x : Guest) → c.args.guest ≡ Some x → IsKeptGuest s.time s.patience x = λ x e. subst (λ (w : SlotsView). IsKeptGuest w.time w.patience x) (sym c.self.view_is) (c.requires.kept x e) in
    rw (c.set.ensures, c.set-2.ensures, c.numbers_of-due.ensures.due, c.numbers_of-due.ensures.free) (put_kept v s.dues s.frees c.args.slot c.args.guest c.self.invariant is_slot kept)
