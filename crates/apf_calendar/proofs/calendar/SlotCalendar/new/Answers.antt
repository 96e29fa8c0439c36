use Rattle.std.proofs.Common.{List, Option, sym, subst}
use Rattle.apf_calendar.specs.declared.guest.Guest.{Guest}
use Rattle.apf_calendar.specs.Kept.{AreKept}
use Rattle.apf_calendar.proofs.Puts.{opening_kept}
use Rattle.apf_calendar.proofs.calendar.SlotCalendar.new.Goals as goal

pub invariant_of-result : goal.invariant_of-result
invariant_of-result g c =
    let slots = c.args.slots in
    subst (λ (xs : List (Option Guest)). AreKept (record { time = 0; patience = c.args.patience; slots = xs }) c.in_ok-dues.dues c.in_ok-frees.frees) (sym c.in_ok-held.ensures)
    (opening_kept slots c.args.patience c.in_ok-dues.dues c.in_ok-frees.frees c.requires.some c.requires.few c.requires.patience c.in_ok-dues.ensures.room c.in_ok-frees.ensures.room c.in_ok-dues.ensures.empty c.in_ok-frees.ensures.free)
