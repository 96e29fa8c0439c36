-- How much is left of those who are there, as one slot changes.
use Rattle.std.proofs.Common.{◌≡◌, ℕ, zero, suc, ◌+◌, ◌<◌, ◌≤◌, List, [], ◌∷◌, set, Option, Some, None, ap, arith}
use Rattle.std.specs.Prelude.{slice_get}
use Rattle.apf_times.specs.declared.course.Times.{Times}
use Rattle.apf_times.specs.declared.due.Due.{Due}
use Rattle.apf_calendar.specs.declared.calendar.Carried.{Carried}
use Rattle.apf_calendar.specs.declared.guest.Guest.{Guest}
use Rattle.apf_calendar.specs.declared.guest.Stay.{Stay}
use Rattle.apf_calendar.specs.declared.guest.Stay.TheVariants.{Waits, Impatient, Holds}
use Rattle.apf_calendar.specs.Guests.{SlotsView, CarriesOut, IsWaiting, Starts, WaitsIn, due_in, then_in, then_of, with_slot}
use Rattle.apf_stream.specs.Measures.{left, left_in, left_of}
use Rattle.apf_stream.proofs.Places.{some_is, none_is}

pub left_set : (xs : List (Option Guest)) (i : ℕ) (y x : Option Guest) → slice_get xs i ≡ Some y → left (set xs i x) + left_in y ≡ left xs + left_in x
left_set [] i y x is = absurd (none_is is)
left_set (z ∷ zs) zero y x is = let e = ap left_in (some_is is) in omega arith
left_set (z ∷ zs) (suc i) y x is = let r = left_set zs i y x is in omega arith

-- something is due of a guest, so less is left of it then
fewer_then : (patience line : ℕ) (times : Times) (stay : Stay) (d : Due) → due_in patience line times stay ≡ Some d → left_in (then_in line times stay) < left_of stay
fewer_then patience line times Waits d is = omega arith
fewer_then patience line times Impatient d is = absurd (none_is is)
fewer_then patience line times (Holds since) d is = omega arith

pub carries_fewer : (v : SlotsView) (by : ℕ) (c : Carried) (v' : SlotsView) → CarriesOut v by c v' → left v'.slots < left v.slots
carries_fewer v by c v' is =
    let first = is.next.first in
    let l = left_set v.slots c.slot (Some c.guest) (then_of c.guest) first.here in
    let f = fewer_then v.patience c.guest.line c.guest.times c.guest.stay is.next.due first.is_due in
    let e = ap (λ (w : SlotsView). left w.slots) is.then in
    omega arith

some_left : (stay : Stay) → IsWaiting stay → 2 ≤ left_of stay
some_left Waits w = omega arith
some_left Impatient w = omega arith
some_left (Holds since) w = absurd w

pub starts_fewer : (v : SlotsView) (slot : ℕ) (v' : SlotsView) → Starts v slot v' → left v'.slots < left v.slots
starts_fewer v slot v' is =
    let l = left_set v.slots slot (Some is.guest) (Some (record { line = is.guest.line; times = is.guest.times; stay = Holds v.time })) is.here in
    let f = some_left is.guest.stay is.waits in
    let e = ap (λ (w : SlotsView). left w.slots) is.then in
    omega arith

pub leaves_fewer : (v : SlotsView) (slot : ℕ) (v' : SlotsView) → WaitsIn v slot → v' ≡ with_slot v slot None → left v'.slots < left v.slots
leaves_fewer v slot v' is then =
    let l = left_set v.slots slot (Some is.guest) None is.here in
    let f = some_left is.guest.stay is.waits in
    let e = ap (λ (w : SlotsView). left w.slots) then in
    omega arith
