use Rattle.std.proofs.Common.{length, Some, refl, subst, ◌∙◌, ap, arith}
use Rattle.std.proofs.lemmas.Option.{slice_get_read}
use Rattle.apf_calendar.specs.Guests.{SlotsView, IsIn, IsNext, NothingBy}
use Rattle.apf_calendar.proofs.Firsts.{nothing_due, inside, not_free, something, is_first}
use Rattle.apf_calendar.proofs.calendar.SlotCalendar.first_due.Goals as goal

pub returns-in_default-clause-none : goal.returns-in_default-clause-none
returns-in_default-clause-none g c by =
    let s = c.self.inside in
    let v : SlotsView = record { time = s.time; patience = s.patience; slots = s.slots.items } in
    subst (λ (w : SlotsView). NothingBy w by) c.self.view_is (nothing_due v s.dues s.frees c.self.invariant by c.in_default.ensures.none)

pub index-requires : goal.index-requires
index-requires g c =
    let s = c.self.inside in
    let v : SlotsView = record { time = s.time; patience = s.patience; slots = s.slots.items } in
    let low = inside v s.dues s.frees c.self.invariant c.in-Some.slot c.in-Some.ensures.some in
    let len = s.slots.ok.0 in
    omega arith

pub unreachable-requires : goal.unreachable-requires
unreachable-requires g c =
    let s = c.self.inside in
    let v : SlotsView = record { time = s.time; patience = s.patience; slots = s.slots.items } in
    let low = inside v s.dues s.frees c.self.invariant c.in-Some.slot c.in-Some.ensures.some in
    not_free v s.dues s.frees c.self.invariant c.in-Some.slot c.in-Some.ensures.some
    (slice_get_read s.slots.items (length s.slots.items) c.in-Some.slot c.index.result.now refl low c.index.ensures ∙ ap Some c.in_default-index.is)

pub due_at-requires-clause-range : goal.due_at-requires-clause-range
due_at-requires-clause-range g c =
    let s = c.self.inside in
    let v : SlotsView = record { time = s.time; patience = s.patience; slots = s.slots.items } in
    let low = inside v s.dues s.frees c.self.invariant c.in-Some.slot c.in-Some.ensures.some in
    let here : IsIn v c.in-Some.slot c.in-Some-index.guest = slice_get_read s.slots.items (length s.slots.items) c.in-Some.slot c.index.result.now refl low c.index.ensures ∙ ap Some c.in-Some-index.is in
    (c.self.invariant.guests c.in-Some.slot c.in-Some-index.guest here).range

pub due_at-requires-clause-low : goal.due_at-requires-clause-low
due_at-requires-clause-low g c =
    let s = c.self.inside in
    let v : SlotsView = record { time = s.time; patience = s.patience; slots = s.slots.items } in
    let low = inside v s.dues s.frees c.self.invariant c.in-Some.slot c.in-Some.ensures.some in
    let here : IsIn v c.in-Some.slot c.in-Some-index.guest = slice_get_read s.slots.items (length s.slots.items) c.in-Some.slot c.index.result.now refl low c.index.ensures ∙ ap Some c.in-Some-index.is in
    (c.self.invariant.guests c.in-Some.slot c.in-Some-index.guest here).low

pub unreachable-requires-in_default-due_at : goal.unreachable-requires-in_default-due_at
unreachable-requires-in_default-due_at g c =
    let s = c.self.inside in
    let v : SlotsView = record { time = s.time; patience = s.patience; slots = s.slots.items } in
    let low = inside v s.dues s.frees c.self.invariant c.in-Some.slot c.in-Some.ensures.some in
    let here : IsIn v c.in-Some.slot c.in-Some-index.guest = slice_get_read s.slots.items (length s.slots.items) c.in-Some.slot c.index.result.now refl low c.index.ensures ∙ ap Some c.in-Some-index.is in
    something v s.dues s.frees c.self.invariant c.in-Some.slot c.in-Some.ensures.some c.in-Some-index.guest here c.in_default-due_at.ensures.none

pub returns-clause-some : goal.returns-clause-some
returns-clause-some g c =
    let s = c.self.inside in
    let v : SlotsView = record { time = s.time; patience = s.patience; slots = s.slots.items } in
    let low = inside v s.dues s.frees c.self.invariant c.in-Some.slot c.in-Some.ensures.some in
    let here : IsIn v c.in-Some.slot c.in-Some-index.guest = slice_get_read s.slots.items (length s.slots.items) c.in-Some.slot c.index.result.now refl low c.index.ensures ∙ ap Some c.in-Some-index.is in
    let due = c.in-Some-due_at.ensures.some in
    let next : IsNext v (record { slot = c.in-Some.slot; guest = c.in-Some-index.guest; at = c.in-Some-due_at.at }) = record {
      due = due.0;
      first = is_first v s.dues s.frees c.self.invariant c.in-Some.slot c.in-Some.ensures.some c.in-Some-index.guest due.0 here due.1;
      at = due.2;
    } in
    subst (λ (w : SlotsView). IsNext w (record { slot = c.in-Some.slot; guest = c.in-Some-index.guest; at = c.in-Some-due_at.at })) c.self.view_is next
