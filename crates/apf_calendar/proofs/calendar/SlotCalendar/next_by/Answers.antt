use Rattle.std.proofs.Common.{Option, Some, sym, subst, ◌∙◌, ap, arith}
use Rattle.std.proofs.lemmas.Option.{slice_get_within}
use Rattle.apf_calendar.specs.declared.guest.Guest.{Guest}
use Rattle.apf_calendar.specs.Guests.{SlotsView, IsNext, NothingBy, then_of, with_slot}
use Rattle.apf_calendar.proofs.Firsts.{next_kept, next_later, next_then, none_by}
use Rattle.apf_calendar.proofs.calendar.SlotCalendar.next_by.Goals as goal

pub returns-in_default-clause-none : goal.returns-in_default-clause-none
returns-in_default-clause-none g c = c.in_default.ensures.none c.args.by

pub returns-then-by-carried-clause-none : goal.returns-then-by-carried-clause-none
returns-then-by-carried-clause-none g c =
    let s = c.self.inside in
    let v : SlotsView = record { time = s.time; patience = s.patience; slots = s.slots.items } in
    let next : IsNext v c.in-Some.carried = subst (λ (w : SlotsView). IsNext w c.in-Some.carried) (sym c.self.view_is) c.in-Some.ensures.some in
    subst (λ (w : SlotsView). NothingBy w c.args.by) c.self.view_is (none_by v s.dues s.frees c.self.invariant c.in-Some.carried next c.args.by c.if-by-carried.true)

pub invariant_of-self : goal.invariant_of-self
invariant_of-self g c =
    let s = c.self.inside in
    let v : SlotsView = record { time = s.time; patience = s.patience; slots = s.slots.items } in
    let next : IsNext v c.in-Some.carried = subst (λ (w : SlotsView). IsNext w c.in-Some.carried) (sym c.self.view_is) c.in-Some.ensures.some in
    next_kept v s.dues s.frees c.self.invariant c.in-Some.carried next

pub put-requires-clause-is_slot : goal.put-requires-clause-is_slot
put-requires-clause-is_slot g c =
    let s = c.self.inside in
    let v : SlotsView = record { time = s.time; patience = s.patience; slots = s.slots.items } in
    let next : IsNext v c.in-Some.carried = subst (λ (w : SlotsView). IsNext w c.in-Some.carried) (sym c.self.view_is) c.in-Some.ensures.some in
    slice_get_within s.slots.items c.in-Some.carried.slot (Some c.in-Some.carried.guest) next.first.here

pub put-requires-clause-kept : goal.put-requires-clause-kept
put-requires-clause-kept g c h e =
    let s = c.self.inside in
    let v : SlotsView = record { time = s.time; patience = s.patience; slots = s.slots.items } in
    let next : IsNext v c.in-Some.carried = subst (λ (w : SlotsView). IsNext w c.in-Some.carried) (sym c.self.view_is) c.in-Some.ensures.some in
    next_then v s.dues s.frees c.self.invariant c.in-Some.carried next h (sym c.then.ensures ∙ e)

pub returns-clause-some : goal.returns-clause-some
returns-clause-some g c = record {
  next = c.in-Some.ensures.some;
  in_time = c.if-by-carried.false;
  then =
      let v : SlotsView = record { time = c.self.inside.time; patience = c.self.inside.patience; slots = c.self.inside.slots.items } in
      let at = c.in-Some.carried.at in
      let slot = c.in-Some.carried.slot in
      c.put.ensures
      ∙ ap (λ (x : Option Guest). with_slot (record { time = at; patience = v.patience; slots = v.slots }) slot x) c.then.ensures
      ∙ ap (λ (w : SlotsView). with_slot (record { time = at; patience = w.patience; slots = w.slots }) slot (then_of c.in-Some.carried.guest)) c.self.view_is;
}

pub returns-clause-forward : goal.returns-clause-forward
returns-clause-forward g c =
    let s = c.self.inside in
    let v : SlotsView = record { time = s.time; patience = s.patience; slots = s.slots.items } in
    let next : IsNext v c.in-Some.carried = subst (λ (w : SlotsView). IsNext w c.in-Some.carried) (sym c.self.view_is) c.in-Some.ensures.some in
    let later = next_later v s.dues s.frees c.self.invariant c.in-Some.carried next in
    let was = ap (λ (w : SlotsView). w.time) c.self.view_is in
    let now = ap (λ (w : SlotsView). w.time) c.put.ensures in
    omega arith
