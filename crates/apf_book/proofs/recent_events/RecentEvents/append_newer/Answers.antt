-- One event more is appended.
use Rattle.std.proofs.Common.{◌≡◌, ◌++◌, [], ◌∷◌, List, ℕ, None, inl, inr, map, length, take, rules, sym, ap, ap₂, ◌∙◌, subst, arith}
use Rattle.std.specs.Prelude.{slice_get, Some}
use Rattle.std.proofs.lemmas.Option.{get_or_from_slice_get, slice_get_cases}
use Rattle.std.proofs.lemmas.List.{map_more, take-map, take_all, length-map, length-take}
use Rattle.apf_history.specs.declared.events.Event.{Event}
use Rattle.apf_book.specs.declared.life_event.LifeEvent.{LifeEvent}
use Rattle.apf_book.specs.RecentEvents.{RecentEventsView, event_of, IsSmall}
use Rattle.apf_book.proofs.recent_events.RecentEvents.append_newer.Goals as goal

pub loop-i-init : goal.loop-i-init
loop-i-init g c = record {
  items = c.requires.begun ∙ (take-map event_of (length c.args.log.now.items) c.args.self.now.newest ∙ ap (λ (k : ℕ). map event_of (take k c.args.self.now.newest)) (let is : length c.args.log.now.items ≡ c.len-i.result = omega arith in is));
  capacity = search rules;
}

-- the event at this place
found : (newest : List LifeEvent) (kept : List LifeEvent) (i : ℕ) (e e' : LifeEvent) → newest ≡ kept → Some e ≡ slice_get newest i → e' ≡ e → slice_get kept i ≡ Some e'
found newest kept i e e' is there same = ap (λ (es : List LifeEvent). slice_get es i) (sym is) ∙ (sym there ∙ ap (λ (x : LifeEvent). Some x) (sym same))

pub plain-requires : goal.plain-requires
plain-requires g c =
    let kept = ap (λ (v : RecentEventsView). v.newest) c.self.view_is in
    let is = found c.self.inside.newest.items c.args.self.now.newest c.loop-i.i c.in-Some.row.now c.event.result kept c.in-Some.ensures c.event.ensures in
    let long = ap (λ (es : List LifeEvent). length es) kept in
    subst IsSmall (get_or_from_slice_get c.args.self.now.newest c.loop-i.i c.event.result c.event.result is)
    (c.requires.small c.loop-i.i c.event.result (omega (arith, c.loop-i-test.true, c.len-i-end.ensures.len, long)))

pub loop-i-preserved : goal.loop-i-preserved
loop-i-preserved g c =
    let was = c.loop-i.invariant in
    let kept = ap (λ (v : RecentEventsView). v.newest) c.self.view_is in
    let long = ap (λ (es : List LifeEvent). length es) kept in
    let is = found c.self.inside.newest.items c.args.self.now.newest c.loop-i.i c.in-Some.row.now c.event.result kept c.in-Some.ensures c.event.ensures in
    record {
      items = c.push_reserved.ensures.items ∙ (ap₂ (λ (xs : List Event) (e : Event). xs ++ e ∷ []) was.items (c.plain.ensures ∙ ap event_of (sym (get_or_from_slice_get c.args.self.now.newest c.loop-i.i c.event.result c.event.result is)))
          ∙ sym (map_more event_of c.args.self.now.newest c.loop-i.i c.event.result (omega (arith, c.loop-i-test.true, c.len-i-end.ensures.len, long))));
      capacity = search rules;
    }

pub unreachable-requires : goal.unreachable-requires
unreachable-requires g c = elim (slice_get_cases c.self.inside.newest.items c.loop-i.i).1 [
  | inl there ↦ (let bad : None ≡ Some there.0 = c.in_default.ensures ∙ there.2 in cc)
  | inr past ↦ omega (arith, past.0, c.loop-i-test.true, c.len-i-end.ensures.len)
]

pub push_reserved-requires : goal.push_reserved-requires
push_reserved-requires g c =
    let kept = ap (λ (v : RecentEventsView). v.newest) c.self.view_is in
    let long = ap (λ (es : List LifeEvent). length es) kept in
    let was = c.loop-i.invariant in
    let size : length c.loop-i.log.items ≡ length (map event_of (take c.loop-i.i c.args.self.now.newest)) = ap (λ (es : List Event). length es) was.items in
    let a = length-map (take c.loop-i.i c.args.self.now.newest) event_of in let b = length-take c.loop-i.i c.args.self.now.newest in
    let room = c.requires.room in
    let capacity = was.capacity in
    omega (arith, c.loop-i-test.true, c.len-i-end.ensures.len, long, size, a, b, room, capacity)

pub returns-clause-whole : goal.returns-clause-whole
returns-clause-whole g c =
    let long = ap (λ (v : RecentEventsView). length v.newest) c.self.view_is in
    c.loop-i.invariant.items ∙ ap (map event_of) (take_all c.loop-i.i c.args.self.now.newest (omega (arith, c.loop-i-test.false, c.len-i-end.ensures.len, long)))
