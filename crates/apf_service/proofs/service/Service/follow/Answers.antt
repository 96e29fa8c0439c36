-- What was copied is all that is new, since there is room for all that is kept.
use Rattle.std.proofs.Common.{rules, ◌≡◌, ◌*◌, ◌^◌, ◌<◌, ℕ, List, length, sym, ap, ◌∙◌, subst}
use Rattle.apf_book.specs.declared.life_event.LifeEvent.{LifeEvent}
use Rattle.apf_service.specs.Lines.{AreEventsFrom}
use Rattle.apf_service.proofs.News.{all_new, written, as_long}
use Rattle.apf_service.proofs.service.Service.follow.Goals as goal

pub invariant_of-self : goal.invariant_of-self
invariant_of-self c =
    let old : List LifeEvent = c.args.self.now.room.items in
    let long : c.args.self.now.room.len ≡ length old = sym c.as_mut_slice-room.ensures.len ∙ ap (λ (es : List LifeEvent). length es) c.as_mut_slice-room.ensures.value in
    record {
      tallied = c.follow_all.ensures.tallied;
      room_for_new = as_long old c.copy_events-copied.new.into c.args.self.now.room.len long ∙ (c.args.self.now.room_for_new ∙ ap (λ (n : ℕ). 2 * n) (sym c.follow_all.ensures.count));
    }

pub returns-clause-events : goal.returns-clause-events
returns-clause-events c =
    let old : List LifeEvent = c.args.self.now.room.items in
    let new : List LifeEvent = c.copy_events-copied.new.into in
    let kept = c.args.self.now.level.owner.book.notes.capacity in
    let long : c.args.self.now.room.len ≡ length old = sym c.as_mut_slice-room.ensures.len ∙ ap (λ (es : List LifeEvent). length es) c.as_mut_slice-room.ensures.value in
    let room : length c.as_mut_slice-room.result.now ≡ kept = ap (λ (es : List LifeEvent). length es) c.as_mut_slice-room.ensures.value ∙ (c.args.self.now.room_for_new ∙ sym c.args.self.now.tallied.room) in
    let small : c.args.self.now.notes.seen < 2 ^ 64 = (search rules) in
    record {
      lived = c.has_a_history.ensures;
      of_each = λ v is few.
          let copies = c.copy_events-copied.ensures v is few in
          let same : length new ≡ length old = copies.room ∙ ap (λ (es : List LifeEvent). length es) c.as_mut_slice-room.ensures.value in
          subst (λ (log : List LifeEvent). AreEventsFrom c.args.self.now.notes.seen kept v log c.follow_all.new.notes.seen) (sym (written old new c.args.self.now.room.len c.min-count.result long same))
          (all_new kept c.args.self.now.notes.seen v c.as_mut_slice-room.result.now new c.copy_events-copied.result c.min-count.result c.follow_all.new.notes.seen room small few copies (search (long, same, rules)) (search rules));
    }
