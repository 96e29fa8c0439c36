-- What is copied from the first place on of a history that is short enough is all of it.
use Rattle.std.proofs.Common.{◌≡◌, ℕ, ◌*◌, ◌≤◌, ◌++◌, List, length, take, drop, sym, ap, ◌∙◌, subst, arith}
use Rattle.std.specs.Prelude.{map}
use Rattle.std.proofs.Math.Seq.{take-append_seam}
use Rattle.apf_book.specs.declared.life_event.LifeEvent.{LifeEvent}
use Rattle.apf_book.specs.LifeBook.{IsLifeKept}
use Rattle.apf_book.specs.RecentEvents.{event_of, CopiesLate}
use Rattle.apf_local.specs.Levels.{LocalView}
use Rattle.apf_run.proofs.Batching.{all_copied}
use Rattle.apf_run.proofs.batch.Batch.all.Goals as goal

pub returns : goal.returns
returns c = λ v kept room few small.
    let l : LocalView = c.self.inside.level in
    let same : l ≡ c.args.self.now = c.self.view_is in
    let into : List LifeEvent = c.as_mut_slice.result.now in
    let after : List LifeEvent = c.copy_events-count.new.into in
    let count : ℕ = c.copy_events-count.result.count in
    let rest : List LifeEvent = drop (length after) c.in_ok-newest.newest.items in
    let passes : length l.places ≡ length l.owner.passes = c.each_slot_has_a_pass.ensures in
    let capacity : l.owner.book.notes.capacity ≡ 2 * length l.owner.passes = subst (λ (x : LocalView). x.owner.book.notes.capacity ≡ 2 * length x.owner.passes) (sym same) room in
    let short : length v.history ≤ 2 * length l.owner.passes = subst (λ (x : LocalView). length v.history ≤ 2 * length x.owner.passes) (sym same) few in
    let little : length l.owner.passes ≤ 10000 = subst (λ (x : LocalView). length x.owner.passes ≤ 10000) (sym same) small in
    let copies : CopiesLate l.owner.book.notes.capacity v.history 0 into c.copy_events-count.result after = c.copy_events-count.ensures v (subst (λ (x : LocalView). IsLifeKept v x.owner.book) (sym same) kept) (omega arith) in
    let long : length into ≡ 2 * length l.places = (let a = c.as_mut_slice.ensures.len in let b = c.in_ok-newest.ensures.len in let s = c.slots-room.ensures in omega arith) in
    let whole : c.in_ok-newest.newest.len ≡ length after = (let a = c.as_mut_slice.ensures.len in let r = copies.room in omega arith) in
    let items : c.truncate.new.self.items ≡ take count after =
    c.truncate.ensures.items ∙ ap (take count) (ap (λ (n : ℕ). take n (after ++ rest)) whole ∙ take-append_seam after rest) in
    ap (map event_of) items ∙ all_copied l.owner.book.notes.capacity v.history into after c.copy_events-count.result copies (omega arith) (omega arith)
