-- The events that were copied into a room for all that are kept are all the new ones.
use Rattle.std.proofs.Common.{◌≡◌, ℕ, ◌+◌, ◌-◌, ◌^◌, ◌<◌, ◌≤◌, List, ◌++◌, length, map, take, drop, reverse, sym, ap, ◌∙◌, arith}
use Rattle.std.specs.Prelude.{min}
use Rattle.std.proofs.lemmas.List.{take_all, length-append, length-drop, length-reverse, length-take, take-append-le}
use Rattle.std.proofs.Math.Seq.{take-length}
use Rattle.apf_book.specs.declared.life_event.LifeEvent.{LifeEvent}
use Rattle.apf_book.specs.declared.recent_events.Copied.{Copied}
use Rattle.apf_book.specs.Life.{LifeView}
use Rattle.apf_book.specs.RecentEvents.{event_of, CopiesLate}
use Rattle.apf_service.specs.Lines.{AreEventsFrom}

pub all_new : (kept from : ℕ) (v : LifeView) (room room' : List LifeEvent) (copied : Copied) (count next : ℕ) → length room ≡ kept → from < 2 ^ 64 → length v.history < 2 ^ 64 → CopiesLate kept v.history from room copied room'
    → count ≡ min copied.count (length room') → next ≡ min (copied.from + count) (2 ^ 64 - 1) → AreEventsFrom from kept v (take count room') next
all_new kept from v room room' copied count next all small few copies count_is next_is =
    let start = copies.start in
    let told = copies.count_is in
    let long = copies.room in
    let rest : length (drop copied.from (reverse v.history)) ≡ length v.history - copied.from = length-drop copied.from (reverse v.history) ∙ ap (λ (n : ℕ). n - copied.from) (length-reverse v.history) in
    let same : count ≡ copied.count = omega (arith, count_is, told, long) in
    let whole : length (drop copied.from (reverse v.history)) ≤ copied.count = omega (arith, rest, told, start, all) in
    record {
      events = ap (λ (n : ℕ). map event_of (take n room')) same ∙ (copies.copied ∙ (take_all copied.count (drop copied.from (reverse v.history)) whole ∙ ap (λ (n : ℕ). drop n (reverse v.history)) start));
      next_is = omega (arith, next_is, same, told, start, all, small, few);
    }

-- what a vector has whose slice was written, as far as it was
pub written : (old new : List LifeEvent) (len count : ℕ) → len ≡ length old → length new ≡ length old → take count (take len (new ++ drop (length new) old)) ≡ take count new
written old new len count is same =
    ap (λ (es : List LifeEvent). take count es) (ap (λ (n : ℕ). take n (new ++ drop (length new) old)) (is ∙ sym same) ∙ (take-append-le (length new) new (drop (length new) old) (omega arith) ∙ take-length new))

pub as_long : (old new : List LifeEvent) (len : ℕ) → len ≡ length old → length (take len (new ++ drop (length new) old)) ≡ length old
as_long old new len is = length-take len (new ++ drop (length new) old) ∙ (let a = length-append new (drop (length new) old) in let d = length-drop (length new) old in omega (arith, a, d, is))
