-- What was copied.
use Rattle.std.proofs.Common.{◌≡◌, ◌+◌, ◌-◌, ◌%◌, ℕ, length, take, drop, sym, ap, ◌∙◌, refl, subst, arith}
use Rattle.std.proofs.lemmas.List.{length-take}
use Rattle.apf_book.specs.RecentEvents.{RecentEventsView, AreRecentEventsOf}
use Rattle.apf_book.proofs.Noting.{kept_count, copies_late}
use Rattle.apf_book.proofs.recent_events.RecentEvents.copy.Goals as goal

pub returns : goal.returns
returns g c h is few = rw (← c.self.view_is) (
    let was = subst (λ (n : RecentEventsView). AreRecentEventsOf h n) (sym c.self.view_is) is in
    let kept : ℕ = c.len-kept.result in
    let all : ℕ = c.count.result in
    let first : ℕ = (all + (18446744073709551616 - kept)) % 18446744073709551616 in
    let many : ℕ = c.min-count.result in
    let room = length-take many c.args.into.now in
    let counted = c.count.ensures h is few in
    let long = kept_count h _ was in
    let first_is : first ≡ length h - kept = omega (arith, c.len-kept.ensures.len, counted, long, few) in
    copies_late h _ was kept first c.max-start.result c.min-skipped.result many c.args.into.now c.copy_run.new.into
    c.len-kept.ensures.len first_is c.min-skipped.ensures c.min-count.ensures (omega (arith, c.max-start.ensures))
    (c.copy_run.ensures.copied ∙ ap (λ (i : ℕ). take i (drop c.min-skipped.result c.self.inside.newest.items)) (room ∙ (omega (arith, c.min-count.ensures))))
    c.args.from (record { from = c.max-start.result; count = many }) c.max-start.ensures refl refl)
