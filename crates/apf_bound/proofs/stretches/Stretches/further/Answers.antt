-- One pair more.
use Rattle.std.proofs.Common.{◌≡◌, ◌<◌, ℕ, ◌+◌, Option, Some, ap, sym, ◌∙◌, subst, arith}
use Rattle.apf_bound.specs.declared.furthest.Furthest.{Furthest}
use Rattle.apf_bound.specs.Pairs.{cell}
use Rattle.apf_bound.specs.Stretched.{StretchesView, IsBestOf, IsPairUntil, further_of}
use Rattle.apf_bound.proofs.Steps.{begun, skipped, compared, ended}
use Rattle.apf_bound.proofs.stretches.Stretches.further.Goals as goal
use Rattle.apf_bound.proofs.stretches.Stretches.further.Goals.{then-other-busy, else-other-busy}

pub loop-other-init : goal.loop-other-init
loop-other-init c = begun (cell c.args.self.now.most) c.args.self.now c.args.busy c.args.best c.requires.best

pub loop-other-preserved : goal.loop-other-preserved
loop-other-preserved c =
    let s = c.args.self.now in let low = c.args.busy in let until = c.loop-other.other in let before = c.loop-other.invariant in
    let number = cell s.most in
    let queues = ap (λ (v : StretchesView). v.queues) c.self.view_is in
    let in_until : until < s.queues = (let inside = c.loop-other-test.true in omega arith) in
    elim c.if-other-busy.branch [
      | then-other-busy w ↦ (
          let is = w.get-ahead.ensures ∙ ap (λ (v : StretchesView). cell v.most low until) c.self.view_is in
          let one = w.further_of.ensures ∙ ap (λ (n : ℕ). further_of c.loop-other.best (record { busy = low; other = until; ahead = n })) is in
          subst (λ (o : Option Furthest). IsBestOf number (IsPairUntil s low (until + 1)) o) (sym (w.best-is ∙ ap (λ (f : Furthest). Some f) one))
          (compared number s low until c.requires.busy in_until w.if-other-busy.true c.requires.waited c.loop-other.best before))
      | else-other-busy w ↦ subst (λ (o : Option Furthest). IsBestOf number (IsPairUntil s low (until + 1)) o) (sym w.best-is)
          (skipped number s low until w.if-other-busy.false c.loop-other.best before)
    ]

pub returns : goal.returns
returns c =
    let s = c.args.self.now in
    let queues = ap (λ (v : StretchesView). v.queues) c.self.view_is in
    let is : c.loop-other.other ≡ s.queues = (let out = c.loop-other-test.false in let most = c.loop-other.auto.other-end in omega arith) in
    ended (cell s.most) s c.args.busy c.loop-other.best
    (subst (λ (q : ℕ). IsBestOf (cell s.most) (IsPairUntil s c.args.busy q) c.loop-other.best) is c.loop-other.invariant)
