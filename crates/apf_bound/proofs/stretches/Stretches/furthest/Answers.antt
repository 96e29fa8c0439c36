-- One queue more.
use Rattle.std.proofs.Common.{◌≡◌, ◌+◌, Bool, false, Option, ap, sym, ◌∙◌, subst, arith}
use Rattle.std.specs.Prelude.{slice_index_or}
use Rattle.apf_bound.specs.declared.furthest.Furthest.{Furthest}
use Rattle.apf_bound.specs.Pairs.{cell}
use Rattle.apf_bound.specs.Stretched.{StretchesView, IsBestOf, IsPairBelow}
use Rattle.apf_bound.proofs.Steps.{never, all}
use Rattle.apf_bound.proofs.stretches.Stretches.furthest.Goals as goal
use Rattle.apf_bound.proofs.stretches.Stretches.furthest.Goals.{then-index, else-index}

pub loop-busy-preserved : goal.loop-busy-preserved
loop-busy-preserved c =
    let s = c.args.self.now in let busy = c.loop-busy.busy in
    elim c.if-index.branch [
      | then-index w ↦ subst (λ (o : Option Furthest). IsBestOf (cell s.most) (IsPairBelow s (busy + 1)) o) (sym w.best-is) w.further-best.ensures
      | else-index w ↦ (
          let none = ap (λ (b : Bool). slice_index_or c.self.inside.waited.items busy b) (sym w.if-index.false) in
          let is : slice_index_or s.waited busy false ≡ false =
          ap (λ (v : StretchesView). slice_index_or v.waited busy false) (sym c.self.view_is) ∙ (none ∙ (sym c.index.ensures ∙ w.if-index.false)) in
          subst (λ (o : Option Furthest). IsBestOf (cell s.most) (IsPairBelow s (busy + 1)) o) (sym w.best-is) (never (cell s.most) s busy is c.loop-busy.best c.loop-busy.invariant))
    ]

pub returns : goal.returns
returns c =
    let queues = ap (λ (v : StretchesView). v.queues) c.self.view_is in
    all (cell c.args.self.now.most) c.args.self.now c.loop-busy.busy (let out = c.loop-busy-test.false in let most = c.loop-busy.auto.busy-end in omega arith) c.loop-busy.best c.loop-busy.invariant
