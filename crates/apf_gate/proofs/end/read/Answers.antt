use Rattle.std.proofs.Common.{rules, ◌+◌, ◌<◌, [], ◌∷◌, ◌++◌, Some, arith, refl, sym, ap, ◌∙◌, subst}
use Rattle.std.specs.Prelude.{slice_get, slice_index}
use Rattle.std.specs.Mem.Slots.{slots_items}
use mathlib.Core.Logic.{dite}
use native.Mathlib.Decide.{ℕ_discrete}
use Rattle.apf_gate.proofs.Gathering.{found_at, snoc_front, snoc_last}
use Rattle.apf_gate.proofs.end.read.Goals as goal

pub loop-r-preserved : goal.loop-r-preserved
loop-r-preserved g c =
    let i = c.loop-r.invariant in
    let xs = c.loop-r.decisions.items in
    let x = c.decision_in.result in
    let word = found_at (slots_items c.args.closed.words) (c.loop-r.r + 1) c.word-in-loop-r.result 0 c.word-in-loop-r.ensures in record {
      same = refl;
      count = search rules;
      decided = λ r m d l e. ap (λ ys. slice_get ys r) c.push_reserved.ensures.items ∙ dite (ℕ_discrete r c.loop-r.r)
          (λ y. ap (λ k. slice_get (xs ++ x ∷ []) k) (y ∙ sym i.count) ∙ (snoc_last xs x ∙ ap Some (c.decision_in.ensures m d (sym word ∙ (ap (λ k. slice_index (slots_items c.args.closed.words) (k + 1)) (sym y) ∙ e)))))
          (λ ne. let below : r < c.loop-r.r = omega arith in snoc_front xs x r (subst (λ k. r < k) (sym i.count) below) ∙ i.decided r m d below e);
      room = search rules;
    }

pub returns-clause-decisions : goal.returns-clause-decisions
returns-clause-decisions g c = λ r m d l e. c.loop-r.invariant.decided r m d (let z = c.loop-r-test.false in omega arith) e
