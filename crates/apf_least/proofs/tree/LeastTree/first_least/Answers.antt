use Rattle.std.proofs.Common.{◌<◌, ◌≤◌, ℕ, List, length, get_or, sym, subst, arith}
use Rattle.apf_least.specs.Least.{no_number}
use Rattle.apf_least.proofs.Nodes.{none_there, round_from, first_least_is}
use Rattle.apf_least.proofs.tree.LeastTree.first_least.Goals as goal

pub returns-then-least-ge-NO_NUMBER-clause-none : goal.returns-then-least-ge-NO_NUMBER-clause-none
returns-then-least-ge-NO_NUMBER-clause-none g c =
    let s = c.self.inside in
    rw (← c.self.view_is) (none_there s.leaves s.least.items c.self.invariant (subst (λ (xs : List ℕ). no_number ≤ get_or xs 1 0) c.deref-least.ensures.value c.if-least-ge-NO_NUMBER.true))

pub overflow_sub-result : goal.overflow_sub-result
overflow_sub-result g c =
    let s = c.self.inside in
    let from = subst (λ (v : List ℕ). c.args.from < length v) (sym c.self.view_is) c.requires in
    (round_from s.leaves s.least.items c.self.invariant c.args.from c.first_round-leaf.result c.deref-least.result.now c.deref-least.ensures.value from c.first_round-leaf.ensures).is_leaf

pub overflow_cast-result : goal.overflow_cast-result
overflow_cast-result g c =
    let s = c.self.inside in
    let from = subst (λ (v : List ℕ). c.args.from < length v) (sym c.self.view_is) c.requires in
    let round = round_from s.leaves s.least.items c.self.invariant c.args.from c.first_round-leaf.result c.deref-least.result.now c.deref-least.ensures.value from c.first_round-leaf.ensures in
    let within = round.within in
    let few = c.self.invariant.few in
    omega arith

pub returns-clause-some : goal.returns-clause-some
returns-clause-some g c =
    let s = c.self.inside in
    let from = subst (λ (v : List ℕ). c.args.from < length v) (sym c.self.view_is) c.requires in
    let round = round_from s.leaves s.least.items c.self.invariant c.args.from c.first_round-leaf.result c.deref-least.result.now c.deref-least.ensures.value from c.first_round-leaf.ensures in
    let waits = subst (λ (xs : List ℕ). get_or xs 1 0 < no_number) c.deref-least.ensures.value c.if-least-ge-NO_NUMBER.false in
    rw (← c.self.view_is) (first_least_is s.leaves s.least.items c.self.invariant c.args.from c.first_round-leaf.result from waits round)
