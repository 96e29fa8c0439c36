-- One queue more.
use Rattle.std.proofs.Common.{◌≡◌, ℕ, ◌<◌, List, ap, ◌∙◌, subst, arith}
use Rattle.std.specs.Prelude.{◌==◌, ◌&&◌, nat_lt, not, max, slice_index, if◌then◌else◌}
use Rattle.apf_bound.specs.Pairs.{cell}
use Rattle.apf_bound.specs.Stretched.{is_passed, raised}
use Rattle.apf_bound.proofs.Steps.{one_more, not_yet}
use Rattle.apf_bound.proofs.stretches.Stretches.pass_all.Goals as goal

pub loop-busy-preserved : goal.loop-busy-preserved
loop-busy-preserved c =
    let i = c.loop-busy.invariant in let e = c.pass.ensures in
    let by = c.args.by in let old = c.args.self.now in let other = c.args.other in let busy = c.loop-busy.busy in
    record {
      queues = e.queues ∙ i.queues;
      waiting = e.waiting ∙ i.waiting;
      waited = e.waited ∙ i.waited;
      ahead = λ a b low low'.
          let inside : b < c.loop-busy.self.queues = (let q = i.queues in omega arith) in
          let more = subst (λ (ws : List ℕ). cell c.pass.new.self.ahead a b ≡ (if (a == busy) && ((b == other) && (not (a == other) && nat_lt 0 (slice_index ws a))) then raised by (cell c.loop-busy.self.ahead a b) else cell c.loop-busy.self.ahead a b)) i.waiting (e.ahead a b inside) in
          one_more busy a (is_passed old other a b) (raised by (cell old.ahead a b)) (cell c.loop-busy.self.ahead a b) (cell old.ahead a b) (cell c.pass.new.self.ahead a b) (raised by (cell c.loop-busy.self.ahead a b)) (i.ahead a b low low') more
          (λ same. ap (raised by) (not_yet busy a (is_passed old other a b) (raised by (cell old.ahead a b)) (cell c.loop-busy.self.ahead a b) (cell old.ahead a b) (i.ahead a b low low') same));
      most = λ a b low low'.
          let inside : b < c.loop-busy.self.queues = (let q = i.queues in omega arith) in
          let p = is_passed old other a b in
          let did = max (cell old.most a b) (raised by (cell old.ahead a b)) in
          let did' = max (cell c.loop-busy.self.most a b) (raised by (cell c.loop-busy.self.ahead a b)) in
          let more = subst (λ (ws : List ℕ). cell c.pass.new.self.most a b ≡ (if (a == busy) && ((b == other) && (not (a == other) && nat_lt 0 (slice_index ws a))) then did' else cell c.loop-busy.self.most a b)) i.waiting (e.most a b inside) in
          one_more busy a p did (cell c.loop-busy.self.most a b) (cell old.most a b) (cell c.pass.new.self.most a b) did' (i.most a b low low') more
          (λ same. ap (λ (n : ℕ). max n (raised by (cell c.loop-busy.self.ahead a b))) (not_yet busy a p did (cell c.loop-busy.self.most a b) (cell old.most a b) (i.most a b low low') same)
          ∙ ap (λ (n : ℕ). max (cell old.most a b) (raised by n)) (not_yet busy a p (raised by (cell old.ahead a b)) (cell c.loop-busy.self.ahead a b) (cell old.ahead a b) (i.ahead a b low low') same));
    }
