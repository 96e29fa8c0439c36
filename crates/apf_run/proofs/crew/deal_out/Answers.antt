use Rattle.std.proofs.Common.{rules, arith, ◌≡◌, ℕ, ◌+◌, ◌<◌, ◌%◌, ◌∷◌, ◌++◌, [], List, length, get_or, set, ap, ◌∙◌, length-set}
use Rattle.std.specs.Prelude.{Some}
use Rattle.std.proofs.lemmas.List.{length_push}
use Rattle.std.proofs.lemmas.List.Elements.{All-set, All-pop}
use Rattle.apf_run.specs.Workers.{Load, IsFresh, held}
use Rattle.apf_run.proofs.Crews.{one_more_held}
use Rattle.apf_run.proofs.crew.deal_out.Goals as goal

pub loop-pass-preserved : goal.loop-pass-preserved
loop-pass-preserved g c =
    let was = c.loop-pass.invariant in
    let workers : List Load = c.loop-pass.workers.items in
    let at : ℕ = c.number.result % c.len-in-Some.result in
    let low : at < length workers = search rules in
    let old : Load = c.index_mut.result.now in
    let new : Load = c.add.new.self in
    let is : old ≡ get_or workers at old = search rules in
    let passes : length new.passes ≡ length old.passes + 1 = search rules in
    let dones : new.dones ≡ old.dones = search rules in
    let popped : c.loop-pass.passes.items ≡ c.pop.new.self.items ++ c.in-Some.pass ∷ [] = search rules in
    let shorter = ap length popped ∙ length_push c.pop.new.self.items c.in-Some.pass in
    let more : held (set workers at new) ≡ held workers + 1 = one_more_held workers at new old low (passes ∙ ap (λ (w : Load). length w.passes + 1) is) in (
      length-set workers at new ∙ was.0,
      omega (arith, more, shorter, was.1),
      (All-pop (IsFresh g.K.Naming.level.gate) c.loop-pass.passes.items c.pop.new.self.items (Some c.in-Some.pass) popped was.2).0,
      All-set (λ (w : Load). w.dones ≡ []) workers at new (dones ∙ ap (λ (w : Load). w.dones) is ∙ was.3 at old low) was.3,
    )
