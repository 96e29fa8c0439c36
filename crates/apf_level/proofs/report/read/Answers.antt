use Rattle.std.proofs.Common.{rules, arith, ◌≡◌, ◌+◌, ◌<◌, ℕ, length, inl, inr, List, ◌∷◌, ◌++◌, [], Option, Some, None, sym, ap, ◌∙◌, subst}
use Rattle.std.specs.Prelude.{slice_get}
use Rattle.std.proofs.lemmas.Bool.{cases_lt}
use Rattle.std.proofs.lemmas.List.{get_or_past}
use Rattle.apf_words.specs.declared.decision.Decision.{Decision}
use Rattle.apf_book.specs.Laws.{decision_in}
use Rattle.apf_level.specs.declared.report.Counts.{Counts}
use Rattle.apf_level.specs.Reports.{AreSums}
use Rattle.apf_level.proofs.Sums.{in_words}
use Rattle.apf_level.proofs.Sums.{sums_more, get_push, get_past}
use Rattle.apf_level.proofs.report.read.Goals as goal

pub loop-request-preserved : goal.loop-request-preserved
loop-request-preserved c =
    let was = c.loop-request.invariant in
    let f : ℕ → Option Decision = decision_in c.args.words.now in
    let items : List Decision = c.loop-request.decisions.items in
    let d : Decision = c.in-Some.decision in
    let i : ℕ = c.loop-request.request in
    let is : f i ≡ Some d = in_words c.args.words.now i d c.in-Some.ensures in
    let pushed : c.push.new.self.items ≡ items ++ d ∷ [] = search rules in
    record {
      count = (let n = ap length pushed in let m = was.count in search (arith, rules));
      decisions = λ r low. ap (λ (l : List Decision). slice_get l r) pushed ∙ get_push items d f (λ k l. was.decisions k (subst (λ (n : ℕ). k < n) was.count l)) (ap f was.count ∙ is) r (subst (λ (n : ℕ). r < n + 1) (sym was.count) low);
      sums = subst (λ (k : Counts). AreSums k f (i + 1)) (sym c.add.ensures) (sums_more c.loop-request.counts f i d was.sums is);
    }

pub returns-clause-decisions : goal.returns-clause-decisions
returns-clause-decisions c = λ r.
    let was = c.loop-request.invariant in
    let end_ : c.loop-request.request ≡ c.args.count = (let a = c.loop-request.auto.request-end in let b = c.loop-request-test.false in omega arith) in
    elim (cases_lt r c.args.count) [
      | inl low ↦ was.decisions r (subst (λ (n : ℕ). r < n) (sym end_) low)
      | inr past ↦ get_past c.loop-request.decisions.items r (let a = was.count in omega arith) ∙ sym (get_or_past c.args.words.now.decisions r None (let a = c.requires.count in omega arith))
    ]
