use Rattle.std.proofs.Common.{rules, arith, ◌≡◌, ℕ, ◌<◌, ◌≤◌, Option, List, length, map, sym, ap, ◌∙◌, subst}
use Rattle.std.specs.Prelude.{slice_get}
use Rattle.apf_words.specs.declared.decision.Decision.{Decision}
use Rattle.apf_words.specs.Limits.{max_requests}
use Rattle.atomic_table.specs.Seated.{TableId}
use Rattle.apf_gate.specs.Tokens.{GateId, PassToken}
use Rattle.apf_gate.specs.Ends.{WordsView}
use Rattle.apf_book.specs.Laws.{decision_in}
use Rattle.apf_level.specs.Levels.{LevelId, IsLevelOf}
use Rattle.apf_level.specs.Heard.{Outcome, outcome_of}
use Rattle.apf_level.specs.Reports.{AreSums}
use Rattle.apf_level.proofs.Outcomes.{all_same, same_length, ended_same}
use Rattle.apf_level.proofs.level.Level.end.Goals as goal

same_map : (w : WordsView) (ds : List Decision) → ((r : ℕ) → slice_get ds r ≡ decision_in w r) → decision_in w ≡ slice_get ds
same_map w ds h = λ i r. sym (h r) i

-- as many Passes as requests, of which there are not too many
as_many : (ps ds : List PassToken) (n : ℕ) → map outcome_of ps ≡ map outcome_of ds → length ds ≡ n → length ps ≡ n
as_many ps ds n same all = same_length ps ds same ∙ all

counted : (k : LevelId) (gate : GateId) (read : TableId) (n : ℕ) (ps ds : List PassToken) → IsLevelOf k gate read → n ≡ length ps → map outcome_of ps ≡ map outcome_of ds → length ds ≡ length k.gate.shape.widths
    → (n ≡ length k.gate.shape.widths) × (n ≤ max_requests)
counted k gate read n ps ds own is same all =
    let whole : n ≡ length k.gate.shape.widths = is ∙ as_many ps ds (length k.gate.shape.widths) same all in
    let few = own.shape.few_slots in
    let batch = own.batch in
    let gates = ap (λ (x : GateId). length x.shape.widths) own.same in
    (whole, omega arith)

pub overflow_cast-count : goal.overflow_cast-count
overflow_cast-count g c = let few = (counted g.K.Naming.level c.self.inside.gate c.self.inside.window c.len-count.result c.in_ok-passes.passes.items c.args.dones.items c.self.invariant (search rules) c.in_ok-passes.ensures.same c.requires.all_passes).1 in omega arith

pub finish-requires-clause-all : goal.finish-requires-clause-all
finish-requires-clause-all g c κs within = record {
  own_passes = all_same c.args.dones.items c.in_ok-passes.passes.items (sym c.in_ok-passes.ensures.same) (λ (o : Outcome). o.gate ≡ g.K.Naming.level.gate) c.requires.own_passes;
  own_stations = c.requires.own_stations;
  all_passes = as_many c.in_ok-passes.passes.items c.args.dones.items (length g.K.Naming.level.gate.shape.widths) c.in_ok-passes.ensures.same c.requires.all_passes;
  all_stations = c.requires.all_stations;
}

pub read-requires-clause-count : goal.read-requires-clause-count
read-requires-clause-count g c = (counted g.K.Naming.level c.self.inside.gate c.self.inside.window c.len-count.result c.in_ok-passes.passes.items c.args.dones.items c.self.invariant (search rules) c.in_ok-passes.ensures.same c.requires.all_passes).0 ∙ sym c.in_ok-words.ensures.finished.count

pub read-requires-clause-few : goal.read-requires-clause-few
read-requires-clause-few g c = (counted g.K.Naming.level c.self.inside.gate c.self.inside.window c.len-count.result c.in_ok-passes.passes.items c.args.dones.items c.self.invariant (search rules) c.in_ok-passes.ensures.same c.requires.all_passes).1

pub read-requires-clause-decided : goal.read-requires-clause-decided
read-requires-clause-decided g c = λ r low. c.in_ok-words.ensures.finished.ended.all_decided r (subst (λ n. r < n) (counted g.K.Naming.level c.self.inside.gate c.self.inside.window c.len-count.result c.in_ok-passes.passes.items c.args.dones.items c.self.invariant (search rules) c.in_ok-passes.ensures.same c.requires.all_passes).0 low)

pub returns-clause-ended : goal.returns-clause-ended
returns-clause-ended g c =
    let w = c.in_ok-words.words in
    let decisions : List Decision = c.in_ok-decisions.decisions.items in
    ended_same g.K.Naming.level w.level c.level.result (decision_in w) (slice_get decisions) _ c.in_ok-passes.passes.items c.args.dones.items c.args.stations.items c.in_ok-passes.ensures.same c.in_ok-passes.ensures.go_on
    c.level.ensures (same_map w decisions c.in_ok-decisions.ensures.decisions) c.in_ok-words.ensures.finished.ended

pub returns-clause-count : goal.returns-clause-count
returns-clause-count g c = c.in_ok-decisions.ensures.count ∙ (counted g.K.Naming.level c.self.inside.gate c.self.inside.window c.len-count.result c.in_ok-passes.passes.items c.args.dones.items c.self.invariant (search rules) c.in_ok-passes.ensures.same c.requires.all_passes).0

pub returns-clause-sums : goal.returns-clause-sums
returns-clause-sums g c =
    let w = c.in_ok-words.words in
    let decisions : List Decision = c.in_ok-decisions.decisions.items in
    subst (λ (n : ℕ). AreSums c.in_ok-decisions.counts (slice_get decisions) n) (sym c.in_ok-decisions.ensures.count)
    (subst (λ (f : ℕ → Option Decision). AreSums c.in_ok-decisions.counts f c.len-count.result) (same_map w decisions c.in_ok-decisions.ensures.decisions) c.in_ok-decisions.ensures.sums)
