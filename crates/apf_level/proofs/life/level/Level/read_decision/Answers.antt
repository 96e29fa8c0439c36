-- A request that waited and is over was cancelled.
use Rattle.std.proofs.Common.{rules, ◌≡◌, ◌∙◌, ◌++◌, List, Option, Some, sym, ap}
use Rattle.std.proofs.lemmas.List.{append_assoc}
use Rattle.apf_gate.specs.declared.record.Entry.{Entry}
use Rattle.apf_words.specs.declared.decision.Decision.{Decision}
use Rattle.apf_words.specs.declared.decision.Decision.TheVariants.{Cancelled}
use Rattle.apf_gate.specs.Records.{told_own}
use Rattle.apf_gate.specs.PassSteps.{PassLoadsDecision}
use Rattle.apf_level.proofs.life.level.Level.read_decision.Goals as goal

some_is : (a b : Decision) → ◌≡◌ {A = Option Decision} (Some a) (Some b) → a ≡ b
some_is a b is = cc

pub returns-in-Some : goal.returns-in-Some
returns-in-Some g c =
    let between = c.told.new.pass in
    let told_more = c.told.ensures.same.more.trace in
    let told : told_own between.pass ≡ Some c.in-Some.decision = search rules in
    let loads : PassLoadsDecision c.args.pass.now.pass (Some c.in-Some.decision) between.pass = search rules in
    record {
      left = search rules;
      same = record {
        gate = c.withdraw.ensures.same.gate ∙ c.told.ensures.same.gate;
        number = c.withdraw.ensures.same.number ∙ c.told.ensures.same.number;
      };
      answer = (
        (between.pass, loads),
        some_is c.in-Some.decision Cancelled (sym told ∙ (sym c.withdraw.ensures.told ∙ c.withdraw.ensures.cancelled)),
        c.withdraw.ensures.told ∙ told,
        c.withdraw.ensures.left,
      );
      goes_on = (
        c.withdraw.ensures.goes_on.0 ++ told_more.0,
        append_assoc c.withdraw.ensures.goes_on.0 told_more.0 c.args.pass.now.pass.knows.trace
            ∙ (ap (λ (es : List Entry). c.withdraw.ensures.goes_on.0 ++ es) (sym told_more.1) ∙ c.withdraw.ensures.goes_on.1),
      );
    }
