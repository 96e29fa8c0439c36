-- A request that is cancelled left its queue.
use Rattle.std.proofs.Common.{rules, ◌≡◌, ◌≢◌, List, set, Option, Some, sym, ap, ◌∙◌, subst}
use Rattle.std.specs.Prelude.{slice_get}
use Rattle.apf_words.specs.declared.decision.Decision.{Decision}
use Rattle.apf_words.specs.declared.decision.Decision.TheVariants.{Execute}
use Rattle.apf_gate.specs.Tokens.{PassToken}
use Rattle.apf_local.specs.declared.answer.Place.TheVariants as places
use Rattle.apf_local.specs.Tries.{place_by}
use Rattle.apf_local.proofs.Hearing.{GoesOnFrom, goes_on_then}
use Rattle.apf_local.proofs.Told.{free_by}
use Rattle.apf_local.proofs.Logging.{struck_on}
use Rattle.apf_local.proofs.Places.{set_again}
use Rattle.apf_local.proofs.Slots.{owner_then, get_same}
use Rattle.apf_local.proofs.reading.read_place.Goals as goal

pub returns-in-Some : goal.returns-in-Some
returns-in-Some c =
    let i = c.args.slot in
    let ps = c.args.owner.now.passes in
    let reads = c.read.ensures.reads in
    let leaves = c.withdraw.ensures.leaves in
    let same : leaves.before ≡ reads.after = get_same ps i reads.after leaves.before (subst (λ (xs : List PassToken). slice_get xs i ≡ Some leaves.before) reads.now leaves.was) in
    let is : c.read.result ≡ Some c.in-Some._decision = (search rules) in
    let not : c.in-Some._decision ≢ Execute = (search rules) in
    record {
      same = owner_then c.args.owner.now c.read.new.self c.withdraw.new.self c.read.ensures.same c.withdraw.ensures.same;
      reads = record {
        before = reads.before;
        after = leaves.after;
        was = reads.was;
        now = leaves.now ∙ (ap (λ (xs : List PassToken). set xs i leaves.after) reads.now ∙ set_again ps i reads.after leaves.after);
        does = record {
          number = leaves.does.number ∙ (ap (λ (t : PassToken). t.pass.number) same ∙ reads.does.number);
          is = leaves.does.is;
          found = c.read.result;
          says = subst (λ (x : Option Decision). places.Free ≡ place_by x) (sym is) (free_by c.in-Some._decision not);
          heard = reads.does.heard;
          hears = reads.does.hears;
          between = reads.does.between;
          loads = reads.does.loads;
          goes_on = goes_on_then reads.does.between.knows.trace reads.after.pass.knows.trace leaves.after.pass.knows.trace reads.does.goes_on (subst (λ (t : PassToken). GoesOnFrom t.pass.knows.trace leaves.after.pass.knows.trace) same leaves.does.goes_on);
          over = λ free. leaves.does.told;
        };
      };
      operators = c.withdraw.ensures.operators ∙ c.read.ensures.operators;
      decided = λ t at is waits. (let z : places.Free ≡ places.Waits = waits in cc);
      history = λ v kept. let s = c.withdraw.ensures.history v (c.read.ensures.history v kept) in struck_on v c.withdraw.new.self.book s.0 s.1;
    }
