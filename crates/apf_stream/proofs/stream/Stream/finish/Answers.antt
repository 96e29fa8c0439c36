-- The seats went back, and the slot is free by both.
use Rattle.std.proofs.Common.{◌<◌, [], ◌∷◌, length, refl, subst, arith}
use Rattle.std.proofs.lemmas.Option.{slice_get_read}
use Rattle.apf_local.specs.declared.answer.Answer.{Answer}
use Rattle.apf_local.specs.Levels.{IsFinish}
use Rattle.apf_stream.specs.Deeds.{served}
use Rattle.apf_stream.specs.States.{State, state_of}
use Rattle.apf_stream.proofs.Places.{finish_sets}
use Rattle.apf_stream.proofs.Readings.{returned_tied}
use Rattle.apf_stream.proofs.stream.Stream.finish.Goals as goal

pub returns-clause-returns : goal.returns-clause-returns
returns-clause-returns c =
    let s : State = state_of c.args.self.now in
    let slot = c.args.carried.slot in
    let is = c.requires.returning in
    let e = c.finish.ensures in
    let sets = finish_sets slot s.level c.finish.new.self.level c.finish.result.0 e.finishes is.place in
    let low : slot < length s.holds = let a = is.but.inside in let b = is.but.count.holds in omega arith in
    let hold = c.index-hold.result.now in
    record {
      told = served hold c.args.since c.args.carried.at ∷ [];
      returns = record {
        call = subst (λ (a : Answer). IsFinish slot s.level a c.finish.new.self.level) sets.0 e.finishes;
        settled = c.finish.result.1;
        settles = e.settles sets.0;
        same = e.same;
        operators = e.operators;
        slots = refl;
        hold = hold;
        noted = slice_get_read s.holds (length s.holds) slot hold refl low c.index-hold.ensures;
        told_is = refl;
        holds = refl;
        charges = c.learn.ensures;
      };
      told_are = c.in_ok-tell.ensures;
    }

pub returns-clause-tied : goal.returns-clause-tied
returns-clause-tied c =
    let s : State = state_of c.args.self.now in
    let slot = c.args.carried.slot in
    let is = c.requires.returning in
    let sets = finish_sets slot s.level c.finish.new.self.level c.finish.result.0 c.finish.ensures.finishes is.place in
    returned_tied s (record { level = c.finish.new.self.level; slots = s.slots; holds = s.holds; charges = c.learn.new.self }) slot c.args.carried.guest is sets.1 refl refl
