-- The limit is set, and nothing else changes.
use Rattle.std.proofs.Common.{[], refl}
use Rattle.apf_stream.specs.Deeds.{SetsLimit}
use Rattle.apf_stream.specs.States.{State, state_of}
use Rattle.apf_stream.proofs.Telling.{set_tied}
use Rattle.apf_stream.proofs.stream.Stream.set_now.Goals as goal

then_state : goal.After-set_limit → State
then_state c =
    let s : State = state_of c.args.self.now in
    record { level = c.set_limit.new.self.level; slots = c.go_on.new.self; holds = s.holds; charges = s.charges }

sets : (c : goal.After-set_limit) → SetsLimit c.args.new (state_of c.args.self.now) (then_state c) []
unfolding then_state
sets c =
    let e = c.set_limit.ensures in
    record {
      forward = c.requires.forward;
      over = c.requires.over;
      old = c.set_limit.result;
      sets = e.sets;
      same = e.same;
      stays = e.slots;
      history = e.history;
      slots = c.go_on.ensures;
      holds = refl;
      charges = refl;
      nobody = refl;
    }

pub returns-clause-sets : goal.returns-clause-sets
unfolding then_state
returns-clause-sets c = sets c

pub returns-clause-tied : goal.returns-clause-tied
unfolding then_state
returns-clause-tied c = set_tied c.args.new (state_of c.args.self.now) (then_state c) [] (sets c) c.requires.tied
