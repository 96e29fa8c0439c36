-- What was due is done, then it arrives, and then what followed of it is done.
use Rattle.std.proofs.Common.{[], ◌∷◌}
use Rattle.apf_stream.specs.declared.deed.Deed.TheVariants.{Arrive}
use Rattle.apf_stream.specs.States.{State, state_of}
use Rattle.apf_stream.proofs.Chains.{ran_one, ran_then}
use Rattle.apf_stream.proofs.stream.Stream.arrive.Goals as goal

pub returns-clause-run : goal.returns-clause-run
returns-clause-run c =
    let s : State = state_of c.args.self.now in
    let a = c.args.asked in
    let t = c.in_ok-take.ensures.arrives in
    ran_then [] (a ∷ []) s (state_of c.advance.new.self) (state_of c.follow.new.self) c.args.ends.now.items c.advance.new.ends.items c.follow.new.ends.items c.in_ok-advance.ensures.run
    (ran_then (a ∷ []) [] (state_of c.advance.new.self) (state_of c.take.new.self) (state_of c.follow.new.self) c.advance.new.ends.items c.take.new.ends.items c.follow.new.ends.items
    (ran_one (Arrive c.in-Some.slot a) (state_of c.advance.new.self) (state_of c.take.new.self) c.advance.new.ends.items t.told c.take.new.ends.items t.arrives t.told_are) c.in_ok-follow.ensures.run)
