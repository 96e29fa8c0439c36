-- What was due is done, then the limit is set, and then what followed of it is done.
use Rattle.std.proofs.Common.{[], ◌∷◌, sym, append-nil}
use Rattle.apf_stream.specs.declared.deed.Deed.TheVariants.{SetLimit}
use Rattle.apf_stream.specs.States.{State, state_of}
use Rattle.apf_stream.proofs.Chains.{ran_one, ran_under}
use Rattle.apf_stream.proofs.stream.Stream.set_limit.Goals as goal

pub returns-clause-run : goal.returns-clause-run
returns-clause-run c =
    let s : State = state_of c.args.self.now in
    let n = c.args.new in
    let between = c.advance.new.ends.items in
    ran_under [] (n ∷ []) [] [] s (state_of c.advance.new.self) (state_of c.follow.new.self) c.args.ends.now.items between c.follow.new.ends.items c.in_ok-advance.ensures.run
    (ran_under (n ∷ []) [] [] [] (state_of c.advance.new.self) (state_of c.set_now.new.self) (state_of c.follow.new.self) between between c.follow.new.ends.items
    (ran_one (SetLimit n) (state_of c.advance.new.self) (state_of c.set_now.new.self) between [] between c.set_now.ensures.sets (sym (append-nil between))) c.in_ok-follow.ensures.run)
