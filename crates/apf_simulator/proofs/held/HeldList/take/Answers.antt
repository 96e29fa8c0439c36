-- One came, or nobody, and these were told.
use Rattle.std.proofs.Common.{◌≡◌, ◌++◌, Option, None, sym, ◌∙◌, subst, rules}
use Rattle.apf_simulator.specs.Hearing.{AreHeld, came_more}
use Rattle.apf_simulator.proofs.Holding.{Came, took_none, took_one}
use Rattle.apf_simulator.proofs.held.HeldList.take.Goals.{in-Some+in_ok-hold, in_default}
use Rattle.apf_simulator.proofs.held.HeldList.take.Goals as goal

pub returns : goal.returns
returns c all told held =
    elim c.match-came.branch [
      | in-Some+in_ok-hold w ↦
          subst (λ (came : Option Came). AreHeld (came_more all came) (told ++ c.args.ends.now) c.end_all.new.self) (sym w.in-Some.is)
          (took_one all told w.in-Some.came c.args.ends.now c.args.self.now c.match-came.self c.end_all.new.self (w.self-is ∙ w.in_ok-hold.ensures) c.in_ok-end_all.ensures held)
      | in_default w ↦
          let none : c.args.came ≡ None = search (w.in_default, rules) in
          subst (λ (came : Option Came). AreHeld (came_more all came) (told ++ c.args.ends.now) c.end_all.new.self) (sym none)
          (took_none all told c.args.ends.now c.args.self.now c.match-came.self c.end_all.new.self w.self-is c.in_ok-end_all.ensures held)
    ]
