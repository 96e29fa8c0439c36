-- Who goes was not there in the window.
use Rattle.std.proofs.Common.{List, sym, subst}
use Rattle.apf_simulator.specs.Hearing.{Holds}
use Rattle.apf_simulator.specs.declared.held.Held.{Held}
use Rattle.apf_simulator.proofs.Windowed.{let_go}
use Rattle.apf_simulator.proofs.listed.Listing.make_room.Goals as goal

pub returns-clause-held : goal.returns-clause-held
returns-clause-held c before now turns holds =
    subst (λ (l : List Held). Holds c.args.self.now.window before now turns l) (sym c.keep.ensures) (let_go c.args.self.now.window before now turns c.args.self.now.held holds)
