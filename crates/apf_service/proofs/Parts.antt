-- A level with what is kept beside it is made of its parts.
use Rattle.std.proofs.Common.{rules, ◌≡◌, ℕ, List, ap}
use Rattle.apf_charges.specs.declared.charges.Charges.{Charges}
use Rattle.apf_local.specs.Levels.{LocalView}
use Rattle.apf_protocol.specs.declared.answer.Given.{Given}
use Rattle.apf_service.specs.declared.state.Asked.{Asked}
use Rattle.apf_service.specs.declared.state.ServiceState.{ServiceState}
use Rattle.apf_service.specs.declared.tally.Tally.{Tally}
use Rattle.apf_service.specs.Kept.{State, state_of}

pub state_by_parts : (level : LocalView) (notes : ServiceState) (tally : Tally) (queues : List Given) (seen : ℕ) (charges : Charges) (asked : List Asked) → notes.tally ≡ tally → notes.queues.items ≡ queues → notes.seen ≡ seen → notes.charges ≡ charges → notes.asked.items ≡ asked → state_of level notes ≡ record { level = level; tally = tally; queues = queues; seen = seen; charges = charges; asked = asked }
state_by_parts level notes tally queues seen charges asked t q s c a = search (t, q, s, c, a, rules)

-- what each queue was given changes with a call that charges, and with the level
abbrev pub with_given : State → LocalView → List Given → State
with_given s level given = record s { level = level; queues = given }

pub given_by : (s : State) (level : LocalView) (given given' : List Given) → given ≡ given' → with_given s level given ≡ with_given s level given'
given_by s level given given' e = ap (with_given s level) e
