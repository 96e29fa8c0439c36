use Rattle.std.proofs.Common.{rules, arith, sym, subst}
use Rattle.apf_gate.specs.Slots.{IsTicket}
use Rattle.apf_gate.specs.Tokens.{GateId}
use Rattle.apf_gate.proofs.StationSteps.{station_loads_decision}
use Rattle.apf_gate.proofs.gate.Gate.load_word.Goals as goal

pub load-requires : goal.load-requires
load-requires g c =
    let i = c.self.invariant in
    let ticket = subst (λ (x : GateId). IsTicket x.shape c.args.request) (sym c.self.view_is) c.requires.is_request in
    (search rules, omega (arith, i.has_words, ticket.in_slot, c.word_of-word.ensures), rw (i.same_key, c.station.invariant, c.word_of-word.ensures, sym c.requires.chosen) (station_loads_decision _ _ _ _ c.args.request i.shape ticket.inside ticket.in_slot))
