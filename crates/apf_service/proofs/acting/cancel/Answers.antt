-- The ticket is that of the slot's request.
use Rattle.std.proofs.Common.{rules, ◌≡◌, ℕ, get_or, subst}
use Rattle.apf_gate.specs.StationCalls.{TriesToCancel}
use Rattle.apf_local.specs.Levels.{LocalView}
use Rattle.apf_local.specs.Owners.{Steps}
use Rattle.apf_service.specs.Tallies.{slots_of}
use Rattle.apf_service.specs.Kept.{no_slot}
use Rattle.apf_service.proofs.Slots.{number_of}
use Rattle.apf_service.proofs.Keeps.{tallied_stays}
use Rattle.apf_service.proofs.acting.cancel.Goals as goal

pub returns-clause-turns : goal.returns-clause-turns
returns-clause-turns c =
    let l : LocalView = c.args.level.now in
    let number : c.ticket-request.result.number ≡ (get_or (slots_of l) c.args.slot no_slot).number = number_of l c.args.slot c.ticket-request.result.number c.requires.tallied.each_its_pass c.requires.is_slot c.ticket-request.ensures.number in
    record {
      answer = c.cancel.result;
      does = record {
        level = c.cancel.new.self;
        steps = subst (λ (n : ℕ). Steps l.owner.stations c.cancel.new.self.owner.stations (λ s s'. TriesToCancel s n c.cancel.result s')) number c.cancel.ensures.cancels;
        slots = c.cancel.ensures.slots;
        continues = record { same = c.cancel.ensures.same; history = c.cancel.ensures.history };
        after = search rules;
      };
      told = search rules;
    }

pub returns-clause-tallied : goal.returns-clause-tallied
returns-clause-tallied c = tallied_stays c.args.level.now c.cancel.new.self c.args.notes.now.tally c.cancel.ensures.same c.cancel.ensures.slots c.requires.tallied
