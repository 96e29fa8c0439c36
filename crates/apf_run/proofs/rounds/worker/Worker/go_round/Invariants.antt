-- Those slots whose turn was went through one round more, and the others through the rounds before.
use Rattle.std.proofs.Common.{◌≡◌, ◌+◌, length}
use Rattle.std.specs.List.{AllWithin}
use Rattle.apf_run.specs.RoundsWorkers.{IsInRound, IsLoadOf}
use Rattle.apf_run.proofs.rounds.worker.Worker.go_round.Given as goal

abbrev pub invariant-loop-place : goal.invariant-loop-place
invariant-loop-place g l =
    record {
      load : IsLoadOf g.K.Naming.level.gate g.K.Plan.requests g.K.Plan.rounds (record { station = l.operator; slots = l.slots.items });
      count : length l.slots.items ≡ length l.fn.self.slots;
      over : AllWithin (IsInRound (l.fn.before + 1)) l.slots.items 0 l.place;
      left : AllWithin (IsInRound l.fn.before) l.slots.items l.place (length l.slots.items);
    }
