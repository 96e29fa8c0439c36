-- The request is the same and did not enter. Whoever is not decided is fresh.
use Rattle.std.proofs.Common.{◌≡◌, false}
use Rattle.apf_level.specs.InPlace.{IsKeptInBatch}
use Rattle.apf_line.specs.Attempts.{IsAttemptedTold, StaysOut}
use Rattle.apf_line.specs.Tokens.{IsOf}
use Rattle.apf_level.proofs.level.Level.arrive_late.Given as goal

abbrev pub invariant-loop : goal.invariant-loop
invariant-loop g l =
    record {
      next : (goal.iterator-loop g).can_next l.iterator';
      ends : (goal.iterator-loop g).is_finite l.iterator';
      kept : IsKeptInBatch l.tried l.pass;
      same : IsOf l.fn.pass l.pass;
      told : IsAttemptedTold l.tried l.pass;
      outside : StaysOut l.fn.pass.pass l.tried l.pass;
      never_entered : l.fn.pass.pass.entered ≡ false;
    }
