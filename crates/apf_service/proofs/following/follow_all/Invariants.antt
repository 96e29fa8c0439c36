-- What follows of the events so far was done, and the numbers are those of the slots.
use Rattle.std.proofs.Common.{◌≡◌, length, take}
use Rattle.apf_service.specs.Tallies.{IsTallied}
use Rattle.apf_service.specs.Kept.{state_of, FollowsAll}
use Rattle.apf_service.proofs.following.follow_all.Given as goal

abbrev pub invariant-loop-event : goal.invariant-loop-event
invariant-loop-event l =
    record {
      tallied : IsTallied l.level l.notes.tally;
      count : length l.level.places ≡ length l.initial.level.places;
      seen : l.notes.seen ≡ l.initial.notes.seen;
      follows : FollowsAll (take l.event-index l.log) (state_of l.initial.level l.initial.notes) (state_of l.level l.notes);
    }
