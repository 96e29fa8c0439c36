-- The log has the events before this place.
use Rattle.std.proofs.Common.{◌≡◌, map, take}
use Rattle.std.specs.Prelude.{vec_capacity}
use Rattle.apf_book.specs.RecentEvents.{event_of}
use Rattle.apf_book.proofs.recent_events.RecentEvents.append_newer.Given as goal

abbrev pub invariant-loop-i : goal.invariant-loop-i
invariant-loop-i g l =
    record {
      items : l.log.items ≡ map event_of (take l.i l.self.newest);
      capacity : vec_capacity l.log ≡ vec_capacity l.initial.log;
    }
