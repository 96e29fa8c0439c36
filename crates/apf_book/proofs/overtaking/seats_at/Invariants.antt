-- The seats that wait in the queue after the events so far.
use Rattle.std.proofs.Common.{◌≡◌, ◌*◌, ◌^◌, ◌≤◌}
use Rattle.apf_book.specs.Stretch.{seats_before}
use Rattle.apf_book.proofs.overtaking.seats_at.Given as goal

abbrev pub invariant-loop-at : goal.invariant-loop-at
invariant-loop-at l = record {
  counted : l.seats ≡ seats_before l.widths l.log l.at l.queue;
  small : l.seats ≤ 2 ^ 32 * l.at;
}
