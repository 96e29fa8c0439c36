-- The strips of the queues so far.
use Rattle.std.proofs.Common.{◌≡◌, length, take}
use Rattle.std.specs.Prelude.{All, map}
use Rattle.std.specs.List.{range_with_len}
use Rattle.apf_picture.specs.Columns.{queue_in, place_in, IsStrip}
use Rattle.apf_picture.proofs.columns.strips.Given as goal

abbrev pub invariant-loop-place : goal.invariant-loop-place
invariant-loop-place l = record {
  queues : map queue_in l.strips.items ≡ take l.place l.queue-items;
  places : map place_in l.strips.items ≡ range_with_len 0 l.place;
  strips : All (IsStrip l.lives l.end) l.strips.items;
  count : length l.strips.items ≡ l.place;
}
