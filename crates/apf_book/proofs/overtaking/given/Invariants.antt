-- What was given so far is counted.
use Rattle.std.proofs.Common.{◌≡◌, ℕ, ◌*◌, ◌^◌, ◌<◌, ◌≤◌, slice_index}
use Rattle.std.specs.Prelude.{All}
use Rattle.apf_model.specs.History.{queue_of}
use Rattle.apf_book.specs.Stretch.{service_in, granted_in}
use Rattle.apf_book.proofs.overtaking.given.Given as goal

abbrev pub invariant-loop-place : goal.invariant-loop-place
invariant-loop-place l = record {
  services : (k : ℕ) → slice_index l.services k ≡ service_in l.widths l.log l.from l.place k;
  all : (queues : ℕ) → All (λ e. queue_of e < queues) l.log → l.all ≡ granted_in queues l.widths l.log l.from l.place;
  small : (k : ℕ) → slice_index l.services k ≤ 2 ^ 32 * l.place;
  few : l.all ≤ 2 ^ 32 * l.place;
}
