-- There are as many requests as before.
use Rattle.std.proofs.Common.{◌≡◌, length}
use Rattle.apf_book_tests.proofs.grants.enqueue_all.Given as goal

abbrev pub invariant-loop-place : goal.invariant-loop-place
invariant-loop-place g l = length l.requests ≡ length l.fn.requests
