-- The requests so far were told no other decision.
use Rattle.std.proofs.Common.{◌≡◌, ℕ, length, slice_index_or}
use Rattle.apf_session.specs.Requests.{RequestView, StayTold}
use Rattle.apf_session.proofs.session.finish_all.Given as goal

abbrev pub invariant-loop-place : goal.invariant-loop-place
invariant-loop-place g l = record {
  count : length l.requests ≡ length l.fn.requests;
  numbers : (i : ℕ) (d : RequestView) → (slice_index_or l.requests i d).number ≡ (slice_index_or l.fn.requests i d).number;
  told : StayTold l.fn.requests l.requests;
}
