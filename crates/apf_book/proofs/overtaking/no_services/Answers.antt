-- Each of this many zeros is 0, and past the end there is none.
use Rattle.std.proofs.Common.{◌≡◌, ℕ, inl, inr, length, slice_index, arith}
use Rattle.std.proofs.Math.ListN.{replicate, get_or-eq_default}
use Rattle.std.proofs.lemmas.Bool.{cases_lt}
use Rattle.std.proofs.lemmas.List.{get_or-replicate, length-replicate}
use Rattle.apf_book.proofs.overtaking.no_services.Goals as goal

zeros : (n q : ℕ) → slice_index (replicate n 0) q ≡ 0
zeros n q = elim (cases_lt q n) [
  | inl low ↦ get_or-replicate n q 0 0 low
  | inr high ↦ (let long : length (replicate {A = ℕ} n 0) ≡ n = length-replicate n 0 in get_or-eq_default (replicate n 0) 0 (omega arith))
]

pub returns : goal.returns
returns c = zeros 1024
