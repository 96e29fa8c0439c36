-- What is true of kept waits.
use Rattle.std.proofs.Common.{arith}
use Rattle.apf_times.proofs.Digits.{shortened-le, shortened_near, shortened_exact, shortened_rising}
use Rattle.apf_times.proofs.Keepings.{kept_moved}
use Rattle.apf_times.proofs.Shortenings.{shortened_alike}
use Rattle.apf_times.proofs.Sorting.{has_percentile}
use Rattle.apf_times.proofs.laws.every_wait_is_kept.Goals as goal

pub returns : goal.returns
returns c = record {
  some = has_percentile;
  order = λ ws others v moved kept. kept_moved ws others v.exact v.counts moved kept;
  shorter = shortened-le;
  near = shortened_near;
  exact = λ n few. shortened_exact n (omega arith) few;
  rising = shortened_rising;
  alike = shortened_alike;
}
