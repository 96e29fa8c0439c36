-- Nothing was read yet.
use Rattle.std.proofs.Common.{refl, ap, map}
use Rattle.apf_request_halves.specs.Held.{placed}
use Rattle.apf_request_halves.proofs.Taking.{nothing_read}
use Rattle.apf_request_halves.proofs.halves.RequestHalves.new.Goals as goal

pub returns : goal.returns
returns c = nothing_read _ c.in_ok-lines.ensures (ap (λ s. map placed s.entries) c.in_ok-sparse.ensures) refl refl refl refl
