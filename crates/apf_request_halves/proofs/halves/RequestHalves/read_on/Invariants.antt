use Rattle.std.proofs.Common.{ℕ, List}
use Rattle.apf_request_halves.specs.Reading.{Asked, HasRead, IsWithout}
use Rattle.apf_request_halves.proofs.Turning.{HasReadMore}
use Rattle.apf_request_halves.proofs.halves.RequestHalves.read_on.Given as goal

abbrev pub invariant-loop : goal.invariant-loop
invariant-loop g l = (bytes : List ℕ) (asked : List Asked) → HasRead bytes asked (g.R.Read.remaining l.initial.input) l.initial.self → IsWithout l.id l.initial.self.held
    → HasReadMore l.id (g.R.Read.remaining l.initial.input) (g.R.Read.remaining l.input) bytes asked l.self
