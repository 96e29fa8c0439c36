-- A request that is not accounted for was dispatched nowhere.
use Rattle.std.proofs.lemmas.Bool.{false≢true}
use Rattle.apf_plain.proofs.Agreeing.{in_dispatch}
use Rattle.apf_plain.proofs.agreement.executes_arrivals.Goals as goal

pub returns-then-not-is_accounted : goal.returns-then-not-is_accounted
returns-then-not-is_accounted c = (
  λ e. absurd (false≢true e),
  λ arrivals. (let yes = c.is_accounted.ensures.1 (λ is took. (let w = arrivals c.loop-request.request is took in in_dispatch _ _ w.0 w.1)) in let no = c.if-not-is_accounted.true in cc),
)
