use Rattle.apf_gate.proofs.Losing.{take, grant, enter, set_limit, close, cancel}
use Rattle.apf_gate.proofs.laws.no_exchange_is_lost.Goals as goal

pub returns : goal.returns
returns c = record { take = take; grant = grant; enter = enter; set_limit = set_limit; close = close; cancel = cancel }
