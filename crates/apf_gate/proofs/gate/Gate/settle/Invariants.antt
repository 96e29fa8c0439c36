use Rattle.apf_gate.proofs.gate.Gate.settle.Given as goal

abbrev pub ghosts-exchange_settled : goal.ghosts-exchange_settled
ghosts-exchange_settled g a = record { request = a.request }
