use Rattle.apf_gate.proofs.gate.Gate.try_grant.Given as goal

abbrev pub ghosts-exchange_grant : goal.ghosts-exchange_grant
ghosts-exchange_grant g a = record { request = a.request }
