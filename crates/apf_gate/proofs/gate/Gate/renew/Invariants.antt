use Rattle.apf_gate.proofs.gate.Gate.renew.Given as goal

abbrev pub ghosts-swap_for_next : goal.ghosts-swap_for_next
ghosts-swap_for_next g a = record { request = a.next; ask = record { hash = a.hash; cost = a.cost } }
