use Rattle.apf_gate.proofs.gate.Gate.cancel_without_wake.Given as goal

abbrev pub ghosts-exchange_word : goal.ghosts-exchange_word
ghosts-exchange_word g a = record { request = a.request }
