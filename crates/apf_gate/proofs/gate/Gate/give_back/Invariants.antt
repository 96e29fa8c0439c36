use Rattle.apf_gate.proofs.gate.Gate.give_back.Given as goal

abbrev pub ghosts-give_back_of : goal.ghosts-give_back_of
ghosts-give_back_of g a = record { request = a.request }
