use Rattle.apf_gate.proofs.gate.Gate.read.Given as goal

abbrev pub ghosts-load_word : goal.ghosts-load_word
ghosts-load_word g a = record { request = a.request }
