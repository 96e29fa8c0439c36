use Rattle.apf_gate.proofs.gate.Gate.seen.Given as goal

abbrev pub ghosts-load_seen : goal.ghosts-load_seen
ghosts-load_seen g a = record { request = a.request }
