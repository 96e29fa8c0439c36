use Rattle.apf_gate.proofs.gate.Gate.leave.Given as goal

abbrev pub ghosts-leave_of : goal.ghosts-leave_of
ghosts-leave_of g a = record { request = a.request }
