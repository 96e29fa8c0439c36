use Rattle.apf_book_tests.proofs.level.Level.new.Goals as goal

pub invariant_of-result-clause-gate_is : goal.invariant_of-result-clause-gate_is
invariant_of-result-clause-gate_is g c = c.requires.gate
