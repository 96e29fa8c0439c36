-- The log is legal for the hands that were judged.
use Rattle.apf_plain.specs.Histories.{hand_in}
use Rattle.apf_book_tests.proofs.overtaking.wait_in.Goals as goal

pub overtaken-requires-clause-legal : goal.overtaken-requires-clause-legal
overtaken-requires-clause-legal g c = (hand_in c.args.row.queues.now 1, (10, c.in_ok-assert_legal.ensures))
