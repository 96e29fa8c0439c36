-- The request waits still.
use Rattle.std.specs.Prelude.{Contains}
use Rattle.apf_model.specs.History.{waiting}
use Rattle.apf_book.specs.Stretch.{history_at}
use Rattle.apf_book.proofs.overtaking.end_of.Given as goal

abbrev pub invariant-loop-place : goal.invariant-loop-place
invariant-loop-place l = Contains (waiting (history_at l.log l.place) l.queue) l.request
