-- The lanes went on by all that came, and are not ahead of who comes next.
use Rattle.std.proofs.Common.{◌≡◌, ℕ, List, [], Option}
use Rattle.apf_simulator.specs.Feeds.{AreLivedBoth, HasFed, HaveGone, IsAhead, IsHandedOut}
use Rattle.apf_simulator.specs.Turns.{Begins}
use Rattle.apf_simulator.proofs.feeding.feed_all.Given as goal

abbrev pub invariant-requests : goal.invariant-requests
invariant-requests g l = record {
  handed_out : IsHandedOut l.next l.reader.window.last;
  ahead : IsAhead l.next l.lanes.one l.lanes.other;
  lived : AreLivedBoth l.lanes.one l.lanes.other;
  gone : (was before : Option (List ℕ)) → HasFed was (g.R.Read.remaining l.initial.input) [] l.initial.next l.initial.reader → g.L.Listener.heard before (g.W.Write.contents l.initial.out) [] l.initial.listener
      → HaveGone was (g.R.Read.remaining l.input) l.next l.reader l.initial.lanes.one l.initial.lanes.other l.lanes.one l.lanes.other (λ turns. g.L.Listener.heard before (g.W.Write.contents l.out) turns l.listener × Begins l.initial.next turns l.next);
  size : l.reader.window.size ≡ l.initial.reader.window.size;
}
