-- The requests so far are grouped.
use Rattle.std.specs.Ordering.{nat_cmp}
use Rattle.std.specs.BTreeMap.{get}
use Rattle.apf_flows.specs.Flows.{hashes_of}
use Rattle.apf_flows.proofs.Grouped.{IsGrouped}
use Rattle.apf_flows.proofs.flows.flows_of.Given as goal

abbrev pub invariant-loop-number : goal.invariant-loop-number
invariant-loop-number l = IsGrouped (hashes_of l.trace) l.number l.firsts.items l.of.items (get nat_cmp l.known)
