-- Those so far are counted.
use Rattle.std.proofs.Common.{◌≡◌, take}
use Rattle.apf_stream.specs.declared.ended.Ended.{Ended}
use Rattle.apf_cluster.specs.Late.{CanCount, CountsTold}
use Rattle.apf_cluster.proofs.late.Late.add_all.Given as goal

abbrev pub invariant-loop-ended : goal.invariant-loop-ended
invariant-loop-ended l = record {
  since : l.self.since ≡ l.initial.self.since;
  counts : CountsTold (take l.ended-index l.ends) l.initial.self l.self;
  still : (e : Ended) → CanCount l.initial.self e → CanCount l.self e;
}
