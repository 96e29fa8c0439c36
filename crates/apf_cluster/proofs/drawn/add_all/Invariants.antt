-- Those so far were told.
use Rattle.std.proofs.Common.{◌≡◌, List, ◌++◌, take}
use Rattle.apf_stream.specs.declared.ended.Ended.{Ended}
use Rattle.apf_cluster.specs.Drawn.{AreToldIn}
use Rattle.apf_cluster.proofs.drawn.add_all.Given as goal

abbrev pub invariant-loop-ended : goal.invariant-loop-ended
invariant-loop-ended l = record {
  told : (told : List Ended) → AreToldIn told l.initial.strip → AreToldIn (told ++ take l.ended-index l.ends) l.strip;
  limit : l.strip.limit ≡ l.initial.strip.limit;
}
