-- The key has a place, or its first one is noted.
use Rattle.std.proofs.Common.{rules}
use Rattle.apf_cluster_tables.specs.Places.{key_view}
use Rattle.apf_cluster_tables.proofs.Keys.{finds_new, finds_there}
use Rattle.apf_cluster_tables.proofs.flows.note.Goals as goal

pub returns-then-is_some : goal.returns-then-is_some
returns-then-is_some c = finds_there (key_view c.args.key) c.args.place c.args.places.now (search rules)

pub returns : goal.returns
returns c = finds_new (key_view c.args.key) c.args.place c.args.places.now c.insert.new.self (search rules) c.in_ok-insert.ensures.updates.0
