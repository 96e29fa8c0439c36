use Rattle.std.proofs.Common.{◌≡◌, rules, Some, codes}
use Rattle.serde_json.specs.Find.{get}
use Rattle.serde_json.specs.View.{view}
use Rattle.apf_files.specs.JsonFile.{text_at}
use Rattle.apf_traces.proofs.Named.{named}
use Rattle.apf_traces.proofs.value.request_of_value.Goals as goal

pub returns-clause-named : goal.returns-clause-named
unfolding text_at
returns-clause-named c =
    let d = view c.args.value.now in
    let is_hash : c.flow_of.result ≡ Some c.in_ok-hash.hash = search rules in
    named (get (codes "hash") d) (get (codes "schema") d) (get (codes "distinguisher") d) c.in_ok-hash.hash c.in-Ok.names
    (rw c.flow_of.ensures at is_hash) c.in-Ok.ensures
