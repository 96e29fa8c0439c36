-- The request is of the level, and its line was written.
use Rattle.std.proofs.Common.{◌≡◌, ◌-◌, ℕ, List, Some, sym, subst, rules}
use Rattle.std.specs.Io.KnownBytes.{Appends}
use Rattle.apf_audit.specs.AuditEvent.{Event, event}
use Rattle.apf_objects.specs.Cluster.{ClusterSaid, cluster_view}
use Rattle.apf_cluster.specs.Requests.{level_of, name_of, schema_at}
use Rattle.apf_cluster.specs.Traces.{line_of}
use Rattle.apf_cluster.proofs.Written.{one_line}
use Rattle.apf_cluster.proofs.tracing.write_taken.Goals as goal

pub returns : goal.returns
returns g c =
    let said : ClusterSaid = cluster_view c.args.way.cluster.now in
    let e : Event = event c.args.taken.now in
    let place = c.args.way.place in
    let start = c.args.way.start in
    let before = g.W.Write.contents c.args.out.now in
    let after = g.W.Write.contents c.write_request.new.out in
    let name : List ℕ = c.as_str.result.now in
    let level : level_of said e ≡ Some place = search rules in
    let named : name_of (schema_at said.schemas e.schema) ≡ name = search rules in
    let when : c.in_ok-at.at ≡ e.received - start = search rules in
    let line : Appends before after (line_of name c.in_ok-at.at e) = c.in-Ok.ensures in
    subst (Appends before after) (sym (one_line said place start e name c.in_ok-at.at level named when)) line
