-- The lines of what was handed out so far were written.
use Rattle.std.specs.Prelude.{option_map}
use Rattle.apf_audit.specs.AuditEvent.{event}
use Rattle.apf_objects.specs.Cluster.{cluster_view}
use Rattle.apf_joined_reader.specs.Reading.{Inputs, IsAlike, inputs}
use Rattle.apf_cluster.specs.Traces.{HaveWritten}
use Rattle.apf_cluster.proofs.tracing.write_trace.Given as goal

abbrev pub invariant-requests : goal.invariant-requests
invariant-requests g l = record {
  gone : (was : Inputs) → HaveWritten l.choice (cluster_view l.cluster) l.way.place l.way.start was (inputs (g.R.Read.remaining l.initial.input) (g.S.Read.remaining l.initial.lines)) (option_map event l.initial.next) l.initial.reader (g.W.Write.contents l.initial.out) (g.W.Write.contents l.initial.out)
      → HaveWritten l.choice (cluster_view l.cluster) l.way.place l.way.start was (inputs (g.R.Read.remaining l.input) (g.S.Read.remaining l.lines)) (option_map event l.next) l.reader (g.W.Write.contents l.initial.out) (g.W.Write.contents l.out);
  alike : IsAlike l.initial.reader l.reader;
}
