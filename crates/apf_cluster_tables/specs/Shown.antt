-- A flow that is printed, as the code holds it.
use Rattle.apf_cluster_tables.specs.Both.{FlowShown}
use Rattle.apf_cluster_tables.specs.declared.both.Shown.{Shown}

abbrev pub shown_view : Shown → FlowShown
shown_view f = record { of = f.of.now; line = f.line.now }
