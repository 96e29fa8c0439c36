-- A reader that read nothing.
use Rattle.std.proofs.Common.{◌≡◌, List, ℕ, [], Option, None, false, refl, sym, subst}
use Rattle.std.proofs.lemmas.List.Elements.{All-nil}
use Rattle.apf_lines.specs.Lines.{AreUncut, HasNoLf, LinesView}
use Rattle.apf_times.specs.Windows.{WindowView}
use Rattle.apf_traces.specs.declared.request.TraceRequest.{TraceRequest}
use Rattle.apf_traces.specs.TraceFile.{max_bytes}
use Rattle.apf_trace_reader.specs.declared.stage.Stage.TheVariants.{Reading}
use Rattle.apf_trace_reader.specs.Reading.{HasRead}

pub nothing_read : (left : Option (List ℕ)) (ls : LinesView) (w : WindowView TraceRequest) → ls ≡ record { longest = max_bytes; line = []; kept = []; is_skipped = false } → w.held ≡ [] → w.last ≡ None
    → HasRead [] [] left (record { lines = ls; window = w; number = 0; stage = Reading; has_cost = false })
nothing_read left ls w is held last = record {
  lines = [];
  rest = [];
  are_lines = record { joined = refl; whole = All-nil HasNoLf };
  untaken = subst (AreUncut []) (sym is) (record { dropped = []; are = refl; both = refl });
  number = refl;
  requests = [];
  judged = refl;
  cost = refl;
  calls = [];
  run = (held, last, refl);
  came = refl;
  out = refl;
  pushed = λ other. tt;
  end = λ e. absurd cc;
}
