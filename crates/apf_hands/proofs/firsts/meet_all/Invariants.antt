-- The first requests of the flows of those that were handed out.
use Rattle.std.proofs.Common.{◌≡◌, []}
use Rattle.apf_trace_reader.specs.Reading.{HasRead}
use Rattle.apf_hands.specs.Firsts.{HasMet}
use Rattle.apf_hands.proofs.firsts.meet_all.Given as goal

abbrev pub invariant-requests : goal.invariant-requests
invariant-requests g l = record {
  met : HasRead [] [] (g.R.Read.remaining l.initial.input) l.initial.reader → HasMet (g.R.Read.remaining l.initial.input) (g.R.Read.remaining l.input) l.meeting.firsts l.reader;
  size : l.reader.window.size ≡ l.initial.reader.window.size;
}
