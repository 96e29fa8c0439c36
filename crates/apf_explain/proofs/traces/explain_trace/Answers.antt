-- The line of the number that the fault has.
use Rattle.std.proofs.Common.{◌≡◌, Some, rules}
use Rattle.apf_traces.specs.TraceFaults.{line_of}
use Rattle.apf_explain.proofs.traces.explain_trace.Goals as goal

pub returns-clause-line : goal.returns-clause-line
returns-clause-line g c =
    let is : line_of c.args.fault ≡ Some c.in-Some.number = search rules in
    let written = rw (c.numbered-line.ensures, c.place_of-place.ensures, c.in_ok-file.ensures.ok) at c.write_line.ensures.line in
    rw is written
