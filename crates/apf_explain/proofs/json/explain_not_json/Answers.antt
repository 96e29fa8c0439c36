-- What the bytes were parsed as, and the line that was written.
use Rattle.std.proofs.Common.{◌≡◌, ◌∙◌, None, ap, sym, rules}
use Rattle.std.specs.Io.KnownBytes.{Appends}
use Rattle.apf_files.specs.JsonFile.{value_in, value_of}
use Rattle.apf_explain.specs.Lines.{stop_text}
use Rattle.apf_explain.proofs.json.explain_not_json.Goals as goal

pub returns-in_ok-write_stop-in-Stopped-clause-line : goal.returns-in_ok-write_stop-in-Stopped-clause-line
returns-in_ok-write_stop-in-Stopped-clause-line g c =
    let value : value_of c.args.bytes.now ≡ None = sym c.requires ∙ ap value_in c.in-Stopped.is in
    let stop = c.write_stop.ensures in
    let why = c.in_ok-why-in-Stopped.why.now in
    let appends : Appends (g.W.Write.contents c.args.out.now) (g.W.Write.contents c.write_stop.new.out) (stop_text c.args.name.now stop.0 stop.1.0 why) = search rules in
    rw value (stop.0, (stop.1.0, (why, c.in_ok-why-in-Stopped.ensures.why, appends)))
