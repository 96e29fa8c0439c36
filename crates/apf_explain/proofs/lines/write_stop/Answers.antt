-- The value that the line is, and what was written.
use Rattle.std.proofs.Common.{◌≡◌, Some, None, rules}
use Rattle.serde_json.specs.View.{view}
use Rattle.apf_files.specs.JsonFile.{value_of}
use Rattle.apf_explain.proofs.lines.write_stop.Goals as goal

pub returns-in-Ok-clause-line : goal.returns-in-Ok-clause-line
returns-in-Ok-clause-line g c =
    let value : value_of c.args.bytes.now ≡ Some (view c.in-Ok.field-0) = c.every_text_is_what_was_read.ensures.read c.args.bytes.now (view c.in-Ok.field-0) c.in-Ok.ensures.ok.0 c.in-Ok.ensures.ok.1 in
    rw value c.in_ok-writeln-in-Ok.ensures.bytes

pub returns-clause-line : goal.returns-clause-line
returns-clause-line g c =
    let value : value_of c.args.bytes.now ≡ None = c.every_text_is_what_was_read.ensures.none c.args.bytes.now (search rules) in
    rw value (c.column.result, (c.in_ok-why-in-Err-2.why.now, c.in_ok-why-in-Err-2.ensures.why, search rules))
