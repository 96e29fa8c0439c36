-- The object that the bytes are.
use Rattle.std.proofs.Common.{sym}
use Rattle.serde_json.specs.View.{view}
use Rattle.apf_traces.proofs.Values.{some_bytes, value_of-text}
use Rattle.apf_traces.proofs.flat.line_value.Goals as goal

pub returns-in-Ok-flat_object-clause-value : goal.returns-in-Ok-flat_object-clause-value
returns-in-Ok-flat_object-clause-value c = sym (value_of-text c.args.bytes.now c.in-Ok.text.now (view c.in-Ok-flat_object.value) c.in-Ok.ensures.cases.0 c.in-Ok.ensures.cases.1 c.in-Ok-flat_object.ensures)

pub returns-in-Ok-flat_object-clause-some : goal.returns-in-Ok-flat_object-clause-some
returns-in-Ok-flat_object-clause-some c = some_bytes c.args.bytes.now c.in-Ok.text.now (view c.in-Ok-flat_object.value) c.in-Ok.ensures.cases.0 c.in-Ok-flat_object.ensures
