-- The value on a tape.
use Rattle.std.proofs.Common.{sym, ◌∙◌}
use Rattle.apf_values.specs.Flat.{data_at}
use Rattle.apf_values.proofs.Documents.{of_bytes, some_data}
use Rattle.apf_values.proofs.line.Room.read.Goals as goal

pub returns-in-Some : goal.returns-in-Some
returns-in-Some c =
    let text = c.in-Ok.text.now in
    some_data (data_at c.in-Some.tape) c.in-Some.ensures.held
    ∙ sym (of_bytes c.args.bytes.now text (data_at c.in-Some.tape) c.in-Ok.ensures.cases.0 c.in-Ok.ensures.cases.1 c.in-Some.ensures.value)
