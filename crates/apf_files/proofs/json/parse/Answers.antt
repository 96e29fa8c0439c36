use Rattle.std.proofs.Common.{sym, rules}
use Rattle.serde_json.specs.View.{view}
use Rattle.apf_files.proofs.Values.{value_of-read, value_of-none, some_bytes}
use Rattle.apf_files.proofs.json.parse.Goals as goal

pub returns-in-Ok-clause-value : goal.returns-in-Ok-clause-value
returns-in-Ok-clause-value c =
    sym (value_of-read c.args.bytes.now (view c.in-Ok.value) c.in-Ok.ensures.ok.0 c.in-Ok.ensures.ok.1)

pub returns-in-Err-2-clause-value : goal.returns-in-Err-2-clause-value
returns-in-Err-2-clause-value c = sym (value_of-none c.args.bytes.now (search rules))

pub returns-in-Ok-clause-some : goal.returns-in-Ok-clause-some
returns-in-Ok-clause-some c = some_bytes c.args.bytes.now (view c.in-Ok.value) c.in-Ok.ensures.ok.1
