use Rattle.std.proofs.Common.{rules}
use Rattle.apf_files.proofs.ScriptLines.{number_placed, number_found}
use Rattle.apf_files.proofs.script.judge.Goals as goal

pub returns-in-Err-clause-place : goal.returns-in-Err-clause-place
returns-in-Err-clause-place c = number_placed c.args.line c.in-Err.fault c.in-Err.ensures.err

pub returns-in-Err-clause-found : goal.returns-in-Err-clause-found
returns-in-Err-clause-found c =
    number_found c.args.bytes.now c.args.line c.in-Some.command c.in-Err.fault _ c.in-Err.ensures.err (search rules) c.number_of.ensures
