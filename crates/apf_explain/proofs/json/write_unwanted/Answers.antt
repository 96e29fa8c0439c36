use Rattle.apf_explain.proofs.json.write_unwanted.Goals as goal

pub returns : goal.returns
returns g c = c.writeln.ensures.bytes
