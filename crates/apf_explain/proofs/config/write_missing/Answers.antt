use Rattle.apf_explain.proofs.config.write_missing.Goals as goal

pub returns : goal.returns
returns g c = c.writeln.ensures.bytes
