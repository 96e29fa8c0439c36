-- A line with a fault changed nothing, whether the fault was written or not.
use Rattle.std.proofs.Common.{inl, refl}
use Rattle.std.specs.Io.KnownBytes.{Appends}
use Rattle.apf_service.proofs.Writing.{stated_if_ok}
use Rattle.apf_service.proofs.service.Service.take_line.Goals as goal

pub returns-in-Err-clause-served : goal.returns-in-Err-clause-served
returns-in-Err-clause-served g c = inl (record {
  kind = c.in-Err.fault.kind;
  found = c.in-Err.fault.found;
  is = c.in-Err.ensures.err;
  told = stated_if_ok c.write.result _ (Appends (g.W.Write.contents c.args.out.now) (g.W.Write.contents c.write.new.out)) c.write.ensures;
  same = refl;
})
