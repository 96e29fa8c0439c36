-- The whole trace ran, and its calls are written.
use Rattle.std.proofs.Common.{List, subst}
use Rattle.std.specs.Io.KnownBytes.{Appends}
use Rattle.std.proofs.KnownBytes.{Keeps-refl}
use Rattle.apf_simulator.specs.Calls.{script_text}
use Rattle.apf_simulator.specs.declared.timeline.Call.{Call}
use Rattle.apf_simulator.proofs.Whole.{kept_then}
use Rattle.apf_simulator.proofs.running.write_timeline.Goals as goal

pub returns : goal.returns
returns g c = λ read.
    let before = g.W.Write.contents c.args.out.now in
    let after = g.W.Write.contents c.write.new.out in
    let h = c.in_ok-run_to_end.ensures before read (Keeps-refl before, c.new-timeline.ensures) in
    record {
      turns = h.been.turns;
      lane = h.lane;
      ran = h.been.ran;
      written = subst (λ (calls : List Call). Appends before after (script_text calls)) h.been.heard_them.1 (kept_then before (g.W.Write.contents c.run_to_end.new.out) after _ h.been.heard_them.0 c.in_ok-write.ensures);
    }
