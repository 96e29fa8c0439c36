-- The whole trace ran, and its requests are listed.
use Rattle.std.proofs.Common.{List, [], sym, ◌∙◌, subst}
use Rattle.std.proofs.KnownBytes.{Keeps-refl}
use Rattle.apf_simulator.specs.Hearing.{Holds}
use Rattle.apf_simulator.specs.declared.held.Held.{Held}
use Rattle.apf_simulator.proofs.Windowed.{nobody_held}
use Rattle.apf_simulator.proofs.running.list.Goals as goal

pub returns-clause-listed : goal.returns-clause-listed
returns-clause-listed g c = λ read.
    let before = g.W.Write.contents c.args.out.now in
    let listing = c.new-listing.result in
    let nobody : Holds listing.window before before [] listing.held = subst (λ (l : List Held). Holds listing.window before before [] l) (sym c.new-listing.ensures.nobody) (nobody_held listing.window before (Keeps-refl before)) in
    let h = c.in_ok-end.ensures before read nobody in
    record {
      turns = h.been.turns;
      lane = h.lane;
      ran = h.been.ran;
      listed = c.in_ok-listed.ensures.listed before (g.W.Write.contents c.run_to_end.new.out) h.been.turns h.been.heard_them;
      end = c.in_ok-listed.ensures.end ∙ h.last;
    }

pub returns-clause-kept : goal.returns-clause-kept
returns-clause-kept g c = λ read.
    let before = g.W.Write.contents c.args.out.now in
    let listing = c.new-listing.result in
    let nobody : Holds listing.window before before [] listing.held = subst (λ (l : List Held). Holds listing.window before before [] l) (sym c.new-listing.ensures.nobody) (nobody_held listing.window before (Keeps-refl before)) in
    (c.in_ok-end.ensures before read nobody).been.heard_them.kept
