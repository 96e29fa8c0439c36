-- Each request that waits is cancelled.
use Rattle.std.proofs.Common.{rules, ◌≡◌, ◌<◌, ℕ, length, Some, sym, ap, ◌∙◌, subst, arith}
use Rattle.std.specs.Prelude.{All}
use Rattle.std.proofs.lemmas.Option.{slice_get-get_or}
use Rattle.apf_local.specs.declared.answer.Place.{Place}
use Rattle.apf_local.specs.declared.answer.Place.TheVariants as places
use Rattle.apf_local.specs.Levels.{LocalView}
use Rattle.apf_local.proofs.Giving.{AreGivenUp, none_given_up, local_then, on_then}
use Rattle.apf_local.proofs.Seats.{keeps_then}
use Rattle.apf_local.proofs.level.LocalLevel.cancel_waiting.Goals as goal

pub loop-slot-init : goal.loop-slot-init
loop-slot-init c = none_given_up c.args.self.now

pub loop-slot-preserved : goal.loop-slot-preserved
loop-slot-preserved c =
    let old : LocalView = c.args.self.now in
    let now : LocalView = c.loop-slot.self in
    let new : LocalView = c.cancel_at.new.self in
    let slot : ℕ = c.loop-slot.slot in
    let far : AreGivenUp old now 0 = c.loop-slot.invariant in
    let inside : slot < length now.places = (search rules) in
    record {
      same = local_then old now new far.same c.cancel_at.ensures.same;
      count = c.cancel_at.ensures.count ∙ far.count;
      free = λ i low. absurd (omega (arith, low));
      idle = λ all.
          let was : now ≡ old = far.idle all in
          let each : All (λ (p : Place). p ≡ places.Free) now.places = subst (λ (l : LocalView). All (λ (p : Place). p ≡ places.Free) l.places) (sym was) all in
          c.cancel_at.ensures.idle (slice_get-get_or now.places slot places.Free inside ∙ ap (λ (p : Place). Some p) (each slot places.Free inside)) ∙ was;
      history = λ v kept. on_then v now.owner.book new.owner.book (far.history v kept) c.cancel_at.ensures.history;
      seats = keeps_then old now new far.history far.seats c.cancel_at.ensures.seats;
    }
