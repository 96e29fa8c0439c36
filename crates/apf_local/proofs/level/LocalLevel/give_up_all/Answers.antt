-- Each slot is given up.
use Rattle.std.proofs.Common.{rules, ◌≡◌, ◌<◌, ℕ, List, length, get_or, set, inl, inr, Some, sym, ap, ◌∙◌, subst, arith}
use Rattle.std.specs.Prelude.{slice_get, All}
use Rattle.std.proofs.lemmas.Bool.{cases_eq}
use Rattle.std.proofs.lemmas.List.{length-set}
use Rattle.std.proofs.lemmas.Option.{slice_get-get_or}
use Rattle.apf_local.specs.declared.answer.Place.{Place}
use Rattle.apf_local.specs.declared.answer.Place.TheVariants as places
use Rattle.apf_local.specs.Levels.{LocalView}
use Rattle.apf_local.proofs.Giving.{AreGivenUp, get_set, get_still, get_or_of, local_then, on_then}
use Rattle.apf_local.proofs.Seats.{keeps_then}
use Rattle.apf_local.proofs.level.LocalLevel.give_up_all.Goals as goal

pub loop-slot-init : goal.loop-slot-init
loop-slot-init c = record {
  same = c.cancel_waiting.ensures.same;
  count = c.cancel_waiting.ensures.count;
  free = λ i low. absurd (omega (arith, low));
  idle = c.cancel_waiting.ensures.idle;
  history = c.cancel_waiting.ensures.history;
  seats = c.cancel_waiting.ensures.seats;
}

pub loop-slot-preserved : goal.loop-slot-preserved
loop-slot-preserved c =
    let old : LocalView = c.args.self.now in
    let now : LocalView = c.loop-slot.self in
    let new : LocalView = c.give_up.new.self in
    let slot : ℕ = c.loop-slot.slot in
    let far : AreGivenUp old now slot = c.loop-slot.invariant in
    let inside : slot < length now.places = (search rules) in
    let here : slice_get now.places slot ≡ Some (get_or now.places slot places.Free) = slice_get-get_or now.places slot places.Free inside in
    record {
      same = local_then old now new far.same c.give_up.ensures.same;
      count = ap (λ (xs : List Place). length xs) c.give_up.ensures.frees ∙ (length-set now.places slot places.Free ∙ far.count);
      free = λ i low. subst (λ (xs : List Place). slice_get xs i ≡ Some places.Free) (sym c.give_up.ensures.frees) (elim (cases_eq i slot) [
        | inl e ↦ subst (λ (j : ℕ). slice_get (set now.places slot places.Free) j ≡ Some places.Free) (sym e) (get_set now.places slot places.Free (get_or now.places slot places.Free) here)
        | inr ne ↦ get_still now.places slot i places.Free (far.free i (omega (arith, low, ne)))
      ]);
      idle = λ all.
          let was : now ≡ old = far.idle all in
          let each : All (λ (p : Place). p ≡ places.Free) now.places = subst (λ (l : LocalView). All (λ (p : Place). p ≡ places.Free) l.places) (sym was) all in
          c.give_up.ensures.idle (here ∙ ap (λ (p : Place). Some p) (each slot places.Free inside)) ∙ was;
      history = λ v kept. on_then v now.owner.book new.owner.book (far.history v kept) c.give_up.ensures.history;
      seats = keeps_then old now new far.history far.seats c.give_up.ensures.seats;
    }

pub returns-clause-free : goal.returns-clause-free
returns-clause-free c = λ k d low.
    let far = c.loop-slot.invariant in
    let inside : k < c.loop-slot.slot = (search rules) in
    get_or_of c.loop-slot.self.places k d places.Free (far.free k inside)
