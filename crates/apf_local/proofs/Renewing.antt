-- The slots of a level go on to the requests of a batch, one after another.
use Rattle.std.proofs.Common.{◌≡◌, ◌≢◌, ◌<◌, ◌≤◌, ◌+◌, ℕ, zero, suc, inl, inr, List, [], ◌∷◌, length, set, Option, Some, refl, sym, ap, ◌∙◌, subst, arith}
use Rattle.std.specs.Prelude.{slice_get, false}
use Rattle.std.proofs.lemmas.Bool.{cases_eq}
use Rattle.std.proofs.lemmas.List.{length-set}
use Rattle.apf_gate.specs.Slots.{next_of}
use Rattle.apf_gate.specs.Tokens.{PassToken, GateId}
use Rattle.apf_book.specs.Life.{LifeView}
use Rattle.apf_book.specs.LifeBook.{IsLifeKept}
use Rattle.apf_gate.specs.Opens.{IsWidth}
use Rattle.apf_local.specs.declared.answer.Ask.{Ask}
use Rattle.apf_local.specs.declared.answer.Place.{Place}
use Rattle.apf_local.specs.declared.answer.Place.TheVariants as places
use Rattle.apf_local.specs.Batches.{AreFresh, BecomeFresh}
use Rattle.apf_local.specs.Levels.{LocalView, SameLocal, GoesOn, SlotMoves, BecomesFresh, IsRenewal}
use Rattle.apf_local.proofs.Giving.{get_set, local_same, local_then, on_then}
use Rattle.apf_local.proofs.Logging.{still_on}
use Rattle.apf_local.proofs.Seats.{get_else}
use Rattle.apf_local.proofs.Slots.{get_same}

some_is : {A : Type 0} (a b : A) → ◌≡◌ {A = Option A} (Some a) (Some b) → a ≡ b
some_is a b is = cc

-- what stands at a place of a list
pub at_place : {A : Type 0} (xs : List A) (i : ℕ) → i < length xs → (x : A) × (slice_get xs i ≡ Some x)
at_place [] i low = absurd (omega (arith, low))
at_place (x ∷ xs) zero low = (x, refl)
at_place (x ∷ xs) (suc i) low = at_place xs i (omega (arith, low))

pub none_fresh : (old : LocalView) (asks : List Ask) → BecomeFresh old asks 0 old
none_fresh old asks = record {
  same = local_same old;
  operators = refl;
  count = refl;
  fresh = λ i a low. absurd (omega (arith, low));
  numbers = λ i a t low. absurd (omega (arith, low));
  others = λ i low. (refl, refl);
  history = λ v kept. still_on v old.owner.book kept;
}

module _ (old : LocalView) (asks : List Ask) (opened : AreFresh old (length asks)) (slot : ℕ) (now new : LocalView) (far : BecomeFresh old asks slot now) (ask : Ask) (here : slice_get asks slot ≡ Some ask) (low : slot < length asks) where
  pub one_more_fresh : SameLocal now new → new.owner.stations ≡ now.owner.stations → SlotMoves slot now new (BecomesFresh ask) → ((v : LifeView) → IsLifeKept v now.owner.book → GoesOn v new.owner.book) → BecomeFresh old asks (slot + 1) new
  one_more_fresh same operators moves history = record {
    same = local_then old now new far.same same;
    operators = operators ∙ far.operators;
    count = ap (λ (ps : List Place). length ps) moves.now_at ∙ (length-set now.places slot moves.place' ∙ far.count);
    fresh = λ i a l at. subst (λ (ps : List Place). slice_get ps i ≡ Some (places.Fresh a)) (sym moves.now_at) (elim (cases_eq i slot) [
      | inl e ↦
          let is : ask ≡ a = some_is ask a (sym here ∙ (ap (slice_get asks) (sym e) ∙ at)) in
          ap (slice_get (set now.places slot moves.place')) e ∙ (get_set now.places slot moves.place' moves.place moves.was_at ∙ ap (λ (p : Place). Some p) (moves.does.place_is ∙ ap (λ (x : Ask). places.Fresh x) is))
      | inr ne ↦ get_else now.places slot i moves.place' ne ∙ far.fresh i a (omega (arith, l, ne)) at
    ]);
    numbers = λ i a t l at at_t. elim (cases_eq i slot) [
      | inl e ↦
          let is : ask ≡ a = some_is ask a (sym here ∙ (ap (slice_get asks) (sym e) ∙ at)) in
          let last : t ≡ moves.after = get_same now.owner.passes slot moves.after t (subst (λ (ts : List PassToken). slice_get ts slot ≡ Some t) moves.now (ap (slice_get new.owner.passes) (sym e) ∙ at_t)) in
          let first : moves.before.pass.number ≡ slot = opened.numbered slot moves.before (sym (far.others slot (omega arith)).1 ∙ moves.was) in
          ap (λ (x : PassToken). x.pass.number) last ∙ (moves.does.renews.number ∙ (ap (λ (n : ℕ). next_of n ask.width) (first ∙ sym e) ∙ ap (λ (x : Ask). next_of i x.width) is))
      | inr ne ↦ far.numbers i a t (omega (arith, l, ne)) at (sym (get_else now.owner.passes slot i moves.after ne) ∙ subst (λ (ts : List PassToken). slice_get ts i ≡ Some t) moves.now at_t)
    ];
    others = λ i l.
        let ne : i ≢ slot = (λ e. omega (arith, l, e)) in
        let was = far.others i (omega (arith, l)) in
        (ap (λ (ps : List Place). slice_get ps i) moves.now_at ∙ (get_else now.places slot i moves.place' ne ∙ was.0), ap (λ (ts : List PassToken). slice_get ts i) moves.now ∙ (get_else now.owner.passes slot i moves.after ne ∙ was.1));
    history = λ v kept. on_then v now.owner.book new.owner.book (far.history v kept) history;
  }

  -- a slot that was not given yet can go on
  pub never_spent : IsWidth ask.width → IsRenewal slot ask now false new → ⊥
  never_spent wide is = elim is.1 [
    | inl not_free ↦
        let p = at_place old.places slot (omega (arith, low, opened.count)) in
        not_free ((far.others slot (omega arith)).0 ∙ (p.1 ∙ ap (λ (x : Place). Some x) (opened.free slot p.0 p.1)))
    | inr spent ↦
        let t = at_place old.owner.passes slot (omega (arith, low, opened.passes)) in
        let used = spent t.0 ((far.others slot (omega arith)).1 ∙ t.1) in
        let numbers : length now.owner.gate.shape.widths ≡ length old.owner.gate.shape.widths = ap (λ (g : GateId). length g.shape.widths) far.same.owner.gate in
        let number = opened.numbered slot t.0 t.1 in
        let few = opened.few in
        let all = opened.numbers in
        let most : next_of slot ask.width < length now.owner.gate.shape.widths = too_many slot ask.width (length now.owner.gate.shape.widths) (omega (arith, low, few)) wide.1 (numbers ∙ all) in
        let u = subst (λ (n : ℕ). length now.owner.gate.shape.widths ≤ next_of n ask.width) number used in
        omega (arith, most, u)
  ] where
    too_many : (s w n : ℕ) → s < 10000 → w ≤ 20000 → n ≡ 37778931862957161709568 → next_of s w < n
    too_many s w n low_s low_w is = omega (arith, low_s, low_w, is)
