-- A level that was just opened: its slots are free.
use Rattle.std.proofs.Common.{rules, ◌≡◌, ℕ, List, Some, inl, refl, sym, ap, ◌∙◌, subst}
use Rattle.std.specs.Prelude.{slice_get, All}
use Rattle.std.proofs.lemmas.List.Elements.{All-replicate}
use Rattle.std.proofs.lemmas.Option.{slice_get_within}
use Rattle.apf_gate.specs.declared.record.State.TheVariants.{Fresh}
use Rattle.apf_gate.specs.Tokens.{PassToken}
use Rattle.apf_local.specs.declared.answer.Place.{Place}
use Rattle.apf_local.specs.declared.answer.Place.TheVariants as places
use Rattle.apf_local.specs.Levels.{IsAt}
use Rattle.apf_local.proofs.Giving.{get_or_of}
use Rattle.apf_local.proofs.level.LocalLevel.open_settling.Goals as goal

is_free : (ps : List Place) → All (λ (p : Place). p ≡ places.Free) ps → (i : ℕ) (p : Place) → slice_get ps i ≡ Some p → p ≡ places.Free
is_free ps free i p at = sym (get_or_of ps i places.Free p at) ∙ free i places.Free (slice_get_within ps i p at)

is_fresh : (ts : List PassToken) → All (λ (t : PassToken). t.pass.state ≡ Fresh) ts → (i : ℕ) (t : PassToken) → slice_get ts i ≡ Some t → t.pass.state ≡ Fresh
is_fresh ts fresh i t at = ap (λ (x : PassToken). x.pass.state) (sym (get_or_of ts i t t at)) ∙ fresh i t (slice_get_within ts i t at)

pub invariant_of-result : goal.invariant_of-result
invariant_of-result c =
    let free : All (λ (p : Place). p ≡ places.Free) c.in_ok-places.places.items =
    subst (All (λ (p : Place). p ≡ places.Free)) (sym (c.in_ok-places.ensures.items_if_clones_equal (λ y e. search rules))) (All-replicate (λ (p : Place). p ≡ places.Free) c.args.slots places.Free refl) in
    record {
      deck = search rules;
      hand = search rules;
      operator = search rules;
      count = search rules;
      at = λ i p t at_p at_t.
          let state = is_fresh c.in_ok-owner.owner.passes c.in_ok-owner.ensures.opened.fresh i t at_t in
          subst (λ (x : Place). IsAt x t) (sym (is_free c.in_ok-places.places.items free i p at_p)) (record { back = inl state; may = inl state });
      came = λ i t at_p at_t. absurd (let z : places.Free ≡ places.Waits = sym (is_free c.in_ok-places.places.items free i places.Waits at_p) in cc);
      stopped = search rules;
    }
