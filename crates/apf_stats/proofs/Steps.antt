-- Each step of the cell keeps its rule.
use Rattle.std.proofs.Common.{◌≡◌, ◌≢◌, ℕ, ◌+◌, ◌<◌, List, [], ◌∷◌, ◌++◌, length, set, Option, Some, None, refl, sym, ◌∙◌, ap, subst, ⊎_elim, arith}
use mathlib.Core.Option.{some}
use lib.ListN.{get_elem?}
use Rattle.crossbeam_utils.specs.Register.{Turns, Forks}
use Rattle.atomic_table.proofs.Lists.{at_set}
use Rattle.apf_stats.specs.declared.board.Entry.{Entry}
use Rattle.apf_stats.specs.declared.board.View.{View}
use Rattle.apf_stats.specs.Numbers.{IsBelow, AddUp}
use Rattle.apf_stats.specs.Traces.{entry, after_step, shown, NoneOf, GoesOn, AreMade}
use Rattle.apf_stats.specs.Rule.{with_reader, as_reader, stepped, IsKnown, IsRuled, Publishes, Reads}
use Rattle.apf_stats.proofs.Seats.{at_within, at_end, length_snoc, length_set}
use Rattle.apf_stats.proofs.Traces.{below_refl, rises, shown_else, made_more, none_of_beginning}

-- what others know is so when a pass makes a step
others : (trace : List Entry) (count by seat : ℕ) (view : View) (published : Option (List ℕ)) → by ≢ seat → IsKnown trace count seat view → IsKnown (entry by published ∷ trace) count seat view
others trace count by seat view published else was = record {
  number_is = was.number_is;
  newer = (entry by published ∷ was.newer.0, ap (λ (t : List Entry). entry by published ∷ t) was.newer.1, (else, was.newer.2));
  counts = was.counts;
}

-- the pass at this seat makes a step, after which the cell says these numbers
stepped_kept :
    (numbers new : List ℕ) (views : List View) (by : ℕ) (view : View) (published : Option (List ℕ)) (ruled : IsRuled numbers views)
    → (at : get_elem? views by ≡ some view) → (later : List Entry) → later ++ view.trace ≡ ruled.trace
    → after_step published (shown ruled.trace) ≡ new → AddUp new → (published ≢ None → view.number ≡ 0) → IsBelow (shown ruled.trace) new
    → IsRuled new (set views by (stepped view published later))
stepped_kept numbers new views by view published ruled at later on is sums mine up =
    let known = ruled.known by view at in
    let view' = stepped view published later in
    let trace' : List Entry = entry view.number published ∷ (later ++ view.trace) in
    let same : length (set views by view') ≡ length views = length_set views by view' in
    let shows : shown trace' ≡ new = ap (λ (t : List Entry). after_step published (shown t)) on ∙ is in
    let within : view.number < length views = subst (λ (n : ℕ). n < length views) (sym known.number_is) (at_within views by view at) in
    let made : AreMade (length views) (later ++ view.trace) = subst (λ (t : List Entry). AreMade (length views) t) (sym on) ruled.made in
    let rise : IsBelow (shown (later ++ view.trace)) (shown trace') = subst (λ (t : List Entry). IsBelow (shown t) (shown trace')) (sym on) (subst (λ (n : List ℕ). IsBelow (shown ruled.trace) n) (sym shows) up) in
    record {
      trace = trace';
      shown_is = shows;
      sums = sums;
      made = subst (λ (n : ℕ). AreMade n trace') (sym same) (within, mine, rise, made);
      known = λ seat v e. subst (λ (n : ℕ). IsKnown trace' n seat v) (sym same) (⊎_elim
          (λ (here : (seat ≡ by) × (view' ≡ v)). subst (λ (v : View). IsKnown trace' (length views) seat v) here.1 (record { number_is = known.number_is ∙ sym here.0; newer = ([], refl, tt); counts = λ first. known.counts (sym here.0 ∙ first) }))
          (λ (there : (seat ≢ by) × (get_elem? views seat ≡ some v)). subst (λ (t : List Entry). IsKnown (entry view.number published ∷ t) (length views) seat v) (sym on)
          (others ruled.trace (length views) view.number seat v published (λ same. there.0 (sym same ∙ known.number_is)) (ruled.known seat v there.1)))
          (at_set views by seat view' v e));
    }

pub publishes : (by : ℕ) (view : View) (new : List ℕ) → view.number ≡ 0 → IsBelow (shown view.trace) new → AddUp new → Turns IsRuled by view (λ _. new) Publishes
publishes by view new first up sum numbers views ruled at =
    let known = ruled.known by view at in
    let later = known.newer.0 in
    let none : NoneOf view.number later = subst (λ (n : ℕ). NoneOf n later) (sym known.number_is) known.newer.2 in
    let made : AreMade (length views) (later ++ view.trace) = subst (λ (t : List Entry). AreMade (length views) t) (sym known.newer.1) ruled.made in
    let before : shown ruled.trace ≡ shown view.trace = ap shown (sym known.newer.1) ∙ shown_else (length views) later view.trace made (subst (λ (n : ℕ). NoneOf n later) first none) in (
      stepped view (Some new) later,
      stepped_kept numbers new views by view (Some new) ruled at later known.newer.1 refl sum (λ _. first) (subst (λ (n : List ℕ). IsBelow n new) (sym before) up),
      (later, refl, none),
    )

pub reads : (by : ℕ) (view : View) → Turns IsRuled by view (λ x. x) Reads
reads by view numbers views ruled at =
    let known = ruled.known by view at in
    let later = known.newer.0 in
    let none : NoneOf view.number later = subst (λ (n : ℕ). NoneOf n later) (sym known.number_is) known.newer.2 in
    let made : AreMade (length views) (later ++ view.trace) = subst (λ (t : List Entry). AreMade (length views) t) (sym known.newer.1) ruled.made in
    let found : shown (later ++ view.trace) ≡ numbers = ap shown known.newer.1 ∙ ruled.shown_is in (
      stepped view None later,
      stepped_kept numbers numbers views by view None ruled at later known.newer.1 ruled.shown_is ruled.sums (λ some. absurd (some refl)) (subst (λ (n : List ℕ). IsBelow (shown ruled.trace) n) ruled.shown_is (below_refl (shown ruled.trace))),
      (later, refl, none, found, subst (λ (n : List ℕ). IsBelow (shown view.trace) n) found (rises (length views) later view.trace made), ruled.sums),
    )

-- a reader's pass is split off the writer's
pub forks : (by : ℕ) (view : View) → view.number ≡ 0 → Forks IsRuled by view (with_reader view) (as_reader view)
forks by view first numbers views ruled at =
    let known = ruled.known by view at in
    let at_first : by ≡ 0 = sym known.number_is ∙ first in
    let views' = set views by (with_reader view) ++ as_reader view ∷ [] in
    let count : length views' ≡ length views + 1 = length_snoc (set views by (with_reader view)) (as_reader view) ∙ ap (λ (n : ℕ). n + 1) (length_set views by (with_reader view)) in
    let counted : view.readers + 1 ≡ length views = known.counts at_first in
    record {
      trace = ruled.trace;
      shown_is = ruled.shown_is;
      sums = ruled.sums;
      made = subst (λ (n : ℕ). AreMade n ruled.trace) (sym count) (made_more (length views) ruled.trace ruled.made);
      known = λ seat v e. subst (λ (n : ℕ). IsKnown ruled.trace n seat v) (sym count) (⊎_elim
          (λ (was : get_elem? (set views by (with_reader view)) seat ≡ some v). ⊎_elim
          (λ (here : (seat ≡ by) × (with_reader view ≡ v)). subst (λ (v : View). IsKnown ruled.trace (length views + 1) seat v) here.1 (record { number_is = known.number_is ∙ sym here.0; newer = subst (λ (n : ℕ). GoesOn ruled.trace n view.trace) (sym here.0) known.newer; counts = λ _. ap (λ (n : ℕ). n + 1) counted }))
          (λ (there : (seat ≢ by) × (get_elem? views seat ≡ some v)).
          let one = ruled.known seat v there.1 in
          record { number_is = one.number_is; newer = one.newer; counts = λ zeroth. absurd (there.0 (zeroth ∙ sym at_first)) })
          (at_set views by seat (with_reader view) v was))
          (λ (new : (seat ≡ length (set views by (with_reader view))) × (as_reader view ≡ v)).
          let place : seat ≡ length views = new.0 ∙ length_set views by (with_reader view) in
          subst (λ (v : View). IsKnown ruled.trace (length views + 1) seat v) new.1 (record {
            number_is = counted ∙ sym place;
            newer = subst (λ (n : ℕ). GoesOn ruled.trace n view.trace) (sym place) (known.newer.0, known.newer.1, none_of_beginning (length views) known.newer.0 view.trace (subst (λ (t : List Entry). AreMade (length views) t) (sym known.newer.1) ruled.made));
            counts = λ zeroth. absurd (let c = counted in let p = place in omega arith);
          }))
          (at_end (set views by (with_reader view)) (as_reader view) v seat e));
    }
