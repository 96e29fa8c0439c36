-- Nobody came between two steps of a token where no other has seen more than it had after the first.
use Rattle.std.proofs.Common.{◌≡◌, ◌≤◌, List, [], ◌∷◌, ◌++◌, length, sym, refl, ap, ◌∙◌, subst, ⊎_elim, arith}
use Rattle.std.proofs.lemmas.List.{length-append}
use Rattle.apf_gate.specs.declared.record.Shape.{Shape}
use Rattle.apf_gate.specs.declared.record.Actor.{Actor}
use Rattle.apf_gate.specs.declared.record.Entry.{Entry}
use Rattle.apf_gate.specs.Traces.{NoneOf, IsToken, AreMade}
use Rattle.apf_gate.specs.Account.{Account, IsSound}
use Rattle.apf_gate.specs.Hidden.{trace_of, CameNot}
use Rattle.apf_gate.proofs.Determined.{joined, same_first, same_rest, known_of}

-- who made no later step saw the trace as far as its own one
reaches : (later saw front : List Entry) (y : Entry) (rest : List Entry) → later ++ saw ≡ front ++ y ∷ rest → NoneOf y.by later → length (y ∷ rest) ≤ length saw
reaches [] saw front y rest is none = let e = ap (λ (l : List Entry). length l) is in let f = length-append front (y ∷ rest) in omega arith
reaches (x ∷ later) saw [] y rest is none = absurd (none.0 (ap (λ (z : Entry). z.by) (same_first x y (later ++ saw) rest is)))
reaches (x ∷ later) saw (z ∷ front) y rest is none = reaches later saw front y rest (same_rest x z (later ++ saw) (front ++ y ∷ rest) is) none.1

made_after : (s : Shape) (front es : List Entry) → AreMade s (front ++ es) → AreMade s es
made_after s [] es k = k
made_after s (x ∷ front) es k = made_after s front es k.2

pub nobody_came : (s : Shape) (h : Account) (who : Actor) (m : Entry) (between trace : List Entry) → IsSound s h → IsToken s who
    → trace_of h who ≡ m ∷ (between ++ trace) → NoneOf who between → CameNot s who h between trace → between ≡ []
nobody_came s h who m [] trace a i is none few = refl
nobody_came s h who m (y ∷ ys) trace a i is none few =
    let k = known_of s h a who i in
    let whole : (k.0 ++ m ∷ []) ++ y ∷ (ys ++ trace) ≡ h.trace = joined k.0 (m ∷ []) (y ∷ (ys ++ trace)) ∙ (ap (λ t. k.0 ++ t) (sym is) ∙ k.1) in
    let made = made_after s (k.0 ++ m ∷ []) (y ∷ (ys ++ trace)) (subst (AreMade s) (sym whole) a.made) in
    let j : IsToken s y.by = made.0 in
    let o = known_of s h a y.by j in
    let far = reaches o.0 (trace_of h y.by) (k.0 ++ m ∷ []) y (ys ++ trace) (o.1 ∙ sym whole) o.2 in
    absurd (⊎_elim (λ (e : NoneOf y.by (y ∷ ys)). e.0 refl) (λ (l : length (trace_of h y.by) ≤ length trace). let e = length-append ys trace in omega arith) (few y.by j none.0))
