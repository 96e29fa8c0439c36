-- What a Pass knows once it was heard goes on from what it knew as a Done.
use Rattle.std.proofs.Common.{ℕ, zero, suc, ◌<◌, Option, List, [], ◌∷◌, ◌++◌, length, refl, sym, ap, ◌∙◌, subst, arith}
use Rattle.std.specs.Prelude.{All, slice_index_or}
use Rattle.std.proofs.lemmas.List.{append_assoc}
use Rattle.apf_words.specs.declared.decision.Decision.{Decision}
use Rattle.apf_gate.specs.declared.record.Actor.{Actor}
use Rattle.apf_gate.specs.declared.record.Actor.TheVariants.{OfPass}
use Rattle.apf_gate.specs.declared.record.Entry.{Entry}
use Rattle.apf_gate.specs.JoinedSteps.{JoinedLoadsDecision}
use Rattle.apf_gate.specs.Steps.{Both}
use Rattle.apf_gate.specs.Traces.{NoneOf, GoesOn}
use Rattle.apf_gate.specs.Tokens.{PassToken}
use Rattle.apf_level.specs.Heard.{GoesOnFrom, GoOnFrom}

pub heard_on : (both both' : Both) (found : Option Decision) → JoinedLoadsDecision both found both' → GoesOn both'.pass.knows.trace (OfPass both.pass.number) both.pass.knows.trace
heard_on both both' found loads = subst (λ (b : Both). GoesOn b.pass.knows.trace (OfPass both.pass.number) both.pass.knows.trace) (sym loads.5) loads.3.trace

none_in : (who : Actor) (xs ys : List Entry) → NoneOf who xs → NoneOf who ys → NoneOf who (xs ++ ys)
none_in who [] ys none more = more
none_in who (x ∷ xs) ys none more = (none.0, none_in who xs ys none.1 more)

goes_on_then : (who : Actor) (old between new : List Entry) → GoesOn between who old → GoesOn new who between → GoesOn new who old
goes_on_then who old between new first second =
    (second.0 ++ first.0, append_assoc second.0 first.0 old ∙ (ap (λ (l : List Entry). second.0 ++ l) first.1 ∙ second.1), none_in who second.0 first.0 second.2 first.2)

pub one_more : (dones passes rest : List PassToken) (done pass : PassToken) → GoOnFrom dones passes (done ∷ rest) → GoesOnFrom done pass → GoOnFrom dones (passes ++ pass ∷ []) rest
one_more dones [] rest done pass is on = subst (λ (l : List PassToken). GoOnFrom l (pass ∷ []) rest) (sym is) (on, refl)
one_more [] (p ∷ passes) rest done pass is on = absurd is
one_more (d ∷ dones) (p ∷ passes) rest done pass is on = (is.0, one_more dones passes rest done pass is.1 on)

all_cons : (P : PassToken → Type 0) (p : PassToken) (ps : List PassToken) → P p → All P ps → (i : ℕ) (t : PassToken) → i < length (p ∷ ps) → P (slice_index_or (p ∷ ps) i t)
all_cons P p ps here there zero t low = here
all_cons P p ps here there (suc i) t low = there i t (omega arith)

-- a trace that goes on from what the Passes know goes on from what they knew
pub from_dones : (trace : List Entry) (dones passes : List PassToken) → GoOnFrom dones passes [] → All (λ (t : PassToken). GoesOn trace (OfPass t.pass.number) t.pass.knows.trace) passes
    → All (λ (t : PassToken). GoesOn trace (OfPass t.pass.number) t.pass.knows.trace) dones
from_dones trace [] passes is all = λ i t low. absurd (omega arith)
from_dones trace (d ∷ dones) [] is all = absurd (let bad = is in cc)
from_dones trace (d ∷ dones) (p ∷ passes) is all = all_cons (λ (t : PassToken). GoesOn trace (OfPass t.pass.number) t.pass.knows.trace) d dones
    (goes_on_then (OfPass d.pass.number) d.pass.knows.trace p.pass.knows.trace trace is.0.trace (subst (λ (n : ℕ). GoesOn trace (OfPass n) p.pass.knows.trace) is.0.number (all zero p (omega arith))))
    (from_dones trace dones passes is.1 (λ k u below. all (suc k) u (omega arith)))
