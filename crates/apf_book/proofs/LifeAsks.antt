-- What the requests of a history asked for stays, as the Desk knows more and as others come.
use Rattle.std.proofs.Common.{◌≡◌, ◌≢◌, ℕ, ◌<◌, Bool, true, false, eqb, List, [], ◌∷◌, ◌++◌, length, set, get_or-set_same, get_or-set_other, Option, Some, refl, sym, ap, ◌∙◌, subst}
use Rattle.std.specs.Prelude.{◌||◌}
use Rattle.std.proofs.lemmas.Bool.{eq-eqb, false≢true}
use Rattle.std.proofs.lemmas.List.{append_assoc}
use Rattle.apf_history.specs.declared.events.Event.{Event}
use Rattle.apf_history.specs.declared.events.Event.TheVariants.{Enter, Full, Dispatch, Strike}
use Rattle.apf_flow.specs.Sizes.{Sizes}
use Rattle.apf_model.specs.World.{put, width}
use Rattle.apf_model.specs.History.{has_arrived}
use Rattle.apf_queue.specs.View.{queue_count}
use Rattle.apf_gate.specs.declared.record.Asked.{Asked}
use Rattle.apf_gate.specs.declared.record.Entry.{Entry}
use Rattle.apf_gate.specs.declared.record.Knowledge.{Knowledge}
use Rattle.apf_gate.specs.Traces.{ask_by, first_ask, asked_in}
use Rattle.apf_gate.specs.Records.{KnowsMore}
use Rattle.apf_gate.specs.Steps.{Both}
use Rattle.apf_gate.specs.JoinedSteps.{JoinedLoadsDecision}
use Rattle.apf_words.specs.declared.decision.Decision.{Decision}
use Rattle.apf_book.specs.Life.{LifeView, LifeState, IsAskedBy, AreAsked, sizes_in, sizes_of}
use Rattle.apf_book.proofs.Puts.{put_here, put_else}

ask_stays : (newer older : List Entry) (r : ℕ) (ask : Asked) → asked_in older r ≡ Some ask → asked_in (newer ++ older) r ≡ Some ask
ask_stays [] older r ask is = is
ask_stays (e ∷ newer) older r ask is = ap (λ (x : Option Asked). first_ask x (ask_by e.by e.ask r)) (ask_stays newer older r ask is)

-- as the trace goes on
pub asked_still : (sizes : Sizes) (newer older trace : List Entry) (hand : List ℕ) (cost r : ℕ) → newer ++ older ≡ trace → IsAskedBy sizes older hand cost r → IsAskedBy sizes trace hand cost r
asked_still sizes newer older trace hand cost r is by = record {
  ask = by.ask;
  said = ap (λ (es : List Entry). asked_in es r) (sym is) ∙ ask_stays newer older r by.ask by.said;
  hand_is = by.hand_is;
  cost_is = by.cost_is;
}

are_still : (sizes : Sizes) (newer older trace : List Entry) → newer ++ older ≡ trace → (costs : List ℕ) (hands : ℕ → List ℕ) (h : List Event) → AreAsked sizes older costs hands h → AreAsked sizes trace costs hands h
are_still sizes newer older trace is costs hands [] k = tt
are_still sizes newer older trace is costs hands (Enter r q ∷ h) k = (asked_still sizes newer older trace (hands r) (width costs r) r is k.0, are_still sizes newer older trace is costs hands h k.1)
are_still sizes newer older trace is costs hands (Full r q ∷ h) k = (asked_still sizes newer older trace (hands r) (width costs r) r is k.0, are_still sizes newer older trace is costs hands h k.1)
are_still sizes newer older trace is costs hands (Dispatch r q ∷ h) k = are_still sizes newer older trace is costs hands h k
are_still sizes newer older trace is costs hands (Strike r q ∷ h) k = are_still sizes newer older trace is costs hands h k

pub asks_then : (v : LifeView) (s s' : LifeState) (known known' : Knowledge) → s'.hand ≡ s.hand → KnowsMore known known' → AreAsked (sizes_in v s) known.trace v.costs v.hands v.history → AreAsked (sizes_in v s') known'.trace v.costs v.hands v.history
asks_then v s s' known known' hand more k =
    subst (λ (n : ℕ). AreAsked (record { deck = v.queues; hand = n }) known'.trace v.costs v.hands v.history) (sym hand)
    (are_still (sizes_in v s) more.trace.0 known.trace known'.trace (sym more.trace.1) v.costs v.hands v.history k)

or_false : (a b : Bool) → (a || b) ≡ false → (a ≡ false) × (b ≡ false)
or_false true b e = absurd (false≢true (sym e))
or_false false b e = (refl, e)

other_number : (j r : ℕ) → eqb j r ≡ false → j ≢ r
other_number j r e same = false≢true (sym e ∙ eq-eqb j r same)

module _ (sizes : Sizes) (trace : List Entry) (costs : List ℕ) (hands : ℕ → List ℕ) (r : ℕ) (hand : List ℕ) (cost : ℕ) where
  one_else : (j : ℕ) → j ≢ r → IsAskedBy sizes trace (hands j) (width costs j) j → IsAskedBy sizes trace (put hands r hand j) (width (set costs r cost) j) j
  one_else j ne by = record {
    ask = by.ask;
    said = by.said;
    hand_is = put_else hands r hand j ne ∙ by.hand_is;
    cost_is = get_or-set_other costs r j cost 0 ne ∙ by.cost_is;
  }

  -- what another asks for changes nothing
  pub asks_else : (h : List Event) → has_arrived h r ≡ false → AreAsked sizes trace costs hands h → AreAsked sizes trace (set costs r cost) (put hands r hand) h
  asks_else [] new k = tt
  asks_else (Enter j q ∷ h) new k = let o = or_false (eqb j r) (has_arrived h r) new in (one_else j (other_number j r o.0) k.0, asks_else h o.1 k.1)
  asks_else (Full j q ∷ h) new k = let o = or_false (eqb j r) (has_arrived h r) new in (one_else j (other_number j r o.0) k.0, asks_else h o.1 k.1)
  asks_else (Dispatch j q ∷ h) new k = asks_else h new k
  asks_else (Strike j q ∷ h) new k = asks_else h new k

  pub asks_here : r < length costs → IsAskedBy sizes trace hand cost r → IsAskedBy sizes trace (put hands r hand r) (width (set costs r cost) r) r
  asks_here inside by = record {
    ask = by.ask;
    said = by.said;
    hand_is = put_here hands r hand ∙ by.hand_is;
    cost_is = get_or-set_same costs r cost 0 inside ∙ by.cost_is;
  }

-- who was heard told what it knew
pub heard_trace : (both : Both) (found : Option Decision) (both' : Both) → JoinedLoadsDecision both found both' → (newer : List Entry) × (newer ++ both.pass.knows.trace ≡ both'.desk.knows.trace)
heard_trace both found both' answer = (answer.3.trace.0, answer.3.trace.1 ∙ sym (ap (λ (b : Both). b.desk.knows.trace) answer.5))

pub heard_then : (older : List Entry) (known known' : Knowledge) → (newer : List Entry) × (newer ++ older ≡ known.trace) → KnowsMore known known' → (newer : List Entry) × (newer ++ older ≡ known'.trace)
heard_then older known known' heard more = (more.trace.0 ++ heard.0, append_assoc more.trace.0 heard.0 older ∙ (ap (λ (es : List Entry). more.trace.0 ++ es) heard.1 ∙ sym more.trace.1))

-- an arrival's ask, by what the Desk knows then
pub asked_now : (v : LifeView) (s s' : LifeState) (older trace : List Entry) (hand : List ℕ) (cost r r' : ℕ) → queue_count s.queues ≡ v.queues → s'.hand ≡ s.hand → r' ≡ r → (newer : List Entry) × (newer ++ older ≡ trace)
    → IsAskedBy (sizes_of s) older hand cost r → IsAskedBy (sizes_in v s') trace hand cost r'
asked_now v s s' older trace hand cost r r' deck same is heard by =
    subst (λ (i : ℕ). IsAskedBy (sizes_in v s') trace hand cost i) (sym is)
    (subst (λ (x : Sizes). IsAskedBy x trace hand cost r) (λ i. record { deck = deck i; hand = sym same i })
    (asked_still (sizes_of s) heard.0 older trace hand cost r heard.1 by))
