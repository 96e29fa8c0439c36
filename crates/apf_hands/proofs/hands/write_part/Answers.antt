-- One flow more, where it has the name.
use Rattle.std.proofs.Common.{◌≡◌, ◌+◌, ◌<◌, ℕ, List, [], ◌∷◌, ◌++◌, Bool, true, false, cond, Option, get_or, length, take, map, sym, ◌∙◌, ap, subst}
use Rattle.std.specs.Io.KnownBytes.{Appends}
use Rattle.std.proofs.lemmas.List.{take_more, map-append}
use Rattle.apf_hands.specs.declared.dealt.Dealt.{Dealt}
use Rattle.apf_hands.specs.Alike.{IsOnce, held_whole_text, hashes_at, hashes_for}
use Rattle.apf_hands.specs.Dealt.{flow_of, flows_of}
use Rattle.apf_hands.specs.Hands.{Flow, is_named, named_whole_text, whole_text}
use Rattle.apf_hands.proofs.Covers.{own_once, whole_same}
use Rattle.apf_hands.proofs.Written.{appends_none, texts_more}
use Rattle.apf_hands.proofs.hands.write_part.Goals as goal
use Rattle.apf_hands.proofs.hands.write_part.Goals.{then-has_name+in_ok-write_whole, else-has_name}

pub write_whole-requires-clause-once : goal.write_whole-requires-clause-once
write_whole-requires-clause-once g c =
    let flow = c.flow-item.result in
    let hashes = hashes_at c.in_ok-alike.alike in
    let told : hashes_for hashes flow.queues.items ≡ c.alike_to-hashes.result.now = sym (c.alike_to-hashes.ensures ∙ ap (hashes_for hashes) c.as_slice.ensures.value) in
    subst (IsOnce flow.first.now.hash) told
    (own_once c.args.flows.now hashes c.in_ok-alike.ensures c.requires.dealt flow c.loop-flow.flow-index c.loop-flow-test.true c.flow-item.is)

-- the flow's text, where it has the name and where it has not
text_named : (name : List ℕ) (flows : List Flow) (flow : Flow) → is_named name flow ≡ true → whole_text flows flow ≡ named_whole_text name flows flow
text_named name flows flow is = sym (ap (λ (b : Bool). cond b (whole_text flows flow) []) is)

text_other : (name : List ℕ) (flows : List Flow) (flow : Flow) → is_named name flow ≡ false → [] ≡ named_whole_text name flows flow
text_other name flows flow is = sym (ap (λ (b : Bool). cond b (whole_text flows flow) []) is)

-- one flow more of those so far
more_of : (flows : List Dealt) (i : ℕ) (flow : Dealt) → i < length flows → flow ≡ get_or flows i flow → flows_of (take (i + 1) flows) ≡ flows_of (take i flows) ++ flow_of flow ∷ []
more_of flows i flow low is =
    ap (λ (ds : List Dealt). map flow_of ds) (take_more flows i flow low ∙ ap (λ (d : Dealt). take i flows ++ d ∷ []) (sym is)) ∙ map-append flow_of (take i flows) (flow ∷ [])

pub loop-flow-preserved : goal.loop-flow-preserved
loop-flow-preserved g c =
    let told = g.W.Write.contents in
    let flows = c.args.flows.now in
    let i = c.loop-flow.flow-index in
    let flow : Dealt = c.flow-item.result in
    let name = c.args.distinguisher.now in
    let hashes = hashes_at c.in_ok-alike.alike in
    let more = more_of flows i flow c.loop-flow-test.true c.flow-item.is in
    elim c.if-has_name.branch [
      | then-has_name+in_ok-write_whole w ↦
          let these : w.alike_to-hashes.result.now ≡ hashes_for hashes flow.queues.items = w.alike_to-hashes.ensures ∙ ap (hashes_for hashes) w.as_slice.ensures.value in
          let same : held_whole_text w.alike_to-hashes.result.now (flows_of flows) (flow_of flow) ≡ named_whole_text name (flows_of flows) (flow_of flow) =
          ap (λ (hs : List ℕ). held_whole_text hs (flows_of flows) (flow_of flow)) these
          ∙ whole_same flows hashes c.in_ok-alike.ensures c.requires.dealt flow i c.loop-flow-test.true c.flow-item.is
          ∙ text_named name (flows_of flows) (flow_of flow) (sym c.has_name.ensures ∙ w.if-has_name.true) in
          texts_more (named_whole_text name (flows_of flows)) (flows_of (take i flows)) (flow_of flow) (flows_of (take (i + 1) flows)) more
          (told c.args.out.now) (told c.loop-flow.out) (told c.if-has_name.out) c.loop-flow.invariant
          (subst (λ (t : Option (List ℕ)). Appends (told c.loop-flow.out) t (named_whole_text name (flows_of flows) (flow_of flow))) (sym (ap told w.out-is))
          (subst (λ (t : List ℕ). Appends (told c.loop-flow.out) (told w.write_whole.new.out) t) same w.in_ok-write_whole.ensures))
      | else-has_name w ↦
          let none : [] ≡ named_whole_text name (flows_of flows) (flow_of flow) = text_other name (flows_of flows) (flow_of flow) (sym c.has_name.ensures ∙ w.if-has_name.false) in
          texts_more (named_whole_text name (flows_of flows)) (flows_of (take i flows)) (flow_of flow) (flows_of (take (i + 1) flows)) more
          (told c.args.out.now) (told c.loop-flow.out) (told c.if-has_name.out) c.loop-flow.invariant
          (subst (λ (t : Option (List ℕ)). Appends (told c.loop-flow.out) t (named_whole_text name (flows_of flows) (flow_of flow))) (sym (ap told w.out-is))
          (subst (λ (t : List ℕ). Appends (told c.loop-flow.out) (told c.loop-flow.out) t) none (appends_none (told c.loop-flow.out))))
    ]
