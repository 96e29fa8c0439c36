-- Chains of links, and what one write changes.
use Rattle.std.proofs.Common.{◌≡◌, ◌≢◌, ℕ, ◌<◌, List, [], ◌∷◌, ◌++◌, length, get_or, set, get_or-set_other, get_or-set_same, length-set, refl, sym, ap, ◌∙◌, subst}
use Rattle.std.proofs.lemmas.List.{append-nil}
use Rattle.apf_queue.specs.Nodes.{NotIn, AreApart, Leads, IsRing, AreLinked}

-- the last node of a chain
abbrev pub last_of : ℕ → List ℕ → ℕ
last_of a [] = a
last_of a (x ∷ xs) = last_of x xs

pub last-differs : (i x : ℕ) (xs : List ℕ) → NotIn i (x ∷ xs) → last_of x xs ≢ i
last-differs i x [] h = λ e. h.0 (sym e)
last-differs i x (y ∷ xs) h = last-differs i y xs h.1

pub last-leads : (next : List ℕ) (a : ℕ) (xs : List ℕ) (b : ℕ) → Leads next a xs b → get_or next (last_of a xs) 0 ≡ b
last-leads next a [] b h = h
last-leads next a (x ∷ xs) b h = last-leads next x xs b h.1

pub joins : (next : List ℕ) (a : ℕ) (xs : List ℕ) (y : ℕ) (ys : List ℕ) (b : ℕ) → Leads next a xs y → Leads next y ys b → Leads next a (xs ++ y ∷ ys) b
joins next a [] y ys b h k = (h, k)
joins next a (x ∷ xs) y ys b h k = (h.0, joins next x xs y ys b h.1 k)

pub splits : (next : List ℕ) (a : ℕ) (xs : List ℕ) (y : ℕ) (ys : List ℕ) (b : ℕ) → Leads next a (xs ++ y ∷ ys) b → Leads next a xs y × Leads next y ys b
splits next a [] y ys b h = h
splits next a (x ∷ xs) y ys b h = let later = splits next x xs y ys b h.1 in ((h.0, later.0), later.1)

-- a write elsewhere leaves a chain
pub kept : (next : List ℕ) (i v a : ℕ) (xs : List ℕ) (b : ℕ) → NotIn i (a ∷ xs) → Leads next a xs b → Leads (set next i v) a xs b
kept next i v a [] b out h = let ne : a ≢ i = λ e. out.0 (sym e) in rw get_or-set_other h
kept next i v a (x ∷ xs) b out h = let ne : a ≢ i = λ e. out.0 (sym e) in (rw get_or-set_other h.0, kept next i v x xs b out.1 h.1)

-- a write of the last node's link turns the chain's end
pub turned : (next : List ℕ) (a : ℕ) (xs : List ℕ) (b c : ℕ) → AreApart (a ∷ xs) → last_of a xs < length next → Leads next a xs b → Leads (set next (last_of a xs) c) a xs c
turned next a [] b c apart within h = rw get_or-set_same refl
turned next a (x ∷ xs) b c apart within h =
    let ne : a ≢ last_of x xs = λ e. last-differs a x xs apart.0 (sym e) in
    (rw get_or-set_other h.0, turned next x xs b c apart.1 within h.1)

pub last-in : (next : List ℕ) (a : ℕ) (xs : List ℕ) (b : ℕ) → ((i : ℕ) → i < length next → get_or next i 0 < length next) → a < length next
    → Leads next a xs b → last_of a xs < length next
last-in next a [] b inside h k = h
last-in next a (x ∷ xs) b inside h k = let here : x < length next = subst (λ (n : ℕ). n < length next) k.0 (inside a h) in last-in next x xs b inside here k.1

-- what stands before a node's link: the last node of the chain to it
pub before_is : (next previous : List ℕ) (a : ℕ) (xs : List ℕ) (b : ℕ) → AreLinked next previous → a < length next → Leads next a xs b → get_or previous b 0 ≡ last_of a xs
before_is next previous a xs b linked h k =
    ap (λ i. get_or previous i 0) (sym (last-leads next a xs b k)) ∙ linked.back (last_of a xs) (last-in next a xs b linked.next_in h k)

pub link_ring : (next previous : List ℕ) (head node : ℕ) → AreLinked next previous → head < length next → node < length next → (nodes : List ℕ)
    → IsRing next head nodes → AreApart (head ∷ nodes) → NotIn node (head ∷ nodes)
    → IsRing (set (set next (get_or previous head 0) node) node head) head (nodes ++ node ∷ [])
link_ring next previous head node linked head_in node_in nodes ring apart out =
    let tail = last-in next head nodes head linked.next_in head_in ring in
    let within : node < length (set next (last_of head nodes) node) = rw length-set node_in in
    rw (before_is next previous head nodes head linked head_in ring)
    (joins _ head nodes node [] head (kept _ node head head nodes node out (turned next head nodes head node apart tail ring)) (rw get_or-set_same refl))

pub NotIn-left : (i : ℕ) (xs ys : List ℕ) → NotIn i (xs ++ ys) → NotIn i xs
NotIn-left i [] ys h = tt
NotIn-left i (x ∷ xs) ys h = (h.0, NotIn-left i xs ys h.1)

pub NotIn-right : (i : ℕ) (xs ys : List ℕ) → NotIn i (xs ++ ys) → NotIn i ys
NotIn-right i [] ys h = h
NotIn-right i (x ∷ xs) ys h = NotIn-right i xs ys h.1

pub apart_left : (xs ys : List ℕ) → AreApart (xs ++ ys) → AreApart xs
apart_left [] ys h = tt
apart_left (x ∷ xs) ys h = (NotIn-left x xs ys h.0, apart_left xs ys h.1)

pub apart_right : (xs ys : List ℕ) → AreApart (xs ++ ys) → AreApart ys
apart_right [] ys h = h
apart_right (x ∷ xs) ys h = apart_right xs ys h.1

pub apart_node : (xs : List ℕ) (y : ℕ) (ys : List ℕ) → AreApart (xs ++ y ∷ ys) → NotIn y xs
apart_node [] y ys h = tt
apart_node (x ∷ xs) y ys h = let far = NotIn-right x xs (y ∷ ys) h.0 in ((λ e. far.0 (sym e)), apart_node xs y ys h.1)

pub apart_last : (a : ℕ) (xs ys : List ℕ) → AreApart (a ∷ (xs ++ ys)) → NotIn (last_of a xs) ys
apart_last a [] ys h = h.0
apart_last a (x ∷ xs) ys h = apart_last x xs ys h.1

-- the chain past a node that is taken out
rest_turned : (next : List ℕ) (p node head : ℕ) (before after : List ℕ) → Leads next node after head
    → Leads (set (set next p (get_or next node 0)) node node) head before (get_or next node 0)
    → NotIn p after → NotIn node after
    → IsRing (set (set next p (get_or next node 0)) node node) head (before ++ after)
rest_turned next p node head before [] second first out out2 =
    rw (append-nil, second) (rw second at first)
rest_turned next p node head before (y ∷ ys) second first out out2 =
    rw second.0 (joins _ head before y ys head (rw second.0 at first) (kept _ node node y ys head out2 (kept next p y y ys head out second.1)))

pub unlink_ring : (next previous : List ℕ) (node : ℕ) → AreLinked next previous → node < length next → (head : ℕ) (before after : List ℕ)
    → IsRing next head (before ++ node ∷ after) → AreApart (head ∷ (before ++ node ∷ after)) → head < length next
    → IsRing (set (set next (get_or previous node 0) (get_or next node 0)) node node) head (before ++ after)
unlink_ring next previous node linked node_in head before after ring apart head_in =
    let parts = splits next head before node after head ring in
    let tail = last-in next head before node linked.next_in head_in parts.0 in
    let out = apart_last head before (node ∷ after) apart in
    let first = kept _ node node head before _ (apart_node (head ∷ before) node after apart)
    (turned next head before node (get_or next node 0) (apart_left (head ∷ before) (node ∷ after) apart) tail parts.0) in
    rw (before_is next previous head before node linked head_in parts.0)
    (rest_turned next (last_of head before) node head before after parts.1 first out.1 (apart_right (head ∷ before) (node ∷ after) apart).0)

others_kept : (next : List ℕ) (i v j w h : ℕ) (nodes : List ℕ) → NotIn i (h ∷ nodes) → NotIn j (h ∷ nodes) → IsRing next h nodes → IsRing (set (set next i v) j w) h nodes
others_kept next i v j w h nodes out out2 ring = kept _ j w h nodes h out2 (kept next i v h nodes h out ring)

-- what leads out of a ring stands outside it
outside : (next : List ℕ) (a : ℕ) (xs : List ℕ) (b x : ℕ) → Leads next a xs b → get_or next x 0 ≢ b → NotIn (get_or next x 0) xs → NotIn x (a ∷ xs)
outside next a [] b x h ne out = ((λ e. ne (ap (λ i. get_or next i 0) e ∙ h)), tt)
outside next a (y ∷ ys) b x h ne out = ((λ e. out.0 (ap (λ i. get_or next i 0) e ∙ h.0)), outside next y ys b x h.1 ne out.1)

-- a ring that has neither the node nor the head stays
pub link_others : (next previous : List ℕ) (head node : ℕ) → AreLinked next previous → head < length next → (h : ℕ) (nodes : List ℕ)
    → IsRing next h nodes → NotIn node (h ∷ nodes) → NotIn head (h ∷ nodes)
    → IsRing (set (set next (get_or previous head 0) node) node head) h nodes
link_others next previous head node linked head_in h nodes ring out out_head =
    let last = get_or previous head 0 in
    let e : head ≡ get_or next last 0 = sym (linked.forth head head_in) in
    let far : NotIn (get_or next last 0) (h ∷ nodes) = subst (λ (i : ℕ). NotIn i (h ∷ nodes)) e out_head in
    others_kept next last node node head h nodes (outside next h nodes h last ring far.0 far.1) out ring

-- a ring that has not the node stays
pub unlink_others : (next previous : List ℕ) (node : ℕ) → AreLinked next previous → node < length next → (h : ℕ) (nodes : List ℕ)
    → IsRing next h nodes → NotIn node (h ∷ nodes)
    → IsRing (set (set next (get_or previous node 0) (get_or next node 0)) node node) h nodes
unlink_others next previous node linked node_in h nodes ring out =
    let before = get_or previous node 0 in
    let e : node ≡ get_or next before 0 = sym (linked.forth node node_in) in
    let far : NotIn (get_or next before 0) (h ∷ nodes) = subst (λ (i : ℕ). NotIn i (h ∷ nodes)) e out in
    others_kept next before (get_or next node 0) node node h nodes (outside next h nodes h before ring far.0 far.1) out ring
