-- What a write of links leaves linked.
use Rattle.std.proofs.Common.{◌≡◌, ◌≢◌, ℕ, ◌<◌, List, length, get_or, set, get_or-set_same, get_or-set_other, length-set, sym, ap, ◌∙◌, inl, inr, subst, arith}
use Rattle.std.proofs.lemmas.Bool.{cases_eq}
use Rattle.apf_queue.specs.Nodes.{AreLinked}

-- what stands at a place after two writes
module _ (xs : List ℕ) (a x b y : ℕ) (a_in : a < length xs) (b_in : b < length xs) where
  pub wrote_last : get_or (set (set xs a x) b y) b 0 ≡ y
  wrote_last = get_or-set_same (set xs a x) b y 0 (let n = length-set xs a x in omega arith)

  pub wrote_first : a ≢ b → get_or (set (set xs a x) b y) a 0 ≡ x
  wrote_first ne = get_or-set_other (set xs a x) b a y 0 ne ∙ get_or-set_same xs a x 0 a_in

  pub wrote_else : (i : ℕ) → i ≢ a → i ≢ b → get_or (set (set xs a x) b y) i 0 ≡ get_or xs i 0
  wrote_else i n m = get_or-set_other (set xs a x) b i y 0 m ∙ get_or-set_other xs a i x 0 n

  wrote_count : length (set (set xs a x) b y) ≡ length xs
  wrote_count = length-set (set xs a x) b y ∙ length-set xs a x

  wrote_in : (n : ℕ) → x < n → y < n → ((i : ℕ) → i < length xs → get_or xs i 0 < n) → (i : ℕ) → i < length xs → get_or (set (set xs a x) b y) i 0 < n
  wrote_in n l m all i within = elim (cases_eq i b) [
    | inl e ↦ subst (λ (j : ℕ). get_or (set (set xs a x) b y) j 0 < n) (sym e) (subst (λ (v : ℕ). v < n) (sym wrote_last) m)
    | inr other ↦ elim (cases_eq i a) [
      | inl e ↦ subst (λ (v : ℕ). v < n) (sym (ap (λ (j : ℕ). get_or (set (set xs a x) b y) j 0) e ∙ wrote_first (λ s. other (e ∙ s)))) l
      | inr further ↦ subst (λ (v : ℕ). v < n) (sym (wrote_else i further other)) (all i within)
    ]
  ]

-- two links each way are written, so that they lead back to one another, and all others did so before
module _ (next previous : List ℕ) (linked : AreLinked next previous) (a x b y c z d w : ℕ)
    (a_in : a < length next) (b_in : b < length next) (x_in : x < length next) (y_in : y < length next)
    (c_in : c < length next) (d_in : d < length next) (z_in : z < length next) (w_in : w < length next)
    (back : (i : ℕ) → i < length next → get_or (set (set previous c z) d w) (get_or (set (set next a x) b y) i 0) 0 ≡ i)
    (forth : (i : ℕ) → i < length next → get_or (set (set next a x) b y) (get_or (set (set previous c z) d w) i 0) 0 ≡ i) where
  pub still_linked : AreLinked (set (set next a x) b y) (set (set previous c z) d w)
  still_linked =
      let same = linked.same_len in
      let n = wrote_count next a x b y a_in b_in in
      let p = wrote_count previous c z d w (omega arith) (omega arith) in
      let within = λ (i : ℕ) (l : i < length (set (set next a x) b y)). subst (λ (m : ℕ). i < m) n l in
      record {
        same_len = n ∙ same ∙ sym p;
        next_in = λ i l. subst (λ (m : ℕ). get_or (set (set next a x) b y) i 0 < m) (sym n) (wrote_in next a x b y a_in b_in (length next) x_in y_in linked.next_in i (within i l));
        previous_in = λ i l. subst (λ (m : ℕ). get_or (set (set previous c z) d w) i 0 < m) (sym n)
            (wrote_in previous c z d w (omega arith) (omega arith) (length next) z_in w_in (λ j k. linked.previous_in j (omega arith)) i (let k = within i l in omega arith));
        back = λ i l. back i (within i l);
        forth = λ i l. forth i (within i l);
      }

-- a node that is alone is put before a head
module _ (next previous : List ℕ) (head node last : ℕ) (linked : AreLinked next previous) (head_in : head < length next) (node_in : node < length next)
    (other : node ≢ head) (alone : get_or next node 0 ≡ node) (last_is : last ≡ get_or previous head 0) where
  last_in : last < length next
  last_in = let l = linked.previous_in head head_in in omega arith

  leads_to_head : get_or next last 0 ≡ head
  leads_to_head = ap (λ (i : ℕ). get_or next i 0) last_is ∙ linked.forth head head_in

  last_other : last ≢ node
  last_other e = other (sym alone ∙ (sym (ap (λ (i : ℕ). get_or next i 0) e) ∙ leads_to_head))

  comes_from_itself : get_or previous node 0 ≡ node
  comes_from_itself = sym (ap (λ (i : ℕ). get_or previous i 0) alone) ∙ linked.back node node_in

  node_in_previous : node < length previous
  node_in_previous = let s = linked.same_len in let l = node_in in omega arith

  head_in_previous : head < length previous
  head_in_previous = let s = linked.same_len in let l = head_in in omega arith

  linked_back : (i : ℕ) → i < length next → get_or (set (set previous node last) head node) (get_or (set (set next last node) node head) i 0) 0 ≡ i
  linked_back i l = elim (cases_eq i node) [
    | inl e ↦ subst (λ (j : ℕ). get_or (set (set previous node last) head node) (get_or (set (set next last node) node head) j 0) 0 ≡ j) (sym e)
        (ap (λ (j : ℕ). get_or (set (set previous node last) head node) j 0) (wrote_last next last node node head last_in node_in)
        ∙ wrote_last previous node last head node node_in_previous head_in_previous)
    | inr ne ↦ elim (cases_eq i last) [
      | inl e ↦ subst (λ (j : ℕ). get_or (set (set previous node last) head node) (get_or (set (set next last node) node head) j 0) 0 ≡ j) (sym e)
          (ap (λ (j : ℕ). get_or (set (set previous node last) head node) j 0) (wrote_first next last node node head last_in node_in last_other)
          ∙ wrote_first previous node last head node node_in_previous head_in_previous other)
      | inr far ↦
          let to : get_or (set (set next last node) node head) i 0 ≡ get_or next i 0 = wrote_else next last node node head last_in node_in i far ne in
          let not_node : get_or next i 0 ≢ node = λ e. ne (sym (linked.back i l) ∙ (ap (λ (j : ℕ). get_or previous j 0) e ∙ comes_from_itself)) in
          let not_head : get_or next i 0 ≢ head = λ e. far (sym (linked.back i l) ∙ (ap (λ (j : ℕ). get_or previous j 0) e ∙ sym last_is)) in
          ap (λ (j : ℕ). get_or (set (set previous node last) head node) j 0) to
          ∙ wrote_else previous node last head node node_in_previous head_in_previous (get_or next i 0) not_node not_head ∙ linked.back i l
    ]
  ]

  linked_forth : (i : ℕ) → i < length next → get_or (set (set next last node) node head) (get_or (set (set previous node last) head node) i 0) 0 ≡ i
  linked_forth i l = elim (cases_eq i head) [
    | inl e ↦ subst (λ (j : ℕ). get_or (set (set next last node) node head) (get_or (set (set previous node last) head node) j 0) 0 ≡ j) (sym e)
        (ap (λ (j : ℕ). get_or (set (set next last node) node head) j 0) (wrote_last previous node last head node node_in_previous head_in_previous)
        ∙ wrote_last next last node node head last_in node_in)
    | inr ne ↦ elim (cases_eq i node) [
      | inl e ↦ subst (λ (j : ℕ). get_or (set (set next last node) node head) (get_or (set (set previous node last) head node) j 0) 0 ≡ j) (sym e)
          (ap (λ (j : ℕ). get_or (set (set next last node) node head) j 0) (wrote_first previous node last head node node_in_previous head_in_previous other)
          ∙ wrote_first next last node node head last_in node_in last_other)
      | inr far ↦
          let to : get_or (set (set previous node last) head node) i 0 ≡ get_or previous i 0 = wrote_else previous node last head node node_in_previous head_in_previous i far ne in
          let not_node : get_or previous i 0 ≢ node = λ e. far (sym (linked.forth i l) ∙ (ap (λ (j : ℕ). get_or next j 0) e ∙ alone)) in
          let not_last : get_or previous i 0 ≢ last = λ e. ne (sym (linked.forth i l) ∙ (ap (λ (j : ℕ). get_or next j 0) e ∙ leads_to_head)) in
          ap (λ (j : ℕ). get_or (set (set next last node) node head) j 0) to
          ∙ wrote_else next last node node head last_in node_in (get_or previous i 0) not_last not_node ∙ linked.forth i l
    ]
  ]

  pub link_linked : AreLinked (set (set next last node) node head) (set (set previous node last) head node)
  link_linked = still_linked next previous linked last node node head node last head node last_in node_in node_in head_in node_in head_in last_in node_in linked_back linked_forth

  -- who is alone stays so, but for the two
  pub link_alone : (i : ℕ) → i ≢ node → i ≢ head → get_or next i 0 ≡ i → get_or (set (set next last node) node head) i 0 ≡ i
  link_alone i ne far is = wrote_else next last node node head last_in node_in i (λ e. far (sym is ∙ (ap (λ (j : ℕ). get_or next j 0) e ∙ leads_to_head))) ne ∙ is

-- a node is taken out from between its neighbours, and left alone
module _ (next previous : List ℕ) (node before after : ℕ) (linked : AreLinked next previous) (node_in : node < length next)
    (before_is : before ≡ get_or previous node 0) (after_is : after ≡ get_or next node 0) where
  node_at : node < length previous
  node_at = let s = linked.same_len in let l = node_in in omega arith

  before_in : before < length next
  before_in = let l = linked.previous_in node node_in in let e = before_is in omega arith

  after_in : after < length next
  after_in = let l = linked.next_in node node_in in let e = after_is in omega arith

  after_at : after < length previous
  after_at = let s = linked.same_len in let l = after_in in omega arith

  before_leads : get_or next before 0 ≡ node
  before_leads = ap (λ (i : ℕ). get_or next i 0) before_is ∙ linked.forth node node_in

  after_comes : get_or previous after 0 ≡ node
  after_comes = ap (λ (i : ℕ). get_or previous i 0) after_is ∙ linked.back node node_in

  unlinked_back : (i : ℕ) → i < length next → get_or (set (set previous after before) node node) (get_or (set (set next before after) node node) i 0) 0 ≡ i
  unlinked_back i l = elim (cases_eq i node) [
    | inl e ↦ subst (λ (j : ℕ). get_or (set (set previous after before) node node) (get_or (set (set next before after) node node) j 0) 0 ≡ j) (sym e)
        (ap (λ (j : ℕ). get_or (set (set previous after before) node node) j 0) (wrote_last next before after node node before_in node_in)
        ∙ wrote_last previous after before node node after_at node_at)
    | inr ne ↦ elim (cases_eq i before) [
      | inl e ↦
          let not_node : after ≢ node = λ same. ne (e ∙ (before_is ∙ (ap (λ (j : ℕ). get_or previous j 0) (sym same) ∙ after_comes))) in
          subst (λ (j : ℕ). get_or (set (set previous after before) node node) (get_or (set (set next before after) node node) j 0) 0 ≡ j) (sym e)
          (ap (λ (j : ℕ). get_or (set (set previous after before) node node) j 0) (wrote_first next before after node node before_in node_in (λ s. ne (e ∙ s)))
          ∙ wrote_first previous after before node node after_at node_at not_node)
      | inr far ↦
          let to : get_or (set (set next before after) node node) i 0 ≡ get_or next i 0 = wrote_else next before after node node before_in node_in i far ne in
          let not_node : get_or next i 0 ≢ node = λ e. far (sym (linked.back i l) ∙ (ap (λ (j : ℕ). get_or previous j 0) e ∙ sym before_is)) in
          let not_after : get_or next i 0 ≢ after = λ e. ne (sym (linked.back i l) ∙ (ap (λ (j : ℕ). get_or previous j 0) e ∙ after_comes)) in
          ap (λ (j : ℕ). get_or (set (set previous after before) node node) j 0) to
          ∙ wrote_else previous after before node node after_at node_at (get_or next i 0) not_after not_node ∙ linked.back i l
    ]
  ]

  unlinked_forth : (i : ℕ) → i < length next → get_or (set (set next before after) node node) (get_or (set (set previous after before) node node) i 0) 0 ≡ i
  unlinked_forth i l = elim (cases_eq i node) [
    | inl e ↦ subst (λ (j : ℕ). get_or (set (set next before after) node node) (get_or (set (set previous after before) node node) j 0) 0 ≡ j) (sym e)
        (ap (λ (j : ℕ). get_or (set (set next before after) node node) j 0) (wrote_last previous after before node node after_at node_at)
        ∙ wrote_last next before after node node before_in node_in)
    | inr ne ↦ elim (cases_eq i after) [
      | inl e ↦
          let not_node : before ≢ node = λ same. ne (e ∙ (after_is ∙ (ap (λ (j : ℕ). get_or next j 0) (sym same) ∙ before_leads))) in
          subst (λ (j : ℕ). get_or (set (set next before after) node node) (get_or (set (set previous after before) node node) j 0) 0 ≡ j) (sym e)
          (ap (λ (j : ℕ). get_or (set (set next before after) node node) j 0) (wrote_first previous after before node node after_at node_at (λ s. ne (e ∙ s)))
          ∙ wrote_first next before after node node before_in node_in not_node)
      | inr far ↦
          let to : get_or (set (set previous after before) node node) i 0 ≡ get_or previous i 0 = wrote_else previous after before node node after_at node_at i far ne in
          let not_node : get_or previous i 0 ≢ node = λ e. far (sym (linked.forth i l) ∙ (ap (λ (j : ℕ). get_or next j 0) e ∙ sym after_is)) in
          let not_before : get_or previous i 0 ≢ before = λ e. ne (sym (linked.forth i l) ∙ (ap (λ (j : ℕ). get_or next j 0) e ∙ before_leads)) in
          ap (λ (j : ℕ). get_or (set (set next before after) node node) j 0) to
          ∙ wrote_else next before after node node before_in node_in (get_or previous i 0) not_before not_node ∙ linked.forth i l
    ]
  ]

  pub unlink_linked : AreLinked (set (set next before after) node node) (set (set previous after before) node node)
  unlink_linked = still_linked next previous linked before after node node after before node node before_in node_in after_in node_in after_in node_in before_in node_in unlinked_back unlinked_forth

  pub unlink_alone : get_or (set (set next before after) node node) node 0 ≡ node
  unlink_alone = wrote_last next before after node node before_in node_in

  -- who is alone stays so
  pub unlink_still_alone : (i : ℕ) → get_or next i 0 ≡ i → get_or (set (set next before after) node node) i 0 ≡ i
  unlink_still_alone i is = elim (cases_eq i node) [
    | inl e ↦ ap (λ (j : ℕ). get_or (set (set next before after) node node) j 0) e ∙ unlink_alone ∙ sym e
    | inr ne ↦ wrote_else next before after node node before_in node_in i (λ e. ne (sym is ∙ (ap (λ (j : ℕ). get_or next j 0) e ∙ before_leads))) ne ∙ is
  ]
