-- The columns of a list of nodes, and what one write changes of them.
use Rattle.std.proofs.Common.{◌≡◌, ℕ, zero, suc, [], ◌∷◌, Bool, Some, ap₂, ◌+◌, ◌<◌, List, length, get_or, set, map, take, replicate, None, refl, sym, ap, ◌∙◌, arith}
use Rattle.std.proofs.lemmas.List.{map-set, set-get_or, get_or-map, get_or_read, length-map}
use Rattle.apf_queue.specs.declared.nodes.Node.{Node}
use Rattle.std.specs.List.{range_with_len}
use Rattle.std.specs.Prelude.{if◌then◌else◌}
use Rattle.std.proofs.lemmas.Bool.{ne_eqb}
use Rattle.std.proofs.lemmas.List.FromFn.{length-map-range_with_len, get_or-map-range_with_len}
use Rattle.apf_queue.specs.Nodes.{next_nodes, previous_nodes, no_queue, queue_stored, queues_of, costs_of, alone_node, alone_nodes}

-- a node where there is none
abbrev pub no_node : Node
no_node = record { next = 0; previous = 0; queue = 0; cost = 0 }

-- a column in which the written node keeps what it has
pub column_same : {B : Type 0} (f : Node → B) (nodes : List Node) (i : ℕ) (y : Node) → i < length nodes → f y ≡ f (get_or nodes i no_node)
    → map f (set nodes i y) ≡ map f nodes
column_same f nodes i y inside e =
    map-set f nodes i y ∙ ap (set (map f nodes) i) (e ∙ sym (get_or-map f nodes i no_node (f no_node) inside)) ∙ set-get_or (map f nodes) i (f no_node)

-- a place of the list is one of each column
pub in_column : {B : Type 0} (f : Node → B) (nodes : List Node) (i : ℕ) → i < length nodes → i < length (map f nodes)
in_column f nodes i inside = let e = length-map nodes f in omega arith

-- what a column has at a place
pub next_read : (nodes : List Node) (i : ℕ) → i < length nodes → (get_or nodes i no_node).next ≡ get_or (next_nodes nodes) i 0
next_read nodes i inside = sym (get_or-map (λ (n : Node). n.next) nodes i no_node 0 inside)

pub previous_read : (nodes : List Node) (i : ℕ) → i < length nodes → (get_or nodes i no_node).previous ≡ get_or (previous_nodes nodes) i 0
previous_read nodes i inside = sym (get_or-map (λ (n : Node). n.previous) nodes i no_node 0 inside)

cost_read : (nodes : List Node) (i : ℕ) → i < length nodes → (get_or nodes i no_node).cost ≡ get_or (costs_of nodes) i 0
cost_read nodes i inside = sym (get_or-map (λ (n : Node). n.cost) nodes i no_node 0 inside)

queue_read : (nodes : List Node) (i : ℕ) → i < length nodes → queue_stored (get_or nodes i no_node).queue ≡ get_or (queues_of nodes) i None
queue_read nodes i inside = sym (get_or-map (λ (n : Node). queue_stored n.queue) nodes i no_node None inside)

-- what a node has that was read at a place
module _ (nodes : List Node) (i : ℕ) (x : Node) (inside : i < length nodes) (read : x ≡ get_or nodes i x) where
  at_place : x ≡ get_or nodes i no_node
  at_place = get_or_read nodes i x inside read no_node

  pub node_next : x.next ≡ get_or (next_nodes nodes) i 0
  node_next = ap (λ (n : Node). n.next) at_place ∙ next_read nodes i inside

  pub node_cost : x.cost ≡ get_or (costs_of nodes) i 0
  node_cost = ap (λ (n : Node). n.cost) at_place ∙ cost_read nodes i inside

  pub node_queue : queue_stored x.queue ≡ get_or (queues_of nodes) i None
  node_queue = ap (λ (n : Node). queue_stored n.queue) at_place ∙ queue_read nodes i inside

-- a queue is stored as its number
pub stored : (q : ℕ) → q < no_queue → queue_stored q ≡ Some q
stored q below = ap (λ (b : Bool). if b then None else Some q) (ne_eqb q no_queue (λ e. (let l = below in absurd (omega arith))))

-- the columns of nodes that are alone
map_same : {B : Type 0} (f : ℕ → Node) (g : Node → B) (b : B) → ((i : ℕ) → g (f i) ≡ b) → (a n : ℕ) → map g (map f (range_with_len a n)) ≡ replicate n b
map_same f g b same a zero = refl
map_same f g b same a (suc n) = ap₂ ◌∷◌ (same a) (map_same f g b same (a + 1) n)

map_count : (f : ℕ → Node) (g : Node → ℕ) → ((i : ℕ) → g (f i) ≡ i) → (n i : ℕ) → i < n → get_or (map g (map f (range_with_len 0 n))) i 0 ≡ i
map_count f g same n i inside =
    let count : length (map f (range_with_len 0 n)) ≡ n = length-map-range_with_len f 0 n in
    get_or-map g (map f (range_with_len 0 n)) i (f i) 0 (omega arith) ∙ (ap g (get_or-map-range_with_len f 0 n i i (f i) inside (omega arith)) ∙ same i)

pub alone_queues : (n : ℕ) → queues_of (alone_nodes n) ≡ replicate n None
alone_queues n = map_same alone_node (λ (m : Node). queue_stored m.queue) None (λ i. refl) 0 n

pub alone_costs : (n : ℕ) → costs_of (alone_nodes n) ≡ replicate n 0
alone_costs n = map_same alone_node (λ (m : Node). m.cost) 0 (λ i. refl) 0 n

pub alone_next : (n i : ℕ) → i < n → get_or (next_nodes (alone_nodes n)) i 0 ≡ i
alone_next n i inside = map_count alone_node (λ (m : Node). m.next) (λ j. refl) n i inside

pub alone_previous : (n i : ℕ) → i < n → get_or (previous_nodes (alone_nodes n)) i 0 ≡ i
alone_previous n i inside = map_count alone_node (λ (m : Node). m.previous) (λ j. refl) n i inside

pub alone_count : {B : Type 0} (g : Node → B) (n : ℕ) → length (map g (alone_nodes n)) ≡ n
alone_count g n = length-map (alone_nodes n) g ∙ length-map-range_with_len alone_node 0 n

-- a write among the first stays one among the first
pub take_set : {B : Type 0} (n : ℕ) (xs : List B) (i : ℕ) (x : B) → take n (set xs i x) ≡ set (take n xs) i x
take_set zero xs i x = refl
take_set (suc n) [] i x = refl
take_set (suc n) (y ∷ ys) zero x = refl
take_set (suc n) (y ∷ ys) (suc i) x = ap (λ (zs : List _). y ∷ zs) (take_set n ys i x)
