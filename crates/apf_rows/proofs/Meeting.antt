-- Which flows have a row, and under which names.
use Rattle.std.proofs.Common.{◌≡◌, ◌≢◌, ℕ, zero, suc, ◌+◌, ◌<◌, ◌≤◌, inl, inr, Bool, true, false, ◌||◌, List, [], ◌∷◌, ◌++◌, fold, length, map, set, get_or, All, Contains, refl, sym, ap, ◌∙◌, subst, length-append, arith}
use Rattle.std.specs.Prelude.{◌⊎◌, if◌then◌else◌, nat_eq, nat_lt}
use Rattle.std.specs.List.{list_any}
use Rattle.std.proofs.lemmas.Bool.{cases_eq, eq-eqb, eqb-true}
use Rattle.std.proofs.lemmas.Bool.Decides.{eqb_tells, nat_tests}
use Rattle.std.proofs.lemmas.List.{get_or-set_other, get_or-set_same, length-set}
use Rattle.std.proofs.lemmas.List.Elements.{All-append, All-from_recursion, All-set, Contains-append_cases, Contains-append_left, Contains-append_right}
use Rattle.std.proofs.lemmas.List.Folds.{list_any-append}
use Rattle.std.proofs.lemmas.List.Sums.{fold-append}
use Rattle.apf_times.specs.declared.window.Arrival.{Arrival}
use Rattle.apf_traces.specs.declared.request.TraceRequest.{TraceRequest}
use Rattle.apf_rows.specs.declared.row.Row.{Row}
use Rattle.apf_flows.specs.Names.{names_text}
use Rattle.apf_rows.specs.Accounts.{AccountView}
use Rattle.apf_rows.specs.Rows.{AreRowsKept, HaveMet, IsMet, IsNamed, NamesRow, RowsView, flows_of, is_among, max_flows, with_flow}
use Rattle.apf_rows.proofs.Flows.{as_many, found_among, hash_at, none_of, not_both, one_place}

abbrev pub Came : Type 0
Came = Arrival TraceRequest

flow_step : List ℕ → Came → List ℕ
flow_step flows x = with_flow flows x.item.hash

-- ---- the flows with one more

pub flows_then : (came : List Came) (x : Came) → flows_of (came ++ x ∷ []) ≡ with_flow (flows_of came) x.item.hash
flows_then came x = fold-append (λ flows y. with_flow flows y.item.hash) [] came (x ∷ [])

pub flow_there : (flows : List ℕ) (hash : ℕ) → is_among flows hash ≡ true → with_flow flows hash ≡ flows
flow_there flows hash is = ap (λ (b : Bool). if b then flows else if nat_lt (length flows) max_flows then flows ++ hash ∷ [] else flows) is

pub flow_new : (flows : List ℕ) (hash : ℕ) → is_among flows hash ≡ false → nat_lt (length flows) max_flows ≡ true → with_flow flows hash ≡ flows ++ hash ∷ []
flow_new flows hash is room =
    ap (λ (b : Bool). if b then flows else if nat_lt (length flows) max_flows then flows ++ hash ∷ [] else flows) is ∙ ap (λ (b : Bool). if b then flows ++ hash ∷ [] else flows) room

pub flow_full : (flows : List ℕ) (hash : ℕ) → is_among flows hash ≡ false → nat_lt (length flows) max_flows ≡ false → with_flow flows hash ≡ flows
flow_full flows hash is full =
    ap (λ (b : Bool). if b then flows else if nat_lt (length flows) max_flows then flows ++ hash ∷ [] else flows) is ∙ ap (λ (b : Bool). if b then flows ++ hash ∷ [] else flows) full

pub below_test : (a b : ℕ) → a < b → nat_lt a b ≡ true
below_test a b low = grind (arith, nat_tests)

pub above_test : (a b : ℕ) → b ≤ a → nat_lt a b ≡ false
above_test a b high = grind (arith, nat_tests)

by_test : (a b : ℕ) → nat_lt a b ≡ true → a < b
by_test a b is = grind (arith, nat_tests)

-- which way a flow goes
Ways : List ℕ → ℕ → Type 0
Ways flows hash = ((is_among flows hash ≡ true) × (with_flow flows hash ≡ flows)) ⊎ (((is_among flows hash ≡ false) × (length flows < max_flows) × (with_flow flows hash ≡ flows ++ hash ∷ [])) ⊎ ((is_among flows hash ≡ false) × (max_flows ≤ length flows) × (with_flow flows hash ≡ flows)))

ways_by : (flows : List ℕ) (hash : ℕ) (there room : Bool) → is_among flows hash ≡ there → nat_lt (length flows) max_flows ≡ room → Ways flows hash
unfolding Ways
ways_by flows hash true room is r = inl (is, flow_there flows hash is)
ways_by flows hash false true is r = inr (inl (is, by_test (length flows) max_flows r, flow_new flows hash is r))
ways_by flows hash false false is r = inr (inr (is, (let t = r in grind (arith, nat_tests)), flow_full flows hash is r))

ways : (flows : List ℕ) (hash : ℕ) → Ways flows hash
ways flows hash = ways_by flows hash (is_among flows hash) (nat_lt (length flows) max_flows) refl refl

own_among : (flows : List ℕ) (hash : ℕ) → is_among (flows ++ hash ∷ []) hash ≡ true
own_among flows hash = list_any-append (nat_eq hash) flows (hash ∷ []) ∙ last_true (is_among flows hash) (nat_eq hash hash) (eq-eqb hash hash refl)
  where
    last_true : (a b : Bool) → b ≡ true → (a || (b || false)) ≡ true
    last_true true true is = refl
    last_true true false is = refl
    last_true false true is = refl
    last_true false false is = is

still_among : (flows : List ℕ) (hash other : ℕ) → is_among flows hash ≡ true → is_among (flows ++ other ∷ []) hash ≡ true
still_among flows hash other is = list_any-append (nat_eq hash) flows (other ∷ []) ∙ ap (λ (b : Bool). b || list_any (nat_eq hash) (other ∷ [])) is

-- a flow that is among them stays, and there are never fewer
step_keeps : (flows : List ℕ) (hash other : ℕ) → is_among flows hash ≡ true → is_among (with_flow flows other) hash ≡ true
unfolding Ways
step_keeps flows hash other is = elim (ways flows other) [
  | inl w ↦ ap (λ (l : List ℕ). is_among l hash) w.1 ∙ is
  | inr v ↦ elim v [
    | inl w ↦ ap (λ (l : List ℕ). is_among l hash) w.2 ∙ still_among flows hash other is
    | inr w ↦ ap (λ (l : List ℕ). is_among l hash) w.2 ∙ is
  ]
]

step_grows : (flows : List ℕ) (other : ℕ) → length flows ≤ length (with_flow flows other)
unfolding Ways
step_grows flows other = elim (ways flows other) [
  | inl w ↦ let e = ap (λ (l : List ℕ). length l) w.1 in omega arith
  | inr v ↦ elim v [
    | inl w ↦ let e = ap (λ (l : List ℕ). length l) w.2 in let n = length-append flows (other ∷ []) in omega arith
    | inr w ↦ let e = ap (λ (l : List ℕ). length l) w.2 in omega arith
  ]
]

step_adds : (flows : List ℕ) (hash : ℕ) → length flows < max_flows → is_among (with_flow flows hash) hash ≡ true
unfolding Ways
step_adds flows hash room = elim (ways flows hash) [
  | inl w ↦ ap (λ (l : List ℕ). is_among l hash) w.1 ∙ w.0
  | inr v ↦ elim v [
    | inl w ↦ ap (λ (l : List ℕ). is_among l hash) w.2 ∙ own_among flows hash
    | inr w ↦ let h = w.1 in absurd (omega arith)
  ]
]

all_from : List ℕ → List Came → List ℕ
all_from flows came = fold (λ fs y. with_flow fs y.item.hash) flows came

run_keeps : (flows : List ℕ) (came : List Came) (hash : ℕ) → is_among flows hash ≡ true → is_among (fold (λ fs y. with_flow fs y.item.hash) flows came) hash ≡ true
run_keeps flows [] hash is = is
run_keeps flows (x ∷ came) hash is = run_keeps (with_flow flows x.item.hash) came hash (step_keeps flows hash x.item.hash is)

run_grows : (flows : List ℕ) (came : List Came) → length flows ≤ length (fold (λ fs (y : Came). with_flow fs y.item.hash) flows came)
run_grows flows [] = omega arith
run_grows flows (x ∷ came) = let a = step_grows flows x.item.hash in let b = run_grows (with_flow flows x.item.hash) came in omega arith

run_has : (flows : List ℕ) (came : List Came) (k : ℕ) (x : Came) → length (fold (λ fs (y : Came). with_flow fs y.item.hash) flows came) < max_flows → k < length came → get_or came k x ≡ x
    → is_among (fold (λ fs (y : Came). with_flow fs y.item.hash) flows came) x.item.hash ≡ true
run_has flows [] k x room low is = absurd (omega arith)
run_has flows (y ∷ came) zero x room low is =
    let g = step_grows flows y.item.hash in
    let r = run_grows (with_flow flows y.item.hash) came in
    subst (λ (z : Came). is_among (fold (λ fs (w : Came). with_flow fs w.item.hash) (with_flow flows y.item.hash) came) z.item.hash ≡ true) is
    (run_keeps (with_flow flows y.item.hash) came y.item.hash (step_adds flows y.item.hash (omega arith)))
run_has flows (y ∷ came) (suc k) x room low is = run_has (with_flow flows y.item.hash) came k x room (omega arith) is

-- each flow that came has a row, while there is room
pub has_row : (came : List Came) (x : Came) → length (flows_of came) < max_flows → Contains came x → is_among (flows_of came) x.item.hash ≡ true
has_row came x room has = run_has [] came has.0 x room has.1 has.2

-- ---- the names of the rows

only_at : (a b : Came) (i : ℕ) → i < length (a ∷ []) → get_or (a ∷ []) i b ≡ b → b ≡ a
only_at a b zero low is = sym is
only_at a b (suc i) low is = absurd (omega arith)

only : (a b : Came) → Contains (a ∷ []) b → b ≡ a
only a b h = only_at a b h.0 h.1 h.2

-- another flow's request came
pub named_still : (came : List Came) (x : Came) (r : Row) → nat_eq x.item.hash r.hash ≡ false → IsNamed came r → IsNamed (came ++ x ∷ []) r
named_still came x r other n = record {
  first = n.first;
  among = Contains-append_left came (x ∷ []) n.first n.among;
  flow = n.flow;
  is_line = n.is_line;
  named = n.named;
  least = λ y has own. elim (Contains-append_cases came (x ∷ []) y has) [
    | inl h ↦ n.least y h own
    | inr h ↦ let e = only x y h in absurd (not_both (nat_eq x.item.hash r.hash) (eq-eqb x.item.hash r.hash (ap (λ (z : Came). z.item.hash) (sym e) ∙ own)) other)
  ];
}

-- a request of the flow came
named_own : (came : List Came) (x : Came) (old new : Row) → nat_eq x.item.hash old.hash ≡ true → new.hash ≡ old.hash → NamesRow x old new → IsNamed came old → IsNamed (came ++ x ∷ []) new
named_own came x old new own same names n = elim names [
  | inl w ↦ record {
    first = x;
    among = Contains-append_right came (x ∷ []) x (0, omega arith, refl);
    flow = eqb-true x.item.hash old.hash own ∙ sym same;
    is_line = sym w.1;
    named = w.2;
    least = λ y has is. elim (Contains-append_cases came (x ∷ []) y has) [
      | inl h ↦ let l = n.least y h (is ∙ same) in let a = w.0 in let b = w.1 in omega arith
      | inr h ↦ let e = ap (λ (z : Came). z.place.line) (only x y h) in let b = w.1 in omega arith
    ];
  }
  | inr w ↦ record {
    first = n.first;
    among = Contains-append_left came (x ∷ []) n.first n.among;
    flow = n.flow ∙ sym same;
    is_line = n.is_line ∙ sym w.1;
    named = ap names_text w.2 ∙ n.named;
    least = λ y has is. elim (Contains-append_cases came (x ∷ []) y has) [
      | inl h ↦ let l = n.least y h (is ∙ same) in let b = w.1 in omega arith
      | inr h ↦ let e = ap (λ (z : Came). z.place.line) (only x y h) in let a = w.0 in let b = w.1 in omega arith
    ];
  }
]

-- a flow that has a row
pub found_met : (came : List Came) (x : Came) (v : RowsView) (i : ℕ) (row : Row) → AreRowsKept v → i < length v.rows → nat_eq x.item.hash (get_or v.flows i 0) ≡ true
    → row.hash ≡ (get_or v.rows i row).hash → NamesRow x (get_or v.rows i row) row → HaveMet came v → HaveMet (came ++ x ∷ []) (record { flows = v.flows; rows = set v.rows i row; others = v.others; all = v.all })
found_met came x v i row kept low is same names met =
    let many = as_many v.rows v.flows kept.hashes in
    let there = found_among v.flows x.item.hash i (omega arith) is in
    record {
      flows = sym (flow_there v.flows x.item.hash there) ∙ ap (λ (l : List ℕ). with_flow l x.item.hash) met.flows ∙ sym (flows_then came x);
      named = λ j d low_j.
          let n = length-set v.rows i row in
          let low_r : j < length v.rows = omega arith in
          elim (cases_eq j i) [
            | inl q ↦
                let at : get_or (set v.rows i row) j d ≡ row = ap (λ (k : ℕ). get_or (set v.rows i row) k d) q ∙ get_or-set_same v.rows i row d low in
                let own : nat_eq x.item.hash (get_or v.rows i row).hash ≡ true = ap (nat_eq x.item.hash) (sym (hash_at v.rows v.flows i row 0 kept.hashes low)) ∙ is in
                subst (IsNamed (came ++ x ∷ [])) (sym at) (named_own came x (get_or v.rows i row) row own same names (met.named i row low))
            | inr ne ↦
                let at : get_or (set v.rows i row) j d ≡ get_or v.rows j d = get_or-set_other v.rows i j row d ne in
                let other : nat_eq x.item.hash (get_or v.rows j d).hash ≡ false =
                ap (nat_eq x.item.hash) (sym (hash_at v.rows v.flows j d 0 kept.hashes low_r)) ∙ one_place v.flows x.item.hash i j 0 kept.distinct (omega arith) (omega arith) ne is in
                subst (IsNamed (came ++ x ∷ [])) (sym at) (named_still came x (get_or v.rows j d) other (met.named j d low_r))
          ];
    }

-- the names of the others stay
others_named : (came : List Came) (x : Came) (v : RowsView) → AreRowsKept v → is_among v.flows x.item.hash ≡ false → HaveMet came v → All (IsNamed (came ++ x ∷ [])) v.rows
others_named came x v kept none met j d low =
    let many = as_many v.rows v.flows kept.hashes in
    let other : nat_eq x.item.hash (get_or v.rows j d).hash ≡ false = ap (nat_eq x.item.hash) (sym (hash_at v.rows v.flows j d 0 kept.hashes low)) ∙ none_of v.flows x.item.hash j 0 none (omega arith) in
    named_still came x (get_or v.rows j d) other (met.named j d low)

-- a flow for which there is no room
pub full_met : (came : List Came) (x : Came) (v : RowsView) → AreRowsKept v → is_among v.flows x.item.hash ≡ false → max_flows ≤ length v.flows → HaveMet came v → HaveMet (came ++ x ∷ []) v
full_met came x v kept none full met = record {
  flows = sym (flow_full v.flows x.item.hash none (above_test (length v.flows) max_flows full)) ∙ ap (λ (l : List ℕ). with_flow l x.item.hash) met.flows ∙ sym (flows_then came x);
  named = others_named came x v kept none met;
}

-- a flow that is new
pub begun_met : (came : List Came) (x : Came) (v : RowsView) (row : Row) → AreRowsKept v → is_among v.flows x.item.hash ≡ false → length v.flows < max_flows
    → row.hash ≡ x.item.hash → row.first ≡ x.place.line → names_text row.names ≡ names_text x.item.names → HaveMet came v
    → HaveMet (came ++ x ∷ []) (record { flows = v.flows ++ row.hash ∷ []; rows = v.rows ++ row ∷ []; others = v.others; all = v.all })
begun_met came x v row kept none room hash first names met = record {
  flows = ap (λ (h : ℕ). v.flows ++ h ∷ []) hash ∙ sym (flow_new v.flows x.item.hash none (below_test (length v.flows) max_flows room)) ∙ ap (λ (l : List ℕ). with_flow l x.item.hash) met.flows ∙ sym (flows_then came x);
  named = All-append (IsNamed (came ++ x ∷ [])) v.rows (row ∷ []) (others_named came x v kept none met) (All-from_recursion (IsNamed (came ++ x ∷ [])) (row ∷ []) (own, tt));
}
  where
    absent : (y : Came) → Contains came y → y.item.hash ≡ row.hash → ⊥
    absent y has is =
        let few : length (flows_of came) < max_flows = let e = ap (λ (l : List ℕ). length l) met.flows in omega arith in
        not_both (is_among v.flows x.item.hash)
        (ap (λ (l : List ℕ). is_among l x.item.hash) met.flows ∙ ap (is_among (flows_of came)) (sym (is ∙ hash)) ∙ has_row came y few has) none

    own : IsNamed (came ++ x ∷ []) row
    own = record {
      first = x;
      among = Contains-append_right came (x ∷ []) x (0, omega arith, refl);
      flow = sym hash;
      is_line = sym first;
      named = names;
      least = λ y has is. elim (Contains-append_cases came (x ∷ []) y has) [
        | inl h ↦ absurd (absent y h is)
        | inr h ↦ let e = ap (λ (z : Came). z.place.line) (only x y h) in omega arith
      ];
    }

-- a flow that came has a row, or there is no room
pub is_met : (came : List Came) (v : RowsView) (x : Came) → HaveMet came v → Contains came x → IsMet v x.item.hash
is_met came v x met has room =
    let few : length (flows_of came) < max_flows = let e = ap (λ (l : List ℕ). length l) met.flows in let t = by_test (length v.flows) max_flows room in omega arith in
    ap (λ (l : List ℕ). is_among l x.item.hash) met.flows ∙ has_row came x few has

-- the names do not change with an account
pub named_set : (came : List Came) (v : RowsView) (i : ℕ) (row : Row) (all : AccountView) → IsNamed came row → HaveMet came v → HaveMet came (record { flows = v.flows; rows = set v.rows i row; others = v.others; all = all })
named_set came v i row all own met = record { flows = met.flows; named = All-set (IsNamed came) v.rows i row own met.named }
