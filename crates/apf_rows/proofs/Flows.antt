-- One request more of a flow, in its row or in that of the others.
use Rattle.std.proofs.Common.{◌≡◌, ◌≢◌, ℕ, zero, suc, ◌+◌, ◌<◌, ◌≤◌, inl, inr, Bool, true, false, ◌||◌, cond, List, [], ◌∷◌, ◌++◌, length, map, set, get_or, All, refl, sym, ap, ◌∙◌, subst, arith}
use Rattle.std.specs.Prelude.{◌⊎◌, nat_eq}
use Rattle.std.specs.List.{IsDistinct, list_any}
use Rattle.std.proofs.lemmas.Bool.{cases_eq, eq-eqb, eqb-true}
use Rattle.std.proofs.lemmas.Bool.Decides.{eqb_tells}
use Rattle.std.proofs.lemmas.List.{get_or-map, get_or-set_other, get_or-set_same, length-map, length-set}
use Rattle.std.proofs.Math.Seq.{map-set_same}
use Rattle.std.proofs.lemmas.List.Elements.{All-append, All-from_recursion, All-set}
use Rattle.std.proofs.lemmas.List.Folds.{list_any-append, list_any_at}
use Rattle.std.proofs.lemmas.Map.Keys.{apart_from_distinct}
use Rattle.apf_stream.specs.declared.ended.Ended.{Ended}
use Rattle.apf_rows.specs.declared.row.Row.{Row}
use Rattle.apf_rows.specs.Accounts.{AccountView, IsAccount}
use Rattle.apf_rows.specs.Rows.{AreRows, AreRowsKept, RowsView, is_among, max_flows, of_flow, of_others}

pub not_both : (b : Bool) → b ≡ true → b ≡ false → ⊥
not_both b t f = absurd (cc)

differ : (a b : ℕ) → a ≢ b → nat_eq a b ≡ false
differ a b ne = elim (eqb_tells a b) [ inl e ↦ absurd (ne e.1) | inr e ↦ e.0 ]

apart_sym : (a b : ℕ) → nat_eq a b ≡ false → nat_eq b a ≡ false
apart_sym a b f = differ b a (λ e. not_both (nat_eq a b) (eq-eqb a b (sym e)) f)

-- ---- the requests of a flow, with one more

pub of_flow_same : (hash : ℕ) (told : List Ended) (e : Ended) → nat_eq e.hold.asked.hash hash ≡ true → of_flow hash (told ++ e ∷ []) ≡ of_flow hash told ++ e ∷ []
of_flow_same hash [] e is = ap (λ (b : Bool). cond b (e ∷ []) []) is
of_flow_same hash (x ∷ told) e is = by_first (nat_eq x.hold.asked.hash hash) (of_flow_same hash told e is)
  where
    by_first : (b : Bool) → of_flow hash (told ++ e ∷ []) ≡ of_flow hash told ++ e ∷ [] → cond b (x ∷ of_flow hash (told ++ e ∷ [])) (of_flow hash (told ++ e ∷ [])) ≡ cond b (x ∷ of_flow hash told) (of_flow hash told) ++ e ∷ []
    by_first true r = ap (λ (l : List Ended). x ∷ l) r
    by_first false r = r

pub of_flow_other : (hash : ℕ) (told : List Ended) (e : Ended) → nat_eq e.hold.asked.hash hash ≡ false → of_flow hash (told ++ e ∷ []) ≡ of_flow hash told
of_flow_other hash [] e is = ap (λ (b : Bool). cond b (e ∷ []) []) is
of_flow_other hash (x ∷ told) e is = ap (λ (l : List Ended). cond (nat_eq x.hold.asked.hash hash) (x ∷ l) l) (of_flow_other hash told e is)

pub of_others_there : (flows : List ℕ) (told : List Ended) (e : Ended) → is_among flows e.hold.asked.hash ≡ true → of_others flows (told ++ e ∷ []) ≡ of_others flows told
of_others_there flows [] e is = ap (λ (b : Bool). cond b [] (e ∷ [])) is
of_others_there flows (x ∷ told) e is = ap (λ (l : List Ended). cond (is_among flows x.hold.asked.hash) l (x ∷ l)) (of_others_there flows told e is)

pub of_others_more : (flows : List ℕ) (told : List Ended) (e : Ended) → is_among flows e.hold.asked.hash ≡ false → of_others flows (told ++ e ∷ []) ≡ of_others flows told ++ e ∷ []
of_others_more flows [] e is = ap (λ (b : Bool). cond b [] (e ∷ [])) is
of_others_more flows (x ∷ told) e is = by_first (is_among flows x.hold.asked.hash) (of_others_more flows told e is)
  where
    by_first : (b : Bool) → of_others flows (told ++ e ∷ []) ≡ of_others flows told ++ e ∷ [] → cond b (of_others flows (told ++ e ∷ [])) (x ∷ of_others flows (told ++ e ∷ [])) ≡ cond b (of_others flows told) (x ∷ of_others flows told) ++ e ∷ []
    by_first true r = r
    by_first false r = ap (λ (l : List Ended). x ∷ l) r

-- ---- which row is a request's

-- the row of a place has the hash of the flow of that place
pub hash_at : (rows : List Row) (flows : List ℕ) (i : ℕ) (d : Row) (h : ℕ) → map (λ (r : Row). r.hash) rows ≡ flows → i < length rows → get_or flows i h ≡ (get_or rows i d).hash
hash_at rows flows i d h are low = ap (λ (l : List ℕ). get_or l i h) (sym are) ∙ get_or-map (λ (r : Row). r.hash) rows i d h low

pub as_many : (rows : List Row) (flows : List ℕ) → map (λ (r : Row). r.hash) rows ≡ flows → length rows ≡ length flows
as_many rows flows are = sym (length-map rows (λ (r : Row). r.hash)) ∙ ap length are

-- no row is of a flow that is not among them
pub none_of : (flows : List ℕ) (hash i : ℕ) (d : ℕ) → is_among flows hash ≡ false → i < length flows → nat_eq hash (get_or flows i d) ≡ false
none_of flows hash i d none low = elim (eqb_tells hash (get_or flows i d)) [
  | inl e ↦ absurd (not_both (is_among flows hash) (list_any_at (nat_eq hash) flows i d low e.0) none)
  | inr e ↦ e.0
]

-- a flow has one place
pub one_place : (flows : List ℕ) (hash i j : ℕ) (d : ℕ) → IsDistinct nat_eq flows → i < length flows → j < length flows → j ≢ i → nat_eq hash (get_or flows i d) ≡ true → nat_eq hash (get_or flows j d) ≡ false
one_place flows hash i j d distinct low_i low_j ne is =
    let same : hash ≡ get_or flows i d = eqb-true hash (get_or flows i d) is in
    subst (λ (h : ℕ). nat_eq h (get_or flows j d) ≡ false) (sym same)
    (by_order (ne_order i j (λ e. ne (sym e))))
  where
    ne_order : (a b : ℕ) → a ≢ b → (a < b) ⊎ (b < a)
    ne_order a b n = grind arith

    by_order : (i < j) ⊎ (j < i) → nat_eq (get_or flows i d) (get_or flows j d) ≡ false
    by_order o = elim o [
      | inl l ↦ apart_from_distinct nat_eq flows i j d distinct l low_j
      | inr l ↦ apart_sym (get_or flows j d) (get_or flows i d) (apart_from_distinct nat_eq flows j i d distinct l low_i)
    ]

-- each row's account is of its flow's requests
abbrev pub AreEach : List Ended → List Row → Type 0
AreEach told rows = All (λ (r : Row). IsAccount (of_flow r.hash told) r.account) rows

-- the account with one request more
abbrev pub Adds : Ended → AccountView → AccountView → Type 0
Adds e a a' = (told : List Ended) → IsAccount told a → IsAccount (told ++ e ∷ []) a'

pub added_row : (told : List Ended) (e : Ended) (rows : List Row) (flows : List ℕ) (i : ℕ) (row : Row) → map (λ (r : Row). r.hash) rows ≡ flows → IsDistinct nat_eq flows → i < length rows
    → nat_eq e.hold.asked.hash (get_or flows i 0) ≡ true → row.hash ≡ (get_or rows i row).hash → Adds e (get_or rows i row).account row.account → AreEach told rows → AreEach (told ++ e ∷ []) (set rows i row)
added_row told e rows flows i row are distinct low is same adds all j d low_j =
    let many = as_many rows flows are in
    let n = length-set rows i row in
    let low_r : j < length rows = omega arith in
    elim (cases_eq j i) [
      | inl q ↦
          let own : nat_eq e.hold.asked.hash row.hash ≡ true = ap (nat_eq e.hold.asked.hash) (same ∙ sym (hash_at rows flows i row 0 are low)) ∙ is in
          let at : get_or (set rows i row) j d ≡ row = ap (λ (k : ℕ). get_or (set rows i row) k d) q ∙ get_or-set_same rows i row d low in
          subst (λ (r : Row). IsAccount (of_flow r.hash (told ++ e ∷ [])) r.account) (sym at)
          (subst (λ (t : List Ended). IsAccount t row.account) (sym (of_flow_same row.hash told e own))
          (adds (of_flow row.hash told) (subst (λ (h : ℕ). IsAccount (of_flow h told) (get_or rows i row).account) (sym same) (all i row low))))
      | inr ne ↦
          let at : get_or (set rows i row) j d ≡ get_or rows j d = get_or-set_other rows i j row d ne in
          let other : nat_eq e.hold.asked.hash (get_or rows j d).hash ≡ false =
          ap (nat_eq e.hold.asked.hash) (sym (hash_at rows flows j d 0 are low_r)) ∙ one_place flows e.hold.asked.hash i j 0 distinct (omega arith) (omega arith) ne is in
          subst (λ (r : Row). IsAccount (of_flow r.hash (told ++ e ∷ [])) r.account) (sym at)
          (subst (λ (t : List Ended). IsAccount t (get_or rows j d).account) (sym (of_flow_other (get_or rows j d).hash told e other)) (all j d low_r))
    ]

pub added_other : (told : List Ended) (e : Ended) (rows : List Row) (flows : List ℕ) → map (λ (r : Row). r.hash) rows ≡ flows → is_among flows e.hold.asked.hash ≡ false → AreEach told rows → AreEach (told ++ e ∷ []) rows
added_other told e rows flows are none all j d low =
    let many = as_many rows flows are in
    let other : nat_eq e.hold.asked.hash (get_or rows j d).hash ≡ false = ap (nat_eq e.hold.asked.hash) (sym (hash_at rows flows j d 0 are low)) ∙ none_of flows e.hold.asked.hash j 0 none (omega arith) in
    subst (λ (t : List Ended). IsAccount t (get_or rows j d).account) (sym (of_flow_other (get_or rows j d).hash told e other)) (all j d low)

pub found_among : (flows : List ℕ) (hash i : ℕ) → i < length flows → nat_eq hash (get_or flows i 0) ≡ true → is_among flows hash ≡ true
found_among flows hash i low is = list_any_at (nat_eq hash) flows i 0 low is

-- ---- a flow that is new

-- nobody of a flow was told that has no row, where nobody is among the others
pub nobody_of : (flows : List ℕ) (told : List Ended) (hash : ℕ) → length (of_others flows told) ≡ 0 → is_among flows hash ≡ false → of_flow hash told ≡ []
nobody_of flows [] hash none absent = refl
nobody_of flows (e ∷ told) hash none absent = elim (eqb_tells e.hold.asked.hash hash) [
  | inl q ↦
      let n : is_among flows e.hold.asked.hash ≡ false = ap (is_among flows) q.1 ∙ absent in
      let l : length (cond (is_among flows e.hold.asked.hash) (of_others flows told) (e ∷ of_others flows told)) ≡ length (e ∷ of_others flows told) = ap (λ (b : Bool). length (cond b (of_others flows told) (e ∷ of_others flows told))) n in
      absurd (omega arith)
  | inr q ↦ ap (λ (b : Bool). cond b (e ∷ of_flow hash told) (of_flow hash told)) q.0 ∙ nobody_of flows told hash (fewer (is_among flows e.hold.asked.hash) none) absent
]
  where
    fewer : (b : Bool) → length (cond b (of_others flows told) (e ∷ of_others flows told)) ≡ 0 → length (of_others flows told) ≡ 0
    fewer true n = n
    fewer false n = absurd (omega arith)

no_others_by : (flows : List ℕ) (told : List Ended) (hash : ℕ) (e : Ended) → (length (of_others flows told) ≡ 0 → length (of_others (flows ++ hash ∷ []) told) ≡ 0)
    → (b : Bool) → is_among flows e.hold.asked.hash ≡ b → length (cond b (of_others flows told) (e ∷ of_others flows told)) ≡ 0
    → length (cond (is_among (flows ++ hash ∷ []) e.hold.asked.hash) (of_others (flows ++ hash ∷ []) told) (e ∷ of_others (flows ++ hash ∷ []) told)) ≡ 0
no_others_by flows told hash e rest true is n =
    let there : is_among (flows ++ hash ∷ []) e.hold.asked.hash ≡ true = list_any-append (nat_eq e.hold.asked.hash) flows (hash ∷ []) ∙ ap (λ (b : Bool). b || list_any (nat_eq e.hold.asked.hash) (hash ∷ [])) is in
    ap (λ (b : Bool). length (cond b (of_others (flows ++ hash ∷ []) told) (e ∷ of_others (flows ++ hash ∷ []) told))) there ∙ rest n
no_others_by flows told hash e rest false is n = absurd (omega arith)

-- and nobody is among the others with one flow more
pub no_others : (flows : List ℕ) (told : List Ended) (hash : ℕ) → length (of_others flows told) ≡ 0 → length (of_others (flows ++ hash ∷ []) told) ≡ 0
no_others flows [] hash none = refl
no_others flows (e ∷ told) hash none = no_others_by flows told hash e (λ n. no_others flows told hash n) (is_among flows e.hold.asked.hash) refl none

pub nil_of : (told : List Ended) → length told ≡ 0 → told ≡ []
nil_of [] is = refl
nil_of (e ∷ told) is = absurd (omega arith)

-- ---- what rows keep

-- a row changes, but for its flow
pub kept_set : (flows : List ℕ) (rows : List Row) (others all all' : AccountView) (i : ℕ) (row : Row) → AreRowsKept (record { flows = flows; rows = rows; others = others; all = all })
    → row.hash ≡ (get_or rows i row).hash → row.account.sums.requests ≤ all'.sums.requests → all.sums.requests ≤ all'.sums.requests
    → AreRowsKept (record { flows = flows; rows = set rows i row; others = others; all = all' })
kept_set flows rows others all all' i row kept same low more = record {
  hashes = map-set_same (λ (r : Row). r.hash) rows i row row same ∙ kept.hashes;
  few = kept.few;
  distinct = kept.distinct;
  full = kept.full;
  below = All-set (λ (r : Row). r.account.sums.requests ≤ all'.sums.requests) rows i row low (λ j d l. let b = kept.below j d l in omega arith);
  below_others = let b = kept.below_others in omega arith;
}

-- ---- a request that was told

pub rows_added : (told : List Ended) (e : Ended) (v : RowsView) (i : ℕ) (row : Row) (all : AccountView) → AreRowsKept v → i < length v.rows → nat_eq e.hold.asked.hash (get_or v.flows i 0) ≡ true
    → row.hash ≡ (get_or v.rows i row).hash → Adds e (get_or v.rows i row).account row.account → Adds e v.all all → AreRows told v
    → AreRows (told ++ e ∷ []) (record { flows = v.flows; rows = set v.rows i row; others = v.others; all = all })
rows_added told e v i row all kept low is same adds adds_all are =
    let many = as_many v.rows v.flows kept.hashes in
    record {
      each = added_row told e v.rows v.flows i row kept.hashes kept.distinct low is same adds are.each;
      others = subst (λ (t : List Ended). IsAccount t v.others) (sym (of_others_there v.flows told e (found_among v.flows e.hold.asked.hash i (omega arith) is))) are.others;
      all = adds_all told are.all;
    }

pub others_added : (told : List Ended) (e : Ended) (v : RowsView) (others all : AccountView) → AreRowsKept v → is_among v.flows e.hold.asked.hash ≡ false → Adds e v.others others → Adds e v.all all → AreRows told v
    → AreRows (told ++ e ∷ []) (record { flows = v.flows; rows = v.rows; others = others; all = all })
others_added told e v others all kept none adds adds_all are = record {
  each = added_other told e v.rows v.flows kept.hashes none are.each;
  others = subst (λ (t : List Ended). IsAccount t others) (sym (of_others_more v.flows told e none)) (adds (of_others v.flows told) are.others);
  all = adds_all told are.all;
}

-- a row's account stays
pub rows_kept : (told : List Ended) (v : RowsView) (i : ℕ) (row : Row) → row.hash ≡ (get_or v.rows i row).hash → row.account ≡ (get_or v.rows i row).account → i < length v.rows → AreRows told v
    → AreRows told (record { flows = v.flows; rows = set v.rows i row; others = v.others; all = v.all })
rows_kept told v i row same account low are = record {
  each = All-set (λ (r : Row). IsAccount (of_flow r.hash told) r.account) v.rows i row
      (subst (λ (a : AccountView). IsAccount (of_flow row.hash told) a) (sym account) (subst (λ (h : ℕ). IsAccount (of_flow h told) (get_or v.rows i row).account) (sym same) (are.each i row low))) are.each;
  others = are.others;
  all = are.all;
}

-- a flow is new
pub rows_begun : (told : List Ended) (v : RowsView) (row : Row) → AreRowsKept v → is_among v.flows row.hash ≡ false → length v.flows < max_flows → IsAccount [] row.account → AreRows told v
    → AreRows told (record { flows = v.flows ++ row.hash ∷ []; rows = v.rows ++ row ∷ []; others = v.others; all = v.all })
rows_begun told v row kept absent room nobody are =
    let none : length (of_others v.flows told) ≡ 0 = sym are.others.sums.requests ∙ kept.full room in
    let own : of_flow row.hash told ≡ [] = nobody_of v.flows told row.hash none absent in
    let was : of_others v.flows told ≡ [] = nil_of (of_others v.flows told) none in
    let now : of_others (v.flows ++ row.hash ∷ []) told ≡ [] = nil_of (of_others (v.flows ++ row.hash ∷ []) told) (no_others v.flows told row.hash none) in
    record {
      each = All-append (λ (r : Row). IsAccount (of_flow r.hash told) r.account) v.rows (row ∷ []) are.each
          (All-from_recursion (λ (r : Row). IsAccount (of_flow r.hash told) r.account) (row ∷ []) (subst (λ (t : List Ended). IsAccount t row.account) (sym own) nobody, tt));
      others = subst (λ (t : List Ended). IsAccount t v.others) (was ∙ sym now) are.others;
      all = are.all;
    }

-- within a list the default does not count
pub any_default : {A : Type 0} (xs : List A) (i : ℕ) (a b : A) → i < length xs → get_or xs i a ≡ get_or xs i b
any_default [] i a b low = absurd (omega arith)
any_default (x ∷ xs) zero a b low = refl
any_default (x ∷ xs) (suc i) a b low = any_default xs i a b (omega arith)
