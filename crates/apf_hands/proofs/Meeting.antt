-- The first requests of flows, with one request more.
use Rattle.std.proofs.Common.{◌≡◌, ◌≢◌, ℕ, zero, suc, ◌<◌, ◌≤◌, inl, inr, Bool, true, false, ◌||◌, List, [], ◌∷◌, ◌++◌, Option, Some, None, Ok, length, map, set, get_or, Contains, refl, sym, ap, ◌∙◌, subst, arith}
use Rattle.std.specs.Prelude.{◌⊎◌, if◌then◌else◌, nat_eq, nat_lt}
use Rattle.std.specs.List.{IsDistinct, list_any}
use Rattle.std.specs.List.Sorted.{IsPermutation}
use Rattle.std.proofs.KnownBytes.{Consumes-nil, Consumes-trans}
use Rattle.std.proofs.lemmas.Bool.{cases_eq, eq-eqb, eqb-true}
use Rattle.std.proofs.lemmas.Bool.Decides.{eqb_tells, nat_tests}
use Rattle.std.proofs.lemmas.List.{get_or-map, get_or-set_other, get_or-set_same, length-map, length-set, map_push}
use Rattle.std.proofs.Math.Seq.{map-set_same}
use Rattle.std.proofs.lemmas.List.Elements.{All-nil, All-push, All-set, All-weaker, Contains-append_left, Contains-push, Contains-push_cases}
use Rattle.std.proofs.lemmas.List.Folds.{list_any-append, list_any_at}
use Rattle.std.proofs.lemmas.List.Sorted.{All-permutation, Contains-permutation, IsPermutation-map, IsPermutation-sym, list_any-IsPermutation}
use Rattle.std.proofs.lemmas.Map.Keys.{IsDistinct-IsPermutation, apart_from_distinct}
use Rattle.apf_times.specs.declared.window.Arrival.{Arrival}
use Rattle.apf_traces.specs.declared.request.TraceRequest.{TraceRequest}
use Rattle.apf_trace_reader.specs.Reading.{AnswersEach, AreAll, HasRead, arrivals_from}
use Rattle.apf_trace_reader.specs.Views.{ReaderView}
use Rattle.apf_hands.specs.Firsts.{AreFirst, HasMet, HaveCome, IsLeast, IsMeeting, hash_of}

abbrev pub Came : Type 0
Came = Arrival TraceRequest

not_both : (b : Bool) → b ≡ true → b ≡ false → ⊥
not_both b t f = absurd (cc)

differ : (a b : ℕ) → a ≢ b → nat_eq a b ≡ false
differ a b ne = elim (eqb_tells a b) [ inl e ↦ absurd (ne e.1) | inr e ↦ e.0 ]

apart_sym : (a b : ℕ) → nat_eq a b ≡ false → nat_eq b a ≡ false
apart_sym a b f = differ b a (λ e. not_both (nat_eq a b) (eq-eqb a b (sym e)) f)

still : (a b : Bool) → a ≡ true → (a || b) ≡ true
still a b is = ap (λ (c : Bool). c || b) is

own : (a b : Bool) → b ≡ true → (a || (b || false)) ≡ true
own true b is = refl
own false b is = ap (λ (c : Bool). c || false) is

-- the hash of the first request at a place
hash_at : (firsts : List Came) (i : ℕ) (d : Came) → i < length firsts → get_or (map hash_of firsts) i 0 ≡ hash_of (get_or firsts i d)
hash_at firsts i d low = get_or-map hash_of firsts i d 0 low

-- ---- a flow's first request came

-- a request of another flow is not of lower line among those of the flow
least_still : (came : List Came) (x f : Came) → nat_eq (hash_of x) (hash_of f) ≡ false → IsLeast came f → IsLeast (came ++ x ∷ []) f
least_still came x f apart least y has same = elim (Contains-push_cases came x y has) [
  | inl h ↦ least y h same
  | inr e ↦ absurd (not_both (nat_eq (hash_of x) (hash_of f)) (eq-eqb (hash_of x) (hash_of f) (ap hash_of e ∙ same)) apart)
]

-- one that is among the flows is of a flow that is
none_of : (firsts : List Came) (x : Came) (i : ℕ) (d : Came) → list_any (nat_eq (hash_of x)) (map hash_of firsts) ≡ false → i < length firsts → nat_eq (hash_of x) (hash_of (get_or firsts i d)) ≡ false
none_of firsts x i d none low = elim (eqb_tells (hash_of x) (hash_of (get_or firsts i d))) [
  | inl e ↦
      let many = length-map firsts hash_of in
      let at : nat_eq (hash_of x) (get_or (map hash_of firsts) i 0) ≡ true = ap (nat_eq (hash_of x)) (hash_at firsts i d low) ∙ e.0 in
      absurd (not_both (list_any (nat_eq (hash_of x)) (map hash_of firsts)) (list_any_at (nat_eq (hash_of x)) (map hash_of firsts) i 0 (omega arith) at) none)
  | inr e ↦ e.0
]

-- the first request of a flow is of the lowest line
least_new : (came firsts : List Came) (x : Came) → list_any (nat_eq (hash_of x)) (map hash_of firsts) ≡ false → AreFirst came firsts → IsLeast (came ++ x ∷ []) x
least_new came firsts x none h y has same = elim (Contains-push_cases came x y has) [
  | inl c ↦ absurd (not_both (list_any (nat_eq (hash_of x)) (map hash_of firsts)) (subst (λ (n : ℕ). list_any (nat_eq n) (map hash_of firsts) ≡ true) same (h.each y c)) none)
  | inr e ↦ let l = ap (λ (z : Came). z.place.line) e in omega arith
]

pub begun : (came firsts : List Came) (x : Came) → list_any (nat_eq (hash_of x)) (map hash_of firsts) ≡ false → AreFirst came firsts → AreFirst (came ++ x ∷ []) (firsts ++ x ∷ [])
begun came firsts x none h =
    let hashes : map hash_of (firsts ++ x ∷ []) ≡ map hash_of firsts ++ hash_of x ∷ [] = map_push hash_of firsts x in
    record {
      among = All-push (Contains (came ++ x ∷ [])) firsts x (All-weaker (Contains came) (Contains (came ++ x ∷ [])) (λ f c. Contains-append_left came (x ∷ []) f c) firsts h.among) (Contains-push came x);
      least = All-push (IsLeast (came ++ x ∷ [])) firsts x (λ i d low. least_still came x (get_or firsts i d) (none_of firsts x i d none low) (h.least i d low)) (least_new came firsts x none h);
      each = λ y has. ap (list_any (nat_eq (hash_of y))) hashes ∙ list_any-append (nat_eq (hash_of y)) (map hash_of firsts) (hash_of x ∷ []) ∙ elim (Contains-push_cases came x y has) [
        | inl c ↦ still (list_any (nat_eq (hash_of y)) (map hash_of firsts)) _ (h.each y c)
        | inr e ↦ own (list_any (nat_eq (hash_of y)) (map hash_of firsts)) (nat_eq (hash_of y) (hash_of x)) (eq-eqb (hash_of y) (hash_of x) (sym (ap hash_of e)))
      ];
    }

-- ---- one more of a flow came

-- the first request of the flow is the one of the lower line
abbrev pub lower_of : Came → Came → Came
lower_of x old = if nat_lt x.place.line old.place.line then x else old

record Lower (x old : Came) : Type 0 where
  hash : hash_of (lower_of x old) ≡ hash_of old
  one : lower_of x old ≡ x ⊎ lower_of x old ≡ old
  not_after : (lower_of x old).place.line ≤ x.place.line
  not_later : (lower_of x old).place.line ≤ old.place.line

lower_by : (b : Bool) (x old : Came) → nat_lt x.place.line old.place.line ≡ b → hash_of x ≡ hash_of old → Lower x old
lower_by true x old is same =
    let e : lower_of x old ≡ x = ap (λ (b : Bool). if b then x else old) is in
    let l = ap (λ (z : Came). z.place.line) e in
    let t : x.place.line < old.place.line = (let u = is in grind (arith, nat_tests)) in
    record { hash = ap hash_of e ∙ same; one = inl e; not_after = omega arith; not_later = omega arith }
lower_by false x old is same =
    let e : lower_of x old ≡ old = ap (λ (b : Bool). if b then x else old) is in
    let l = ap (λ (z : Came). z.place.line) e in
    let t : old.place.line ≤ x.place.line = (let u = is in grind (arith, nat_tests)) in
    record { hash = ap hash_of e; one = inr e; not_after = omega arith; not_later = omega arith }

lower : (x old : Came) → hash_of x ≡ hash_of old → Lower x old
lower x old same = lower_by (nat_lt x.place.line old.place.line) x old refl same

lower_among : (came : List Came) (x old : Came) → Lower x old → Contains came old → Contains (came ++ x ∷ []) (lower_of x old)
lower_among came x old l has = elim l.one [
  | inl e ↦ subst (Contains (came ++ x ∷ [])) (sym e) (Contains-push came x)
  | inr e ↦ subst (Contains (came ++ x ∷ [])) (sym e) (Contains-append_left came (x ∷ []) old has)
]

lower_least : (came : List Came) (x old : Came) → Lower x old → IsLeast came old → IsLeast (came ++ x ∷ []) (lower_of x old)
lower_least came x old l least y has same = elim (Contains-push_cases came x y has) [
  | inl c ↦ let a = least y c (same ∙ l.hash) in let b = l.not_later in omega arith
  | inr e ↦ let a = ap (λ (z : Came). z.place.line) e in let b = l.not_after in omega arith
]

-- another place is of another flow
other_place : (firsts : List Came) (x : Came) (i j : ℕ) (d : Came) → IsDistinct nat_eq (map hash_of firsts) → i < length firsts → j < length firsts → j ≢ i → nat_eq (hash_of x) (get_or (map hash_of firsts) i 0) ≡ true
    → nat_eq (hash_of x) (hash_of (get_or firsts j d)) ≡ false
other_place firsts x i j d distinct low_i low_j ne is =
    let many = length-map firsts hash_of in
    let hashes = map hash_of firsts in
    let same : hash_of x ≡ get_or hashes i 0 = eqb-true (hash_of x) (get_or hashes i 0) is in
    subst (λ (n : ℕ). nat_eq (hash_of x) n ≡ false) (hash_at firsts j d low_j) (subst (λ (n : ℕ). nat_eq n (get_or hashes j 0) ≡ false) (sym same) (by_order hashes (by_ne i j (λ e. ne (sym e))) (omega arith) (omega arith)))
  where
    by_ne : (a b : ℕ) → a ≢ b → (a < b) ⊎ (b < a)
    by_ne a b n = grind arith

    by_order : (hashes : List ℕ) → (i < j) ⊎ (j < i) → i < length (map hash_of firsts) → j < length (map hash_of firsts) → nat_eq (get_or (map hash_of firsts) i 0) (get_or (map hash_of firsts) j 0) ≡ false
    by_order hashes o li lj = elim o [
      | inl l ↦ apart_from_distinct nat_eq (map hash_of firsts) i j 0 distinct l lj
      | inr l ↦ apart_sym (get_or (map hash_of firsts) j 0) (get_or (map hash_of firsts) i 0) (apart_from_distinct nat_eq (map hash_of firsts) j i 0 distinct l li)
    ]

module _ (came firsts : List Came) (x : Came) (i : ℕ) (low : i < length firsts) (is : nat_eq (hash_of x) (get_or (map hash_of firsts) i 0) ≡ true) where
  same : hash_of x ≡ hash_of (get_or firsts i x)
  same = eqb-true (hash_of x) (get_or (map hash_of firsts) i 0) is ∙ hash_at firsts i x low

  is_lower : Lower x (get_or firsts i x)
  is_lower = lower x (get_or firsts i x) same

  -- the flows stay
  pub hashes_stay : map hash_of (set firsts i (lower_of x (get_or firsts i x))) ≡ map hash_of firsts
  hashes_stay = map-set_same hash_of firsts i (lower_of x (get_or firsts i x)) x (is_lower.hash)

  pub found : IsDistinct nat_eq (map hash_of firsts) → AreFirst came firsts → AreFirst (came ++ x ∷ []) (set firsts i (lower_of x (get_or firsts i x)))
  found distinct h =
      let many = length-map firsts hash_of in
      record {
        among = All-set (Contains (came ++ x ∷ [])) firsts i (lower_of x (get_or firsts i x)) (lower_among came x (get_or firsts i x) is_lower (h.among i x low))
            (All-weaker (Contains came) (Contains (came ++ x ∷ [])) (λ f c. Contains-append_left came (x ∷ []) f c) firsts h.among);
        least = λ j d low_j.
            let n = length-set firsts i (lower_of x (get_or firsts i x)) in
            let low_r : j < length firsts = omega arith in
            elim (cases_eq j i) [
              | inl q ↦
                  let at : get_or (set firsts i (lower_of x (get_or firsts i x))) j d ≡ lower_of x (get_or firsts i x) =
                  ap (λ (k : ℕ). get_or (set firsts i (lower_of x (get_or firsts i x))) k d) q ∙ get_or-set_same firsts i (lower_of x (get_or firsts i x)) d low in
                  subst (IsLeast (came ++ x ∷ [])) (sym at) (lower_least came x (get_or firsts i x) is_lower (h.least i x low))
              | inr ne ↦
                  let at : get_or (set firsts i (lower_of x (get_or firsts i x))) j d ≡ get_or firsts j d = get_or-set_other firsts i j (lower_of x (get_or firsts i x)) d ne in
                  subst (IsLeast (came ++ x ∷ [])) (sym at) (least_still came x (get_or firsts j d) (other_place firsts x i j d distinct low low_r ne is) (h.least j d low_r))
            ];
        each = λ y has. ap (list_any (nat_eq (hash_of y))) hashes_stay ∙ elim (Contains-push_cases came x y has) [
          | inl c ↦ h.each y c
          | inr e ↦ list_any_at (nat_eq (hash_of y)) (map hash_of firsts) i 0 (omega arith) (ap (λ (z : Came). nat_eq (hash_of z) (get_or (map hash_of firsts) i 0)) (sym e) ∙ is)
        ];
      }

-- ---- the trace is read

-- nobody came
pub nobody : AreFirst [] []
nobody = record {
  among = All-nil (Contains []);
  least = All-nil (IsLeast []);
  each = λ x has. let l = has.1 in absurd (omega arith);
}

-- one more was handed out
pub met_more : (was mid left : Option (List ℕ)) (firsts firsts' : List Came) (x : Came) (v v' : ReaderView) → AnswersEach mid left v (Ok (Some x)) v'
    → ((before : List Came) → AreFirst before firsts → AreFirst (before ++ x ∷ []) firsts') → HasMet was mid firsts v → HasMet was left firsts' v'
met_more was mid left firsts firsts' x v v' answers meets h =
    let a = answers h.bytes h.came h.read in
    record {
      bytes = h.bytes ++ a.0;
      given = Consumes-trans was mid left h.bytes a.0 h.given a.1;
      came = h.came ++ x ∷ [];
      read = a.2;
      first = meets h.came h.first;
    }

-- what is first among these is first among the same in another order
pub first_moved : (came others firsts : List Came) → IsPermutation others came → AreFirst came firsts → AreFirst others firsts
first_moved came others firsts same h = record {
  among = All-weaker (Contains came) (Contains others) (λ f c. Contains-permutation came others f (IsPermutation-sym others came same) c) firsts h.among;
  least = All-weaker (IsLeast came) (IsLeast others) (λ f l y has own. l y (Contains-permutation others came y same has) own) firsts h.least;
  each = λ y has. h.each y (Contains-permutation others came y same has);
}

-- all were handed out
pub all_met : (size : ℕ) (was mid left : Option (List ℕ)) (firsts : List Came) (v v' : ReaderView) → AnswersEach mid left v (Ok None) v' → v'.window.size ≡ size
    → HasMet was mid firsts v → HaveCome size was left firsts
all_met size was mid left firsts v v' answers is h =
    let a = answers h.bytes h.came h.read in
    let all : AreAll size (h.bytes ++ a.0) h.came = subst (λ (n : ℕ). AreAll n (h.bytes ++ a.0) h.came) is a.2.1 in
    record {
      bytes = h.bytes ++ a.0;
      given = Consumes-trans was mid left h.bytes a.0 h.given a.1;
      end = a.2.2;
      requests = all.requests;
      are = all.are;
      first = first_moved h.came (arrivals_from 1 all.requests) firsts all.same h.first;
    }

-- the first requests in another order
pub firsts_moved : (size : ℕ) (was left : Option (List ℕ)) (firsts others : List Came) → IsPermutation firsts others → HaveCome size was left firsts → HaveCome size was left others
firsts_moved size was left firsts others same h =
    let came = arrivals_from 1 h.requests in
    record {
      bytes = h.bytes;
      given = h.given;
      end = h.end;
      requests = h.requests;
      are = h.are;
      first = record {
        among = All-permutation (Contains came) firsts others same h.first.among;
        least = All-permutation (IsLeast came) firsts others same h.first.least;
        each = λ y has. sym (list_any-IsPermutation (nat_eq (hash_of y)) (map hash_of firsts) (map hash_of others) (IsPermutation-map hash_of firsts others same)) ∙ h.first.each y has;
      };
    }

pub distinct_moved : (firsts others : List Came) → IsPermutation firsts others → IsDistinct nat_eq (map hash_of firsts) → IsDistinct nat_eq (map hash_of others)
distinct_moved firsts others same distinct = IsDistinct-IsPermutation nat_eq flips (map hash_of firsts) (map hash_of others) (IsPermutation-map hash_of firsts others same) distinct
  where
    flips_by : (a b : ℕ) (p q : Bool) → nat_eq a b ≡ p → nat_eq b a ≡ q → p ≡ q
    flips_by a b true true e f = refl
    flips_by a b false false e f = refl
    flips_by a b true false e f = absurd (not_both (nat_eq b a) (eq-eqb b a (sym (eqb-true a b e))) f)
    flips_by a b false true e f = absurd (not_both (nat_eq a b) (eq-eqb a b (sym (eqb-true b a f))) e)

    flips : (a b : ℕ) → nat_eq a b ≡ nat_eq b a
    flips a b = flips_by a b (nat_eq a b) (nat_eq b a) refl refl

-- before anything was read
pub met_none : (was : Option (List ℕ)) (v : ReaderView) → HasRead [] [] was v → HasMet was was [] v
met_none was v read = record { bytes = []; given = Consumes-nil was; came = []; read = read; first = nobody }

pub any_default : {A : Type 0} (xs : List A) (i : ℕ) (a b : A) → i < length xs → get_or xs i a ≡ get_or xs i b
any_default [] i a b low = absurd (omega arith)
any_default (x ∷ xs) zero a b low = refl
any_default (x ∷ xs) (suc i) a b low = any_default xs i a b (omega arith)

-- what is kept while requests come, where one of a flow that is known came
pub meeting_kept : (flows : List ℕ) (firsts : List Came) (x : Came) (i : ℕ) (old now : Came) → IsMeeting flows firsts → i < length flows → nat_eq (hash_of x) (get_or flows i 0) ≡ true
    → old ≡ get_or firsts i old → now ≡ lower_of x old → IsMeeting flows (set firsts i now)
meeting_kept flows firsts x i old now kept low is at now_is =
    let m = ap (λ (l : List ℕ). length l) kept.hashes in
    let n = length-map firsts hash_of in
    let low_f : i < length firsts = omega arith in
    let is_f : nat_eq (hash_of x) (get_or (map hash_of firsts) i 0) ≡ true = ap (λ (l : List ℕ). nat_eq (hash_of x) (get_or l i 0)) kept.hashes ∙ is in
    let e : now ≡ lower_of x (get_or firsts i x) = now_is ∙ ap (lower_of x) (at ∙ any_default firsts i old x low_f) in
    subst (λ (f : Came). IsMeeting flows (set firsts i f)) (sym e) (record {
      hashes = hashes_stay [] firsts x i low_f is_f ∙ kept.hashes;
      distinct = kept.distinct;
    })

pub meeting_met : (before : List Came) (flows : List ℕ) (firsts : List Came) (x : Came) (i : ℕ) (old now : Came) → IsMeeting flows firsts → i < length flows → nat_eq (hash_of x) (get_or flows i 0) ≡ true
    → old ≡ get_or firsts i old → now ≡ lower_of x old → AreFirst before firsts → AreFirst (before ++ x ∷ []) (set firsts i now)
meeting_met before flows firsts x i old now kept low is at now_is met =
    let m = ap (λ (l : List ℕ). length l) kept.hashes in
    let n = length-map firsts hash_of in
    let low_f : i < length firsts = omega arith in
    let is_f : nat_eq (hash_of x) (get_or (map hash_of firsts) i 0) ≡ true = ap (λ (l : List ℕ). nat_eq (hash_of x) (get_or l i 0)) kept.hashes ∙ is in
    let e : now ≡ lower_of x (get_or firsts i x) = now_is ∙ ap (lower_of x) (at ∙ any_default firsts i old x low_f) in
    subst (λ (f : Came). AreFirst (before ++ x ∷ []) (set firsts i f)) (sym e)
    (found before firsts x i low_f is_f (subst (IsDistinct nat_eq) (sym kept.hashes) kept.distinct) met)
