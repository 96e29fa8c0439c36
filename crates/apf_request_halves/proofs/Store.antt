-- What a store of lines holds after one was put in or taken out.
use Rattle.std.proofs.Common.{◌≡◌, ◌<◌, ◌≤◌, ◌+◌, ◌-◌, ℕ, List, [], ◌∷◌, ◌++◌, Bool, true, false, Option, Some, None, length, map, take, drop, refl, sym, ap, ◌∙◌, subst, inl, inr, cond, arith, nat_eq}
use Rattle.std.specs.Prelude.{IsPermutation, bytes_eq, count_by}
use Rattle.std.specs.List.{AllByRecursion}
use Rattle.std.specs.Map.{lookup_entry, remove_entry}
use Rattle.std.specs.Option.{option_map_or}
use Rattle.std.proofs.lemmas.List.{take-append-drop, map-append, length-map, length-take, length-drop}
use Rattle.std.proofs.lemmas.List.Elements.{All-cons, All-head, All-nil}
use Rattle.std.proofs.lemmas.List.Sums.{sum_by-cons}
use Rattle.std.proofs.lemmas.List.Sorted.{All-permutation, IsPermutation-refl, IsPermutation-sym, IsPermutation-cons, IsPermutation-to_front, IsPermutation-middle, IsPermutation-trans, length_permutation}
use Rattle.std.proofs.lemmas.Bool.Decides.{nat_tests}
use Rattle.lru.specs.LruCache.{LruCache, put_entries}
use Rattle.apf_request_halves.specs.Held.{Placed}
use Rattle.apf_request_halves.specs.Reading.{AreFalling, HadToGo, IsHeld, is_behind, max_held, takes_place}
use Rattle.apf_request_halves.proofs.Falling.{behind, falling_below, falling_front, falling_up}

module _ {K V : Type 0} (test : K → Bool) where
  -- the entry that is found passes
  pub passes : (es : List (K × V)) (e : K × V) → lookup_entry test es ≡ Some e → test e.0 ≡ true
  passes [] e is = absurd cc
  passes (x ∷ xs) e is = go (test x.0) refl (passes xs e) is
    where
      go : (b : Bool) → test x.0 ≡ b → (lookup_entry test xs ≡ Some e → test e.0 ≡ true) → cond b (Some x) (lookup_entry test xs) ≡ Some e → test e.0 ≡ true
      go true so later same =
          let one : x ≡ e = cc in
          subst (λ (y : K × V). test y.0 ≡ true) one so
      go false so later same = later same

  -- where none is found nothing goes
  pub none_out : (es : List (K × V)) → lookup_entry test es ≡ None → remove_entry test es ≡ es
  none_out [] is = refl
  none_out (x ∷ xs) is = go (test x.0) refl (none_out xs) is
    where
      go : (b : Bool) → test x.0 ≡ b → (lookup_entry test xs ≡ None → remove_entry test xs ≡ xs) → cond b (Some x) (lookup_entry test xs) ≡ None → remove_entry test (x ∷ xs) ≡ x ∷ xs
      go true so later same = absurd cc
      go false so later same = rw so (ap (λ ys. x ∷ ys) (later same))

  -- the entry that is found goes
  pub one_out : {P : Type 0} (f : K × V → P) (es : List (K × V)) (e : K × V) → lookup_entry test es ≡ Some e → IsPermutation (map f es) (f e ∷ map f (remove_entry test es))
  one_out f [] e is = absurd cc
  one_out {P} f (x ∷ xs) e is = go (test x.0) refl (one_out f xs e) is
    where
      go : (b : Bool) → test x.0 ≡ b → (lookup_entry test xs ≡ Some e → IsPermutation (map f xs) (f e ∷ map f (remove_entry test xs))) → cond b (Some x) (lookup_entry test xs) ≡ Some e → IsPermutation (map f (x ∷ xs)) (f e ∷ map f (remove_entry test (x ∷ xs)))
      go true so later same =
          let one : x ≡ e = cc in
          rw so (subst (λ (y : K × V). IsPermutation (f x ∷ map f xs) (f y ∷ map f xs)) one (IsPermutation-refl (f x ∷ map f xs)))
      go false so later same =
          rw so
          (IsPermutation-trans (f x ∷ map f xs) (f x ∷ f e ∷ map f (remove_entry test xs)) (f e ∷ f x ∷ map f (remove_entry test xs))
          (IsPermutation-cons (f x) (map f xs) (f e ∷ map f (remove_entry test xs)) (later same))
          (IsPermutation-middle (f x ∷ []) (f e) (map f (remove_entry test xs))))

  -- where none is found each fails
  pub each_fails : (es : List (K × V)) → lookup_entry test es ≡ None → AllByRecursion (λ e. test e.0 ≡ false) es
  each_fails [] is = tt
  each_fails (x ∷ xs) is = go (test x.0) refl (each_fails xs) is
    where
      go : (b : Bool) → test x.0 ≡ b → (lookup_entry test xs ≡ None → AllByRecursion (λ e. test e.0 ≡ false) xs) → cond b (Some x) (lookup_entry test xs) ≡ None → AllByRecursion (λ e. test e.0 ≡ false) (x ∷ xs)
      go true so later same = absurd cc
      go false so later same = (so, later same)

  -- lines that fall do so where one goes
  pub falling_out : (f : K × V → Placed) (top : ℕ) (es : List (K × V)) → AreFalling top (map f es) → AreFalling top (map f (remove_entry test es))
  falling_out f top [] falls = tt
  falling_out f top (x ∷ xs) falls = go (test x.0) refl (falling_out f (f x).number xs falls.1)
    where
      go : (b : Bool) → test x.0 ≡ b → AreFalling (f x).number (map f (remove_entry test xs)) → AreFalling top (map f (remove_entry test (x ∷ xs)))
      go true so later = rw so (falling_up top (f x).number (map f xs) (omega (arith, falls.0)) falls.1)
      go false so later = rw so (falls.0, later)

module _ {K V : Type 0} (f : K × V → Placed) where
  -- what is kept of a store where a line is put in front, and one of its id that is found goes
  pub replaced : (test : K → Bool) (es : List (K × V)) (e new : K × V) (line : Placed) → lookup_entry test es ≡ Some e → f new ≡ line → bytes_eq line.request.audit_id (f e).request.audit_id ≡ true → length es ≤ max_held
      → IsHeld line (map f es) (nat_eq (length (new ∷ remove_entry test es)) (length es)) (map f (new ∷ remove_entry test es))
  replaced test es e new line is same same_id most =
      let out = one_out test f es e is in
      let rest = map f (remove_entry test es) in
      let long : length (new ∷ remove_entry test es) ≡ length es =
      omega (arith, length_permutation (map f es) (f e ∷ rest) out, length-map es f, length-map (remove_entry test es) f) in
      let sure : nat_eq (length (new ∷ remove_entry test es)) (length es) ≡ true = grind (arith, nat_tests) in
      record {
        gone = f e ∷ [];
        all =
            rw same
            (IsPermutation-cons line (map f es) (rest ++ f e ∷ [])
            (IsPermutation-trans (map f es) (f e ∷ rest) (rest ++ f e ∷ []) out (IsPermutation-sym (rest ++ f e ∷ []) (f e ∷ rest) (IsPermutation-to_front rest (f e)))));
        count = rw sure refl;
        few = omega (arith, long, most, length-map (new ∷ remove_entry test es) f);
        order = λ falls. rw same (omega arith, falling_out test f line.number es falls);
        had_to = λ falls.
            let low : (f e).number < line.number = All-head (λ p. p.number < line.number) (f e) rest (All-permutation (λ p. p.number < line.number) (map f es) (f e ∷ rest) out (falling_below line.number (map f es) falls)) in
            let after : is_behind (f e) line ≡ true = grind (arith, nat_tests) in
            let takes : takes_place (f e) line ≡ true = rw (after, same_id) refl in
            let one : count_by (takes_place (f e)) (line ∷ rest) ≡ cond (takes_place (f e) line) 1 0 + count_by (takes_place (f e)) rest = sum_by-cons (λ x. cond (takes_place (f e) x) 1 0) line rest in
            let sum : count_by (takes_place (f e)) (line ∷ rest) ≡ 1 + count_by (takes_place (f e)) rest = one ∙ ap (λ b. cond b 1 0 + count_by (takes_place (f e)) rest) takes in
            rw same (All-cons (HadToGo (line ∷ rest)) (f e) [] (inl (omega (arith, sum))) (All-nil (HadToGo (line ∷ rest))));
      }

  -- where none is found the last one goes if there is no room
  pub added : (cap : ℕ) (es : List (K × V)) (new : K × V) → length es ≤ cap → cap ≡ max_held
      → IsHeld (f new) (map f es) (nat_eq (length (new ∷ take (cap - 1) es)) (length es)) (map f (new ∷ take (cap - 1) es))
  added cap es new few most =
      let front = map f (take (cap - 1) es) in
      let back = map f (drop (cap - 1) es) in
      let parts : map f es ≡ front ++ back = ap (map f) (sym (take-append-drop (cap - 1) es)) ∙ map-append f (take (cap - 1) es) (drop (cap - 1) es) in
      let front_long : length front ≡ length (take (cap - 1) es) = length-map (take (cap - 1) es) f in
      let back_long : length back ≡ length (drop (cap - 1) es) = length-map (drop (cap - 1) es) f in
      record {
        gone = back;
        all = rw (← parts) (IsPermutation-refl (f new ∷ map f es));
        count = rw length-map (grind (arith, nat_tests, length-take (cap - 1) es, length-drop (cap - 1) es));
        few = omega (arith, front_long, most, length-take (cap - 1) es);
        order = λ falls. (omega arith, falling_front (f new).number front back (subst (AreFalling (f new).number) parts falls));
        had_to = λ falls.
            let far = behind ((f new).number + 1) (f new ∷ front) back (omega arith, subst (AreFalling (f new).number) parts falls) in
            λ k d low. inr (subst (λ n. max_held ≤ n) (sym (far k d low)) (omega (arith, low, front_long, back_long, most, length-take (cap - 1) es, length-drop (cap - 1) es)));
      }

  -- a line is put into a store
  pub put_in : (eq : K → K → Bool) (c : LruCache K V) (k : K) (v : V) → ((x : K) → eq k x ≡ true → f (x, v) ≡ f (k, v)) → ((e : K × V) → eq k e.0 ≡ true → bytes_eq (f (k, v)).request.audit_id (f e).request.audit_id ≡ true)
      → length c.entries ≤ c.cap → c.cap ≡ max_held
      → IsHeld (f (k, v)) (map f c.entries) (nat_eq (length (put_entries eq c k v)) (length c.entries)) (map f (put_entries eq c k v))
  put_in eq c k v same same_id few most = go (lookup_entry (eq k) c.entries) refl
    where
      go : (o : Option (K × V)) → lookup_entry (eq k) c.entries ≡ o
          → IsHeld (f (k, v)) (map f c.entries) (nat_eq (length (option_map_or (λ e. (e.0, v) ∷ remove_entry (eq k) c.entries) o ((k, v) ∷ take (c.cap - 1) c.entries))) (length c.entries))
          (map f (option_map_or (λ e. (e.0, v) ∷ remove_entry (eq k) c.entries) o ((k, v) ∷ take (c.cap - 1) c.entries)))
      go None is = added c.cap c.entries (k, v) few most
      go (Some e) is =
          let passed = passes (eq k) c.entries e is in
          replaced (eq k) c.entries e (e.0, v) (f (k, v)) is (same e.0 passed) (same_id e passed) (subst (λ n. length c.entries ≤ n) most few)
