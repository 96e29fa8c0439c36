-- One hash more.
use Rattle.std.proofs.Common.{◌≡◌, ◌≢◌, ℕ, zero, suc, ◌+◌, ◌-◌, ◌<◌, List, [], ◌∷◌, ◌++◌, Bool, false, cond, not, length, get_or, take, drop, refl, sym, ap, ◌∙◌, append_assoc, add-one, drop-cons, arith}
use Rattle.std.specs.Prelude.{◌==◌, codes}
use Rattle.std.proofs.lemmas.Bool.Decides.{nat_tests}
use Rattle.apf_flows.specs.Names.{hash_text}
use Rattle.apf_hands.specs.Alike.{others_of}
use Rattle.apf_hands.proofs.Written.{appends_more, texts_more}
use Rattle.apf_hands.proofs.brief.write_named.Goals as goal

take_step : (n x : ℕ) (xs : List ℕ) → n ≢ 0 → take n (x ∷ xs) ≡ x ∷ take (n - 1) xs
take_step zero x xs some = absurd (some refl)
take_step (suc n) x xs some = let same : n ≡ suc n - 1 = omega arith in ap (λ (k : ℕ). x ∷ take k xs) same

other_test : (hash other : ℕ) → other ≢ hash → (hash == other) ≡ false
other_test hash other apart = grind (arith, nat_tests)

named_step : (hash left i : ℕ) (hashes done : List ℕ) → i < length hashes → left ≢ 0 → get_or hashes i 0 ≢ hash
    → (done ++ get_or hashes i 0 ∷ []) ++ take (left - 1) (others_of hash (drop (i + 1) hashes)) ≡ done ++ take left (others_of hash (drop i hashes))
named_step hash left i hashes done within some apart =
    let other = get_or hashes i 0 in
    let rest = others_of hash (drop (i + 1) hashes) in
    let next : drop i hashes ≡ other ∷ drop (i + 1) hashes = rw (add-one, drop-cons hashes i 0) refl in
    let kept : others_of hash (drop i hashes) ≡ other ∷ rest =
    ap (λ (hs : List ℕ). others_of hash hs) next ∙ ap (λ (b : Bool). cond (not b) (other ∷ rest) rest) (other_test hash other apart) in
    append_assoc done (other ∷ []) (take (left - 1) rest)
    ∙ ap (λ (hs : List ℕ). done ++ hs) (sym (ap (λ (hs : List ℕ). take left hs) kept ∙ take_step left other rest some))

pub loop-other-preserved : goal.loop-other-preserved
loop-other-preserved g c =
    let told = g.W.Write.contents in
    let hashes = c.args.hashes.now in
    let i = c.loop-other.other-index in
    let done = c.loop-other.invariant.0 in
    let other = get_or hashes i 0 in (
      done ++ other ∷ [],
      texts_more (λ hash. codes " " ++ hash_text hash) done other (done ++ other ∷ []) refl (told c.args.out.now) (told c.loop-other.out) (told c.write_hash.new.out) c.loop-other.invariant.1
          (appends_more (told c.loop-other.out) (told c.write_all.new.self) (told c.write_hash.new.out) (codes " ") (hash_text other) c.in_ok-write_all.ensures.bytes c.in_ok-write_hash.ensures),
      named_step c.args.hash c.loop-other.left i hashes done c.loop-other-test.true c.if-left-eq0.false c.if-other-hash.false ∙ c.loop-other.invariant.2,
    )
