-- The word of what a word says is that word: what a level word is kept in loses nothing.
use Rattle.std.proofs.Common.{◌≡◌, ℕ, zero, suc, ◌+◌, ◌*◌, ◌/◌, ◌%◌, ◌^◌, ◌<◌, refl, ap, ◌∙◌, arith}
use Rattle.std.specs.Prelude.{◌==◌, not, if◌then◌else◌}
use Rattle.apf_words.specs.Level.{packed, unpacked, HasUnusedZero}

-- the highest bit, as packed has it
bit : (c : ℕ) → c < 2 → (if not (c == 0) then 2 ^ 63 else 0) ≡ 2 ^ 63 * c
bit zero below = refl
bit (suc zero) below = refl
bit (suc (suc c)) below = absurd (omega (arith, below))

pub packed_unpacked : (n : ℕ) → HasUnusedZero n → packed (unpacked n) ≡ n
packed_unpacked n h =
    let below = h.is_word in
    let unused = h.unused in
    let top : n / 2 ^ 63 < 2 = omega arith in
    let is : n % 2 ^ 20 + 2 ^ 20 * (n / 2 ^ 20 % 2 ^ 20) + 2 ^ 40 * (n / 2 ^ 40 % 2 ^ 20) + 2 ^ 63 * (n / 2 ^ 63) ≡ n = omega arith in
    ap (λ x. n % 2 ^ 20 + 2 ^ 20 * (n / 2 ^ 20 % 2 ^ 20) + 2 ^ 40 * (n / 2 ^ 40 % 2 ^ 20) + x) (bit (n / 2 ^ 63) top) ∙ is
