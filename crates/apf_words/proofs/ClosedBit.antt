-- The bit of a closed level.
use Rattle.std.proofs.Common.{◌≡◌, ℕ, ◌+◌, ◌*◌, ◌^◌, ◌<◌, Bool, true, false, sym, ap, ◌∙◌, arith}
use Rattle.std.proofs.lemmas.Nat.{or_block, or_comm}
use Rattle.std.specs.Prelude.{bit_or}
use Rattle.apf_words.specs.Level.{Level, packed, AllBelow20Bits}

-- the bit of a closed level, beside the bits below it
high_or : (b x : ℕ) → x < 9223372036854775808 → bit_or (b * 9223372036854775808 + x) 9223372036854775808 ≡ bit_or b 1 * 9223372036854775808 + x
high_or b x a = or_block 63 b 1 x 0 a (omega arith) ∙ ap (λ y. bit_or b 1 * 9223372036854775808 + y) (or_comm x 0)

abbrev level : Bool → ℕ → ℕ → ℕ → Level
level closed waiters seats limit = record { closed = closed; waiters = waiters; seats = seats; limit = limit }

by_bit : (closed : Bool) (waiters seats limit : ℕ) → AllBelow20Bits waiters seats limit → bit_or (packed (level closed waiters seats limit)) 9223372036854775808 ≡ packed (level true waiters seats limit)
by_bit true waiters seats limit small =
    let x : ℕ = seats + 2 ^ 20 * waiters + 2 ^ 40 * limit in
    let below : x < 9223372036854775808 = omega arith in
    let is : packed (level true waiters seats limit) ≡ 1 * 9223372036854775808 + x = omega arith in
    let set : bit_or (1 * 9223372036854775808 + x) 9223372036854775808 ≡ 1 * 9223372036854775808 + x = high_or 1 x below in
    ap (λ y. bit_or y 9223372036854775808) is ∙ (set ∙ sym is)
by_bit false waiters seats limit small =
    let x : ℕ = seats + 2 ^ 20 * waiters + 2 ^ 40 * limit in
    let below : x < 9223372036854775808 = omega arith in
    let is : packed (level false waiters seats limit) ≡ 0 * 9223372036854775808 + x = omega arith in
    let set : bit_or (0 * 9223372036854775808 + x) 9223372036854775808 ≡ 1 * 9223372036854775808 + x = high_or 0 x below in
    ap (λ y. bit_or y 9223372036854775808) is ∙ (set ∙ (omega arith))

-- a word with the bit set is that of a closed level
pub closes : (l : Level) → AllBelow20Bits l.waiters l.seats l.limit → bit_or (packed l) 9223372036854775808 ≡ packed (record l { closed = true })
closes l small = by_bit l.closed l.waiters l.seats l.limit small
