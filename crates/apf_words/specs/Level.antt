-- What a level word says, and the word that says it.
use Rattle.std.specs.Prelude.{◌≡◌, ℕ, ◌+◌, ◌*◌, ◌/◌, ◌%◌, ◌^◌, ◌<◌, ◌==◌, Bool, not, if◌then◌else◌}

-- what a level word says
pub record Level : Type 0 where
  pub closed : Bool
  pub waiters : ℕ
  pub seats : ℕ
  pub limit : ℕ

-- the numbers that the word has room for
abbrev pub AllBelow20Bits : ℕ → ℕ → ℕ → Type 0
AllBelow20Bits waiters seats limit = (waiters < 2 ^ 20) × (seats < 2 ^ 20) × (limit < 2 ^ 20)

-- the word: bits 0 to 19 are the seats, 20 to 39 the waiters, 40 to 59 the limit, and 63 is the closed bit
abbrev pub packed : Level → ℕ
packed l = l.seats + 2 ^ 20 * l.waiters + 2 ^ 40 * l.limit + (if l.closed then 2 ^ 63 else 0)

-- what a word says
abbrev pub unpacked : ℕ → Level
unpacked n = record { closed = not (n / 2 ^ 63 == 0); waiters = n / 2 ^ 20 % 2 ^ 20; seats = n % 2 ^ 20; limit = n / 2 ^ 40 % 2 ^ 20 }

-- the bits 60 to 62 of a number below 2^64 are zero
pub record HasUnusedZero (n : ℕ) : Type 0 where
  pub is_word : n < 2 ^ 64
  pub unused : n / 2 ^ 60 % 8 ≡ 0
