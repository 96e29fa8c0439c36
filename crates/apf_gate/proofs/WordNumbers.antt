-- The numbers of words, and what they say.
use Rattle.std.proofs.Common.{◌≡◌, ℕ, ◌+◌, ◌-◌, Bool, true, false, Option, Some, None, refl, ap, arith}
use Rattle.apf_words.specs.Codes.{code_of, code_in}
use Rattle.apf_words.specs.Level.{Level, packed, AllBelow20Bits}
use Rattle.apf_words.specs.declared.decision.Decision.{Decision}
use Rattle.apf_words.specs.declared.decision.Decision.TheVariants.{Execute, QueueFull, Closed, Cancelled, ConcurrencyLimit}

abbrev pub IsSmall : Level → Type 0
IsSmall l = AllBelow20Bits l.waiters l.seats l.limit

abbrev level : Bool → ℕ → ℕ → ℕ → Level
level c w s n = record { closed = c; waiters = w; seats = s; limit = n }

same_fields : (c : Bool) (w s n w' s' n' : ℕ) → IsSmall (level c w s n) → IsSmall (level c w' s' n') → packed (level c w s n) ≡ packed (level c w' s' n') → level c w s n ≡ level c w' s' n'
same_fields true w s n w' s' n' a b e =
    let x : w ≡ w' = omega arith in
    let y : s ≡ s' = omega arith in
    let z : n ≡ n' = omega arith in
    λ i. level true (x i) (y i) (z i)
same_fields false w s n w' s' n' a b e =
    let x : w ≡ w' = omega arith in
    let y : s ≡ s' = omega arith in
    let z : n ≡ n' = omega arith in
    λ i. level false (x i) (y i) (z i)

same_levels : (c d : Bool) (w s n w' s' n' : ℕ) → IsSmall (level c w s n) → IsSmall (level d w' s' n') → packed (level c w s n) ≡ packed (level d w' s' n') → level c w s n ≡ level d w' s' n'
same_levels true true w s n w' s' n' a b e = same_fields true w s n w' s' n' a b e
same_levels false false w s n w' s' n' a b e = same_fields false w s n w' s' n' a b e
same_levels true false w s n w' s' n' a b e = absurd (omega arith)
same_levels false true w s n w' s' n' a b e = absurd (omega arith)

-- a word says one thing
pub packed_same : (l k : Level) → IsSmall l → IsSmall k → packed l ≡ packed k → l ≡ k
packed_same l k a b e = same_levels l.closed k.closed l.waiters l.seats l.limit k.waiters k.seats k.limit a b e

pub code_same : (d e : Option Decision) → code_in d ≡ code_in e → d ≡ e
code_same None None h = refl
code_same None (Some Execute) h = absurd (omega arith)
code_same None (Some QueueFull) h = absurd (omega arith)
code_same None (Some Closed) h = absurd (omega arith)
code_same None (Some Cancelled) h = absurd (omega arith)
code_same None (Some ConcurrencyLimit) h = absurd (omega arith)
code_same (Some Execute) None h = absurd (omega arith)
code_same (Some QueueFull) None h = absurd (omega arith)
code_same (Some Closed) None h = absurd (omega arith)
code_same (Some Cancelled) None h = absurd (omega arith)
code_same (Some ConcurrencyLimit) None h = absurd (omega arith)
code_same (Some d) (Some e) h = ap Some (same_code d e h)
  where
    same_code : (d e : Decision) → code_of d ≡ code_of e → d ≡ e
    same_code Execute Execute h = refl
    same_code QueueFull QueueFull h = refl
    same_code Closed Closed h = refl
    same_code Cancelled Cancelled h = refl
    same_code ConcurrencyLimit ConcurrencyLimit h = refl
    same_code Execute QueueFull h = absurd (omega arith)
    same_code Execute Closed h = absurd (omega arith)
    same_code Execute Cancelled h = absurd (omega arith)
    same_code Execute ConcurrencyLimit h = absurd (omega arith)
    same_code QueueFull Execute h = absurd (omega arith)
    same_code QueueFull Closed h = absurd (omega arith)
    same_code QueueFull Cancelled h = absurd (omega arith)
    same_code QueueFull ConcurrencyLimit h = absurd (omega arith)
    same_code Closed Execute h = absurd (omega arith)
    same_code Closed QueueFull h = absurd (omega arith)
    same_code Closed Cancelled h = absurd (omega arith)
    same_code Closed ConcurrencyLimit h = absurd (omega arith)
    same_code Cancelled Execute h = absurd (omega arith)
    same_code Cancelled QueueFull h = absurd (omega arith)
    same_code Cancelled Closed h = absurd (omega arith)
    same_code Cancelled ConcurrencyLimit h = absurd (omega arith)
    same_code ConcurrencyLimit Execute h = absurd (omega arith)
    same_code ConcurrencyLimit QueueFull h = absurd (omega arith)
    same_code ConcurrencyLimit Closed h = absurd (omega arith)
    same_code ConcurrencyLimit Cancelled h = absurd (omega arith)

pub some_same : {A : Type 0} (a b : A) → Some a ≡ Some b → a ≡ b
some_same a b h = cc

-- the request of its decision word
pub word_request : (r : ℕ) → r + 1 - 1 ≡ r
word_request r = omega arith
