-- The place of the first flow of each key, in a map.
use Rattle.std.specs.Prelude.{◌≡◌, ℕ, Bool, List, Option, Some, None, if◌then◌else◌}
use Rattle.std.specs.Borrow.{Bor}
use Rattle.std.specs.BTreeMap.{BTreeMap, get_by}
use Rattle.std.specs.Cmp.Lexicographic.{slice_cmp}
use Rattle.std.specs.Option.{option_or}
use Rattle.std.specs.Ordering.{bool_cmp, nat_cmp, ordering_then}
use Rattle.std.specs.declared.cmp.Ordering.{Ordering}
use Rattle.apf_cluster_tables.specs.Pairs.{FlowSaid, Key, is_same, place_of}

-- a key as the code holds it
abbrev pub KeyHeld : Type 0
KeyHeld = Bool × Bor (List ℕ) × Bor (List ℕ)

-- what it says
abbrev pub key_view : KeyHeld → Key
key_view key = record { named = key.0; one = key.1.now; two = key.2.now }

-- where a key stands beside another one
abbrev pub key_cmp : Key → KeyHeld → Ordering
key_cmp a b = ordering_then (ordering_then (bool_cmp a.named b.0) (slice_cmp nat_cmp a.one b.1.now)) (slice_cmp nat_cmp a.two b.2.now)

-- the place that a map has at a key
abbrev pub place_at : BTreeMap KeyHeld ℕ → Key → Option ℕ
place_at places key = get_by (key_cmp key) places

-- a place was noted at a key, if it had none
pub record FindsPlace (key : Key) (place : ℕ) (old new : BTreeMap KeyHeld ℕ) : Type 0 where
  pub each : (other : Key) → place_at new other ≡ option_or (place_at old other) (if is_same key other then Some place else None)

-- at each key is the place of its first flow
pub record ArePlaces (flows : List FlowSaid) (places : BTreeMap KeyHeld ℕ) : Type 0 where
  pub each : (key : Key) → place_at places key ≡ place_of key flows
