-- What a text says of a time: of how long a request waits before it gives up, or of when something is.
use Rattle.std.specs.Prelude.{◌≡◌, ◌<◌, ◌≤◌, ◌+◌, ◌*◌, ◌^◌, ◌==◌, ◌&&◌, ◌⊎◌, ⊤, ℕ, List, [], ◌++◌, length, Bool, true, nat_le, Ok, codes}
use Rattle.std.specs.List.{list_all, position_or_len, before_first, after_first}
use Rattle.std.specs.Str.Parse.{ParsesUnsigned}
use Rattle.apf_commands.specs.declared.patience.Unit.{Unit}
use Rattle.apf_commands.specs.declared.patience.Unit.TheVariants.{Plain, Microseconds, Milliseconds, Seconds, Minutes}

-- what stands behind a number in the unit
abbrev pub name_of : Unit → List ℕ
name_of Plain = []
name_of Microseconds = codes "us"
name_of Milliseconds = codes "ms"
name_of Seconds = codes "s"
name_of Minutes = codes "m"

-- how many microseconds it has
abbrev pub microseconds_of : Unit → ℕ
microseconds_of Plain = 1
microseconds_of Microseconds = 1
microseconds_of Milliseconds = 1000
microseconds_of Seconds = 1000000
microseconds_of Minutes = 60000000

-- the longest patience, in microseconds: 1,000 seconds
abbrev pub most_patience : ℕ
most_patience = 1000000000

-- the latest time, in microseconds: 200,000,000 seconds
abbrev pub most_time : ℕ
most_time = 200000000000000

-- a digit, 0 to 9
abbrev pub is_digit : ℕ → Bool
is_digit byte = nat_le 48 byte && nat_le byte 57

-- a point
abbrev pub is_point : ℕ → Bool
is_point byte = byte == 46

-- this many digits may stand behind a point
abbrev pub most_digits : ℕ
most_digits = 6

-- the digits are a whole number, which is this many microseconds in the unit, and no longer than the longest time
pub record IsWholeIn (longest : ℕ) (unit : Unit) (digits : List ℕ) (time : ℕ) : Type 0 where
  pub number : ℕ
  pub parses : ParsesUnsigned {E = ℕ} 64 10 digits (Ok number)
  pub times : time ≡ number * microseconds_of unit
  pub most : time ≤ longest

-- the digits behind a point are this many whole microseconds in the unit
pub record IsPartIn (unit : Unit) (digits : List ℕ) (rest : ℕ) : Type 0 where
  pub some : 0 < length digits
  pub few : length digits ≤ most_digits
  pub are : list_all is_digit digits ≡ true
  pub number : ℕ
  pub parses : ParsesUnsigned {E = ℕ} 32 10 digits (Ok number)
  pub exact : number * microseconds_of unit ≡ rest * 10 ^ length digits

-- a unit is named
abbrev pub IsNamed : Unit → Type 0
IsNamed Plain = ⊥
IsNamed _ = ⊤

-- the digits are a whole number, a point and a part, which are this many microseconds in the unit, and no longer than the longest time
pub record IsDecimalIn (longest : ℕ) (unit : Unit) (digits : List ℕ) (time : ℕ) : Type 0 where
  pub named : IsNamed unit
  pub pointed : position_or_len is_point digits < length digits
  pub count : ℕ
  pub rest : ℕ
  pub parses : ParsesUnsigned {E = ℕ} 64 10 (before_first is_point digits) (Ok count)
  pub part : IsPartIn unit (after_first is_point digits) rest
  pub times : time ≡ count * microseconds_of unit + rest
  pub most : time ≤ longest

-- the one or the other
abbrev pub IsAmountIn : ℕ → Unit → List ℕ → ℕ → Type 0
IsAmountIn longest unit digits time = IsWholeIn longest unit digits time ⊎ IsDecimalIn longest unit digits time

-- the text is such digits with the unit's name behind them
pub record IsTimeIn (longest : ℕ) (unit : Unit) (text : List ℕ) (time : ℕ) : Type 0 where
  pub digits : List ℕ
  pub written : text ≡ digits ++ name_of unit
  pub is : IsAmountIn longest unit digits time

-- the same in one of the units
abbrev pub IsTime : ℕ → List ℕ → ℕ → Type 0
IsTime longest text time = (unit : Unit) × IsTimeIn longest unit text time

-- the digits are none of these
abbrev pub IsNoWholeIn : ℕ → Unit → List ℕ → Type 0
IsNoWholeIn longest unit digits = (time : ℕ) → IsWholeIn longest unit digits time → ⊥

abbrev pub IsNoPartIn : Unit → List ℕ → Type 0
IsNoPartIn unit digits = (rest : ℕ) → IsPartIn unit digits rest → ⊥

abbrev pub IsNoDecimalIn : ℕ → Unit → List ℕ → Type 0
IsNoDecimalIn longest unit digits = (time : ℕ) → IsDecimalIn longest unit digits time → ⊥

abbrev pub IsNoAmountIn : ℕ → Unit → List ℕ → Type 0
IsNoAmountIn longest unit digits = (time : ℕ) → IsAmountIn longest unit digits time → ⊥

-- in this unit the text is no time
abbrev pub IsNoTimeIn : ℕ → Unit → List ℕ → Type 0
IsNoTimeIn longest unit text = (time : ℕ) → IsTimeIn longest unit text time → ⊥

-- the text is no time
abbrev pub IsNoTime : ℕ → List ℕ → Type 0
IsNoTime longest text = (time : ℕ) → IsTime longest text time → ⊥
