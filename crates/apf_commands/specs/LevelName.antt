-- The name of a level, by which metrics call it.
use Rattle.std.specs.Prelude.{ℕ, List, Bool, ◌&&◌, ◌||◌, nat_eq, nat_le, length}
use Rattle.std.specs.List.{list_all}

-- a-z, 0-9, `.` or `-`
abbrev pub is_name_byte : ℕ → Bool
is_name_byte byte = (nat_le 97 byte && nat_le byte 122) || (nat_le 48 byte && nat_le byte 57) || nat_eq byte 46 || nat_eq byte 45

-- 1 to 253 of these bytes
abbrev pub is_level_name : List ℕ → Bool
is_level_name name = nat_le 1 (length name) && nat_le (length name) 253 && list_all is_name_byte name
