-- The numbers of a text, and what they are where another number stands.
use Rattle.std.specs.Prelude.{ℕ, ◌+◌, ◌*◌, ◌^◌, length, Bool, ◌&&◌, nat_lt, nat_le, Option, Some, None, option_map, option_and_then, if◌then◌else◌, Result, Ok, Err, codes, bytes_eq}
use Rattle.std.specs.Str.{all_ascii_digits}
use Rattle.std.specs.Str.Parse.{digits_value}
use Rattle.apf_files.specs.FirstFault.{◌>>=◌, or_fault}
use Rattle.apf_objects.specs.Rules.{Text}
use Rattle.apf_matching.specs.Matches.{behind}
use Rattle.apf_changes.specs.Texts.{ahead}
use Rattle.apf_changes.specs.declared.change.Amount.{Amount}
use Rattle.apf_changes.specs.declared.change.Amount.TheVariants.{Exactly, Times, Plus}
use Rattle.apf_changes.specs.declared.fault.Bounds.{Bounds}
use Rattle.apf_changes.specs.declared.fault.ChangeFault.{ChangeFault}
use Rattle.apf_changes.specs.declared.fault.ChangeFault.TheVariants.{NoNumber, OutOfBounds}

-- the text is one decimal digit or more, and nothing else, and the number is below 2^32
abbrev pub is_number : Text → Bool
is_number text = all_ascii_digits text && nat_lt 0 (length text) && nat_lt (digits_value 10 text) (2 ^ 32)

-- the number that the text is
abbrev pub number_of : Text → Option ℕ
number_of text = if is_number text then Some (digits_value 10 text) else None

-- a number behind `*`, by what is behind it, or one behind `+`
abbrev pub relative_by : Text → Option Text → Option Amount
relative_by text (Some times) = option_map Times (number_of times)
relative_by text None = option_map Plus (option_and_then number_of (behind (codes "+") text))

-- a number behind `*` or `+`
abbrev pub relative_of : Text → Option Amount
relative_of text = relative_by text (behind (codes "*") text)

-- such a number, or one alone
abbrev pub amount_by : Text → Option Amount → Option Amount
amount_by text (Some amount) = Some amount
amount_by text None = option_map Exactly (number_of text)

abbrev pub amount_of : Text → Option Amount
amount_of text = amount_by text (relative_of text)

-- a number ahead of `x`, by what is ahead of it, or one behind `*` or `+`
abbrev pub rate_by : Text → Option Text → Option Amount
rate_by text (Some times) = option_map Exactly (number_of times)
rate_by text None = relative_of text

-- `0`, a number ahead of `x`, or one behind `*` or `+`
abbrev pub rate_of : Text → Option Amount
rate_of text = if bytes_eq text (codes "0") then Some (Exactly 0) else rate_by text (ahead (codes "x") text)

-- the number that is meant where this one stands; only an exact one is meant where none does
abbrev pub amount_from : Amount → Option ℕ → Option ℕ
amount_from (Exactly number) stands = Some number
amount_from (Times times) stands = option_map (λ number. number * times) stands
amount_from (Plus more) stands = option_map (λ number. number + more) stands

-- the number, if it is within the bounds
abbrev pub within : Bounds → ℕ → Result ℕ ChangeFault
within bounds number = if nat_le bounds.low number && nat_le number bounds.high then Ok number else Err (OutOfBounds number bounds)

-- the number that is meant where this one stands, if it is within the bounds
unfoldable pub judged : Amount → Option ℕ → Bounds → Result ℕ ChangeFault
judged amount stands bounds = or_fault NoNumber (amount_from amount stands) >>= within bounds
