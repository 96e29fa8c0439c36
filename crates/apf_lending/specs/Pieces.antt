-- What a level has between two numbers.
use Rattle.std.specs.Prelude.{ℕ}
use Rattle.apf_lending.specs.declared.factor.Piece.{Piece}
use Rattle.apf_lending.specs.declared.factor.Piece.TheVariants.{Fixed, Free}

-- the fixed limit, or 0
abbrev pub fixed_in : Piece → ℕ
fixed_in (Fixed limit) = limit
fixed_in (Free target) = 0

-- the target, or 0
abbrev pub free_in : Piece → ℕ
free_in (Fixed limit) = 0
free_in (Free target) = target
