-- Words for judging one thing after another, up to the first fault.
use Rattle.std.specs.Prelude.{List, ◌∷◌, ◌++◌, Option, Some, None, Result, Ok, Err}

infixl 10 ◌>>=◌
-- goes on with the value, or keeps the fault
abbrev pub ◌>>=◌ : {A B F : Type 0} → Result A F → (A → Result B F) → Result B F
(Ok x) >>= next = next x
(Err fault) >>= next = Err fault

-- the value, or the fault where there is none
abbrev pub or_fault : {A F : Type 0} → F → Option A → Result A F
or_fault fault (Some x) = Ok x
or_fault fault None = Err fault

-- the values that were read, in front of what the rest is
abbrev pub with_front : {A F : Type 0} → List A → Result (List A) F → Result (List A) F
with_front xs (Ok others) = Ok (xs ++ others)
with_front xs (Err fault) = Err fault

-- the value before the others, or the first fault
abbrev pub before : {A F : Type 0} → Result A F → Result (List A) F → Result (List A) F
before (Err fault) others = Err fault
before (Ok x) (Err fault) = Err fault
before (Ok x) (Ok xs) = Ok (x ∷ xs)
