-- Reading from left to right, up to the first fault.
use Rattle.std.specs.Prelude.{◌≡◌, Result, Ok, Err}
use Rattle.apf_request_lines.specs.declared.fault.RequestLineFault.{RequestLineFault}
use Rattle.apf_request_lines.specs.declared.fault.RequestLineFault.TheVariants.{NoMemory}

infixl 10 ◌>>=◌
-- goes on with the value, or keeps the fault
abbrev pub ◌>>=◌ : {A B : Type 0} → Result A RequestLineFault → (A → Result B RequestLineFault) → Result B RequestLineFault
(Ok x) >>= next = next x
(Err fault) >>= next = Err fault

-- what was answered is what this reading gives, where no memory is asked for
abbrev pub Reads : {X Y : Type 0} → (X → Y) → Result X RequestLineFault → Result Y RequestLineFault → Type 0
Reads view (Ok x) reading = reading ≡ Ok (view x)
Reads view (Err fault) reading = reading ≡ Err fault

-- the fault is the one that this reading has, unless memory was refused
abbrev pub Fails : {Y : Type 0} → RequestLineFault → Result Y RequestLineFault → Type 0
Fails NoMemory reading = Unit {0}
Fails fault reading = reading ≡ Err fault

-- what was answered is what this reading gives, unless memory was refused
abbrev pub Gives : {X Y : Type 0} → (X → Y) → Result X RequestLineFault → Result Y RequestLineFault → Type 0
Gives view (Ok x) reading = reading ≡ Ok (view x)
Gives view (Err fault) reading = Fails fault reading
