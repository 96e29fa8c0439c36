-- A judgement step by step, up to the one that has the fault.
use Rattle.std.proofs.Common.{◌≡◌, Option, Some, None, Result, Ok, Err, refl}
use Rattle.apf_files.specs.FirstFault.{◌>>=◌, or_fault}

-- the fault is that of this step, or of a later one
pub stepped : {A B F C : Type 0} (r : Result A F) (next : A → Result B F) (fault : F) → r >>= next ≡ Err fault
    → (r ≡ Err fault → C) → ((x : A) → next x ≡ Err fault → C) → C
stepped (Ok x) next fault h here later = later x h
stepped (Err f) next fault h here later = let same : f ≡ fault = cc in here (rw same refl)

-- the value is not there
pub none_there : {A F : Type 0} (o : Option A) (f g : F) → or_fault f o ≡ Err g → (o ≡ None) × (f ≡ g)
none_there (Some x) f g h = absurd cc
none_there None f g h = (refl, cc)
