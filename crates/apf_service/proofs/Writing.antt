-- What is written where a call answers Ok.
use Rattle.std.proofs.Common.{List, ℕ, Option, None, Some, Result, Ok, Err, IfSome, OnOk}

-- a text that is stated is written there
pub stated_if_ok : {T E : Type 0} (r : Result T E) (stated : Option (List ℕ)) (Writes : List ℕ → Type 0) → OnOk r (IfSome stated Writes) → IfSome stated (λ text. OnOk r (Writes text))
stated_if_ok (Ok x) stated Writes is = is
stated_if_ok (Err e) None Writes is = tt
stated_if_ok (Err e) (Some text) Writes is = tt
