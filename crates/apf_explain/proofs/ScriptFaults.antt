-- What the fault of a script says of the line that it names.
use Rattle.std.proofs.Common.{subst, inl, inr, ◌≡◌, ◌≢◌, ℕ, zero, suc, ◌+◌, ◌-◌, ◌<◌, ◌≤◌, List, [], ◌∷◌, ◌++◌, length, get_or, take, drop, append_assoc, Bool, true, false, Option, Some, None, Ok, Err, refl, ◌∙◌, ap, arith}
use Rattle.std.specs.Prelude.{◌⊎◌, ◌&&◌, option_and_then, nat_eq, nat_lt, nat_le, if◌then◌else◌}
use Rattle.std.proofs.lemmas.Bool.Decides.{nat_tests}
use Rattle.std.proofs.lemmas.List.{append-nil}
use Rattle.apf_words.specs.Limits.{max_limit}
use Rattle.apf_files.specs.FirstFault.{◌>>=◌, or_fault}
use Rattle.apf_files.specs.ScriptFile.{max_lines, ended, lines_from, judged_line, in_range, command_of, script_of}
use Rattle.apf_files.specs.declared.script.Command.{Command}
use Rattle.apf_files.specs.declared.script.Command.TheVariants.{Arrive, Finish, Cancel, Close, Limit}
use Rattle.apf_files.specs.declared.script.ScriptFault.{ScriptFault}
use Rattle.apf_files.specs.declared.script.ScriptFault.TheVariants.{TooLong, Truncated, BadLine, UnknownRequest, NoMemory, BadLimit}
use Rattle.apf_files.specs.ScriptLine.{line_from, line_of_number, number_in}
use Rattle.apf_explain.specs.Shown.{IsScriptShown}
use Rattle.apf_explain.proofs.RequestFaults.{before_err}

-- ---- the line of a number

-- a byte that ends no line
other_byte : (earlier : ℕ) (begun : List ℕ) (b : ℕ) (bs : List ℕ) → nat_eq b 10 ≡ false → line_from earlier begun (b ∷ bs) ≡ line_from earlier (begun ++ b ∷ []) bs
other_byte zero begun b bs other = rw other refl
other_byte (suc earlier) begun b bs other = rw other refl

-- ---- the fault of a line

-- the line that the fault names, where the fault is told of what the line says
abbrev pub line_told : ScriptFault → Option ℕ
line_told (TooLong line) = None
line_told (Truncated line) = None
line_told (BadLine line) = Some line
line_told (UnknownRequest line) = Some line
line_told NoMemory = None
line_told (BadLimit line) = Some line

-- the fault of a command's number
abbrev pub IsNumberFault : ℕ → ℕ → ℕ → ScriptFault → Type 0
IsNumberFault requests line n fault =
    ((fault ≡ UnknownRequest line) × (requests ≤ n)) ⊎ ((fault ≡ BadLimit line) × ((n < 1) ⊎ (max_limit < n)))

abbrev pub IsRangeFault : ℕ → ℕ → Command → ScriptFault → Type 0
IsRangeFault requests line command fault = (n : ℕ) × (number_in command ≡ Some n) × IsNumberFault requests line n fault

not_below : (n requests : ℕ) → nat_lt n requests ≡ false → requests ≤ n
not_below n requests h = grind (arith, nat_tests)

request_fault : (requests line n : ℕ) (command : Command) (fault : ScriptFault) (b : Bool) → nat_lt n requests ≡ b
    → (if b then Ok command else Err (UnknownRequest line)) ≡ Err fault → IsNumberFault requests line n fault
request_fault requests line n command fault true is h = absurd cc
request_fault requests line n command fault false is h = inl (cc, not_below n requests is)

outside : (n : ℕ) (low : Bool) → nat_le 1 n ≡ low → (low && nat_le n max_limit) ≡ false → (n < 1) ⊎ (max_limit < n)
outside n false is h = inl (grind (arith, nat_tests))
outside n true is h = inr (grind (arith, nat_tests))

limit_fault : (requests line n : ℕ) (fault : ScriptFault) (b : Bool) → (nat_le 1 n && nat_le n max_limit) ≡ b
    → (if b then Ok (Limit n) else Err (BadLimit line)) ≡ Err fault → IsNumberFault requests line n fault
limit_fault requests line n fault true is h = absurd cc
limit_fault requests line n fault false is h = inr (cc, outside n (nat_le 1 n) refl is)

range_fault : (requests line : ℕ) (command : Command) (fault : ScriptFault) → in_range requests line command ≡ Err fault → IsRangeFault requests line command fault
unfolding in_range
range_fault requests line (Arrive n) fault h = (n, refl, request_fault requests line n (Arrive n) fault (nat_lt n requests) refl h)
range_fault requests line (Finish n) fault h = (n, refl, request_fault requests line n (Finish n) fault (nat_lt n requests) refl h)
range_fault requests line (Cancel n) fault h = (n, refl, request_fault requests line n (Cancel n) fault (nat_lt n requests) refl h)
range_fault requests line Close fault h = absurd cc
range_fault requests line (Limit n) fault h = (n, refl, limit_fault requests line n fault (nat_le 1 n && nat_le n max_limit) refl h)

-- a line is no command, or the command's number is outside its range
abbrev pub IsLineFault : ℕ → ℕ → List ℕ → ScriptFault → Type 0
IsLineFault requests line bytes fault =
    ((fault ≡ BadLine line) × (command_of bytes ≡ None))
    ⊎ ((n : ℕ) × (option_and_then number_in (command_of bytes) ≡ Some n) × IsNumberFault requests line n fault)

line_fault_by : (requests line : ℕ) (bytes : List ℕ) (fault : ScriptFault) (o : Option Command) → command_of bytes ≡ o
    → (or_fault (BadLine line) o >>= in_range requests line) ≡ Err fault → IsLineFault requests line bytes fault
line_fault_by requests line bytes fault None is h = inl (cc, is)
line_fault_by requests line bytes fault (Some command) is h =
    let found = range_fault requests line command fault h in
    inr (found.0, rw is found.1, found.2)

line_fault : (requests line : ℕ) (bytes : List ℕ) (fault : ScriptFault) → judged_line requests line bytes ≡ Err fault → IsLineFault requests line bytes fault
unfolding judged_line
line_fault requests line bytes fault h = line_fault_by requests line bytes fault (command_of bytes) refl h

number_told : (requests line n : ℕ) (fault : ScriptFault) → IsNumberFault requests line n fault → line_told fault ≡ Some line
number_told requests line n fault (inl h) = rw h.0 refl
number_told requests line n fault (inr h) = rw h.0 refl

fault_told : (requests line : ℕ) (bytes : List ℕ) (fault : ScriptFault) → IsLineFault requests line bytes fault → line_told fault ≡ Some line
fault_told requests line bytes fault (inl h) = rw h.0 refl
fault_told requests line bytes fault (inr h) = number_told requests line h.0 fault h.2

-- ---- the first fault of all lines

-- the line that the fault names is there, and has the fault
abbrev pub IsJudged : ℕ → ℕ → ℕ → List ℕ → List ℕ → ScriptFault → Type 0
IsJudged requests n line begun bs fault =
    (earlier : ℕ) × (n ≡ line + earlier) × ((bytes : List ℕ) × (line_from earlier begun bs ≡ Some bytes) × IsLineFault requests n bytes fault)

ended_judged : (requests n line : ℕ) (begun : List ℕ) (fault : ScriptFault) → line_told fault ≡ Some n → ended line begun ≡ Err fault
    → IsJudged requests n line begun [] fault
ended_judged requests n line [] fault told h = absurd cc
ended_judged requests n line (x ∷ begun) fault told h =
    let same : fault ≡ Truncated line = cc in
    let none : None ≡ Some n = rw same at told in
    absurd cc

byte_judged : (long ends : Bool) (requests n line : ℕ) (begun : List ℕ) (b : ℕ) (bs : List ℕ) (fault : ScriptFault)
    → nat_lt max_lines line ≡ long → nat_eq b 10 ≡ ends → line_told fault ≡ Some n → lines_from requests line begun (b ∷ bs) ≡ Err fault
    → (lines_from requests (line + 1) [] bs ≡ Err fault → IsJudged requests n (line + 1) [] bs fault)
    → (lines_from requests line (begun ++ b ∷ []) bs ≡ Err fault → IsJudged requests n line (begun ++ b ∷ []) bs fault)
    → IsJudged requests n line begun (b ∷ bs) fault
byte_judged true ends requests n line begun b bs fault is_long is_end told h next more =
    let long : Err (TooLong line) ≡ Err fault = rw is_long at h in
    let same : fault ≡ TooLong line = cc in
    let none : None ≡ Some n = rw same at told in
    absurd cc
byte_judged false true requests n line begun b bs fault is_long is_end told h next more =
    before_err (judged_line requests line begun) (lines_from requests (line + 1) [] bs) fault (rw (is_long, is_end) at h)
    (λ e. let found = line_fault requests line begun fault e in
    let named : line_told fault ≡ Some line = fault_told requests line begun fault found in
    let same : line ≡ n = cc in
    (0, omega (arith, same), (begun, rw is_end refl, subst (λ (m : ℕ). IsLineFault requests m begun fault) same found)))
    (λ e. let rest = next e in
    let count : n ≡ line + suc rest.0 = omega (arith, rest.1) in
    (suc rest.0, count, (rest.2.0, rw is_end rest.2.1, rest.2.2)))
byte_judged false false requests n line begun b bs fault is_long is_end told h next more =
    let rest = more (rw (is_long, is_end) at h) in
    (rest.0, rest.1, (rest.2.0, other_byte rest.0 begun b bs is_end ∙ rest.2.1, rest.2.2))

lines_judged : (requests n line : ℕ) (begun bs : List ℕ) (fault : ScriptFault) → line_told fault ≡ Some n → lines_from requests line begun bs ≡ Err fault
    → IsJudged requests n line begun bs fault
lines_judged requests n line begun [] fault told h = ended_judged requests n line begun fault told h
lines_judged requests n line begun (b ∷ bs) fault told h =
    byte_judged (nat_lt max_lines line) (nat_eq b 10) requests n line begun b bs fault refl refl told h
    (lines_judged requests n (line + 1) [] bs fault told) (lines_judged requests n line (begun ++ b ∷ []) bs fault told)

-- the line of that number
abbrev pub HasLine : ℕ → ℕ → List ℕ → ScriptFault → Type 0
HasLine requests n bytes fault = (line : List ℕ) × (line_of_number n bytes ≡ Some line) × IsLineFault requests n line fault

has_line : (requests n : ℕ) (bytes : List ℕ) (fault : ScriptFault) → line_told fault ≡ Some n → lines_from requests 1 [] bytes ≡ Err fault → HasLine requests n bytes fault
has_line requests n bytes fault told h =
    let found = lines_judged requests n 1 [] bytes fault told h in
    let place : n - 1 ≡ found.0 = omega (arith, found.1) in
    (found.2.0, rw place found.2.1, found.2.2)

bad_line : (requests n : ℕ) (line : List ℕ) → IsLineFault requests n line (BadLine n) → command_of line ≡ None
bad_line requests n line (inl h) = h.1
bad_line requests n line (inr h) = elim (h.2) [ inl other ↦ let e = other.0 in absurd cc | inr other ↦ let e = other.0 in absurd cc ]

unknown_request : (requests n : ℕ) (line : List ℕ) → IsLineFault requests n line (UnknownRequest n)
    → (k : ℕ) × (option_and_then number_in (command_of line) ≡ Some k) × (requests ≤ k)
unknown_request requests n line (inl h) = let e = h.0 in absurd cc
unknown_request requests n line (inr h) = elim (h.2) [ inl is ↦ (h.0, h.1, is.1) | inr other ↦ let e = other.0 in absurd cc ]

bad_limit : (requests n : ℕ) (line : List ℕ) → IsLineFault requests n line (BadLimit n)
    → (k : ℕ) × (option_and_then number_in (command_of line) ≡ Some k) × ((k < 1) ⊎ (max_limit < k))
bad_limit requests n line (inl h) = let e = h.0 in absurd cc
bad_limit requests n line (inr h) = elim (h.2) [ inl other ↦ let e = other.0 in absurd cc | inr is ↦ (h.0, h.1, is.1) ]

pub script_shown : (requests : ℕ) (bytes : List ℕ) (fault : ScriptFault) → script_of requests bytes ≡ Err fault → IsScriptShown requests bytes fault
unfolding script_of
script_shown requests bytes (TooLong n) h = tt
script_shown requests bytes (Truncated n) h = tt
script_shown requests bytes (BadLine n) h =
    let has = has_line requests n bytes (BadLine n) refl h in
    (has.0, has.1, bad_line requests n has.0 has.2)
script_shown requests bytes (UnknownRequest n) h =
    let has = has_line requests n bytes (UnknownRequest n) refl h in
    let known = unknown_request requests n has.0 has.2 in
    (known.0, (has.0, has.1, known.1), known.2)
script_shown requests bytes NoMemory h = tt
script_shown requests bytes (BadLimit n) h =
    let has = has_line requests n bytes (BadLimit n) refl h in
    let bad = bad_limit requests n has.0 has.2 in
    (bad.0, (has.0, has.1, bad.1), bad.2)
