-- The words that a line is read as are those that it is written of.
use Rattle.std.proofs.Common.{◌≡◌, ℕ, ◌^◌, ◌<◌, ◌≤◌, List, [], ◌∷◌, ◌++◌, length, Bool, true, false, Option, Some, None, Result, Ok, Err, refl, sym, ap, subst, arith, ◌∙◌}
use Rattle.std.specs.Prelude.{nat_eq, nat_le, nat_lt, ◌&&◌, if◌then◌else◌, option_map, bytes_eq, codes, decimal}
use Rattle.std.specs.List.{starts_with}
use Rattle.std.specs.Str.{is_utf8}
use Rattle.std.proofs.lemmas.Bool.Decides.{nat_tests}
use Rattle.std.proofs.lemmas.Slice.Eq.{bytes_eq-Decides}
use Rattle.apf_words.specs.Limits.{max_limit}
use Rattle.apf_files.specs.FirstFault.{◌>>=◌, or_fault}
use Rattle.apf_traces.specs.TraceFile.{max_bytes}
use Rattle.apf_protocol.specs.Numerals.{numeral, told}
use Rattle.apf_protocol.specs.Lines.{Words, Cut, cut_of, alone, word_of, one_of, number_of, one_limit, limit_of, object_text, arrival_of, time_of, most_ran, ending_by, ending_of, spending_of, behind_word, form_from, form_of, IsHeadInRange}
use Rattle.apf_protocol.specs.Grammar.{line_of, IsObjectOf, IsLineOf, IsReadRight}
use Rattle.apf_protocol.specs.declared.fault.FaultKind.{FaultKind}
use Rattle.apf_protocol.specs.declared.fault.FaultKind.TheVariants.{TooLong, BadLine, BadNumber, BadTime, BadLimit}
use Rattle.apf_protocol.specs.declared.head.Head.{Head}
use Rattle.apf_protocol.specs.declared.head.Head.TheVariants.{Arrive, Try, Finish, Spent, Cancel, Limit, Close, Book, Queues, Metrics}
use Rattle.apf_protocol.proofs.Written.{both, written, joined}

same : (line word : List ℕ) → bytes_eq line word ≡ true → line ≡ word
same line word h = (bytes_eq-Decides line word).0 h

-- a step that went on
went_on : {A B F C : Type 0} (r : Result A F) (next : A → Result B F) (y : B) → r >>= next ≡ Ok y → ((x : A) → r ≡ Ok x → next x ≡ Ok y → C) → C
went_on (Ok x) next y h later = later x refl h
went_on (Err f) next y h later = absurd cc

there : {A F : Type 0} (f : F) (o : Option A) (x : A) → or_fault f o ≡ Ok x → o ≡ Some x
there f (Some z) x h = let is : z ≡ x = cc in ap Some is
there f None x h = absurd cc

-- ---- numbers

number_by : (slots n m : ℕ) (b : Bool) → nat_lt n slots ≡ b → (if b then Ok n else Err BadNumber) ≡ Ok m → (n ≡ m) × (m < slots)
number_by slots n m true is h =
    let eq : n ≡ m = cc in
    let below : n < slots = grind (arith, nat_tests) in
    (eq, rw (sym eq) below)
number_by slots n m false is h = absurd cc

number_right : (slots : ℕ) (ds : List ℕ) (n : ℕ) → slots < 2 ^ 32 → number_of slots ds ≡ Ok n → (ds ≡ decimal n) × (n < slots)
unfolding number_of
number_right slots ds n few h =
    went_on (or_fault BadLine (numeral ds)) (one_of slots) n h (λ m is next.
    let at = number_by slots m n (nat_lt m slots) refl next in
    let num : numeral ds ≡ Some n = rw (sym at.0) (there BadLine (numeral ds) m is) in
    (written ds n num (omega (arith, at.1, few)), at.1))

time_by : (n m : ℕ) (b : Bool) → nat_le n most_ran ≡ b → (if b then Ok n else Err BadTime) ≡ Ok m → (n ≡ m) × (m ≤ most_ran)
time_by n m true is h =
    let eq : n ≡ m = cc in
    let within : n ≤ most_ran = grind (arith, nat_tests) in
    (eq, rw (sym eq) within)
time_by n m false is h = absurd cc

-- digits that say a number which 64 bits can say
time_of_numeral : (ds : List ℕ) (n : ℕ) (o : Option ℕ) → numeral ds ≡ o → option_map told o ≡ Some n → n ≤ most_ran → (ds ≡ decimal n) × (n ≤ most_ran)
time_of_numeral ds n None is h within = absurd cc
time_of_numeral ds n (Some k) is h within =
    let same : told k ≡ n = cc in
    let exact : k ≡ n = omega (arith, same, within) in
    (written ds n (is ∙ ap (λ (i : ℕ). Some i) exact) (omega (arith, within)), within)

-- a time that is read back is what the digits say
time_right : (ds : List ℕ) (ran n : ℕ) → option_map told (numeral ds) ≡ Some ran → time_of ran ≡ Ok n → (ds ≡ decimal n) × (n ≤ most_ran)
time_right ds ran n is h =
    let at = time_by ran n (nat_le ran most_ran) refl h in
    time_of_numeral ds n (numeral ds) refl (is ∙ ap (λ (k : ℕ). Some k) at.0) at.1

limit_by : (n m : ℕ) (b : Bool) → (nat_le 1 n && nat_le n max_limit) ≡ b → (if b then Ok n else Err BadLimit) ≡ Ok m
    → (n ≡ m) × (1 ≤ m) × (m ≤ max_limit)
limit_by n m true is h =
    let eq : n ≡ m = cc in
    let parts = both (nat_le 1 n) (nat_le n max_limit) is in
    let low : 1 ≤ n = grind (arith, nat_tests) in
    let high : n ≤ max_limit = grind (arith, nat_tests) in
    (eq, rw (sym eq) low, rw (sym eq) high)
limit_by n m false is h = absurd cc

limit_right : (ds : List ℕ) (n : ℕ) → limit_of ds ≡ Ok n → (ds ≡ decimal n) × (1 ≤ n) × (n ≤ max_limit)
unfolding limit_of
limit_right ds n h =
    went_on (or_fault BadLine (numeral ds)) one_limit n h (λ m is next.
    let at = limit_by m n (nat_le 1 m && nat_le m max_limit) refl next in
    let num : numeral ds ≡ Some n = rw (sym at.0) (there BadLine (numeral ds) m is) in
    (written ds n num (omega (arith, at.2)), at.1, at.2))

-- ---- an object behind a number

text_by : (bytes object : List ℕ) (b : Bool) → (if b then Some bytes else None) ≡ Some object → bytes ≡ object
text_by bytes object true h = cc
text_by bytes object false h = absurd cc

text_right : (bytes object : List ℕ) → object_text bytes ≡ Some object → bytes ≡ object
unfolding object_text
text_right bytes object h = text_by bytes object (starts_with nat_eq bytes (123 ∷ []) && is_utf8 bytes) h

-- the number and the object's text, which are what the bytes are written of
abbrev pub IsArrival : ℕ → List ℕ → (ℕ × List ℕ) → Type 0
IsArrival slots bytes a = (bytes ≡ decimal a.0 ++ 32 ∷ a.1) × (a.0 < slots) × (object_text a.1 ≡ Some a.1)

arrival_right : (slots : ℕ) (bytes : List ℕ) (a : ℕ × List ℕ) → slots < 2 ^ 32 → arrival_of slots bytes ≡ Ok a → IsArrival slots bytes a
unfolding arrival_of
arrival_right slots bytes a few h =
    went_on (or_fault BadLine (cut_of bytes)) _ a h (λ cut is_cut h1.
    went_on (or_fault BadLine (object_text cut.rest)) _ a h1 (λ object is_object h2.
    went_on (number_of slots cut.front) _ a h2 (λ number is_number h3.
    let pair : (number, object) ≡ a = cc in
    let text = there BadLine (object_text cut.rest) object is_object in
    let rest = text_right cut.rest object text in
    let at = number_right slots cut.front number few is_number in
    let whole = joined bytes cut (there BadLine (cut_of bytes) cut is_cut) in
    let good : IsArrival slots bytes (number, object) =
    (whole ∙ rw (at.0, rest) refl, at.1, rw rest at text) in
    subst (λ (p : ℕ × List ℕ). IsArrival slots bytes p) pair good)))

-- ---- ends

-- read as this head
abbrev pub head_read : Head → Result Head FaultKind
head_read head = Ok head

head_by : (slots : ℕ) (bytes : List ℕ) (head made : Head) → head_read made ≡ Ok head
    → (codes "finish " ++ bytes ≡ line_of made []) × IsHeadInRange slots made × IsObjectOf made []
    → (codes "finish " ++ bytes ≡ line_of head []) × IsHeadInRange slots head × IsObjectOf head []
head_by slots bytes head made h of =
    let is : made ≡ head = cc in
    subst (λ (x : Head). (codes "finish " ++ bytes ≡ line_of x []) × IsHeadInRange slots x × IsObjectOf x []) is of

ending_by_right : (slots : ℕ) (bytes : List ℕ) (o : Option Cut) (head : Head) → slots < 2 ^ 32 → cut_of bytes ≡ o → ending_by slots bytes o ≡ Ok head
    → (codes "finish " ++ bytes ≡ line_of head []) × IsHeadInRange slots head × IsObjectOf head []
ending_by_right slots bytes None head few is h =
    went_on (number_of slots bytes) _ head h (λ n is_n next.
    let good = number_right slots bytes n few is_n in
    head_by slots bytes head (Finish n None) next (rw good.0 refl, (good.1, tt), refl))
ending_by_right slots bytes (Some cut) head few is h =
    went_on (or_fault BadLine (option_map told (numeral cut.rest))) _ head h (λ ran is_ran h1.
    went_on (number_of slots cut.front) _ head h1 (λ n is_n h2.
    went_on (time_of ran) _ head h2 (λ micros is_micros next.
    let at = number_right slots cut.front n few is_n in
    let time = time_right cut.rest ran micros (there BadLine (option_map told (numeral cut.rest)) ran is_ran) is_micros in
    let whole = joined bytes cut is in
    head_by slots bytes head (Finish n (Some micros)) next (rw (whole, at.0, time.0) refl, (at.1, time.1), refl))))

-- ---- words

-- what is to be shown of the words that a line is read as, but for its length
abbrev pub IsOf : ℕ → List ℕ → Words → Type 0
IsOf slots line words = (line ≡ line_of words.head words.object) × IsHeadInRange slots words.head × IsObjectOf words.head words.object

-- read as these words
abbrev pub read_as : Words → Result Words FaultKind
read_as words = Ok words

words_by : (slots : ℕ) (line : List ℕ) (words made : Words) → read_as made ≡ Ok words → IsOf slots line made → IsOf slots line words
words_by slots line words made h of =
    let is : made ≡ words = cc in
    subst (λ (w : Words). IsOf slots line w) is of

ending_right : (slots : ℕ) (word bytes : List ℕ) (head : Head) → slots < 2 ^ 32 → word ≡ codes "finish" → ending_of slots bytes ≡ Ok head
    → IsOf slots (word ++ 32 ∷ bytes) (alone head)
unfolding ending_of
ending_right slots word bytes head few is h = rw is (ending_by_right slots bytes (cut_of bytes) head few refl h)

word_by : (slots : ℕ) (line : List ℕ) (words : Words) (b1 b2 b3 b4 : Bool) → bytes_eq line (codes "close") ≡ b1 → bytes_eq line (codes "book") ≡ b2
    → bytes_eq line (codes "queues") ≡ b3 → bytes_eq line (codes "metrics") ≡ b4
    → or_fault BadLine (option_map alone (if b1 then Some Close else (if b2 then Some Book else (if b3 then Some Queues else (if b4 then Some Metrics else None))))) ≡ Ok words
    → IsOf slots line words
word_by slots line words true b2 b3 b4 is1 is2 is3 is4 h = words_by slots line words (alone Close) h (same line (codes "close") is1, tt, refl)
word_by slots line words false true b3 b4 is1 is2 is3 is4 h = words_by slots line words (alone Book) h (same line (codes "book") is2, tt, refl)
word_by slots line words false false true b4 is1 is2 is3 is4 h = words_by slots line words (alone Queues) h (same line (codes "queues") is3, tt, refl)
word_by slots line words false false false true is1 is2 is3 is4 h = words_by slots line words (alone Metrics) h (same line (codes "metrics") is4, tt, refl)
word_by slots line words false false false false is1 is2 is3 is4 h = absurd cc

word_right : (slots : ℕ) (line : List ℕ) (words : Words) → or_fault BadLine (option_map alone (word_of line)) ≡ Ok words → IsOf slots line words
unfolding word_of
word_right slots line words h =
    word_by slots line words (bytes_eq line (codes "close")) (bytes_eq line (codes "book")) (bytes_eq line (codes "queues")) (bytes_eq line (codes "metrics")) refl refl refl refl h

-- the words of an arrival, and of one that is tried
abbrev pub arrives : (ℕ × List ℕ) → Result Words FaultKind
arrives a = Ok (record { head = Arrive a.0; object = a.1 })

abbrev pub tries : (ℕ × List ℕ) → Result Words FaultKind
tries a = Ok (record { head = Try a.0; object = a.1 })

arrive_right : (slots : ℕ) (word rest : List ℕ) (words : Words) → slots < 2 ^ 32 → word ≡ codes "arrive" → arrival_of slots rest >>= arrives ≡ Ok words
    → IsOf slots (word ++ 32 ∷ rest) words
arrive_right slots word rest words few is h =
    went_on (arrival_of slots rest) arrives words h (λ a is_a next.
    let good = arrival_right slots rest a few is_a in
    words_by slots (word ++ 32 ∷ rest) words (record { head = Arrive a.0; object = a.1 }) next (rw (is, good.0) refl, good.1, good.2))

try_right : (slots : ℕ) (word rest : List ℕ) (words : Words) → slots < 2 ^ 32 → word ≡ codes "try" → arrival_of slots rest >>= tries ≡ Ok words
    → IsOf slots (word ++ 32 ∷ rest) words
try_right slots word rest words few is h =
    went_on (arrival_of slots rest) tries words h (λ a is_a next.
    let good = arrival_right slots rest a few is_a in
    words_by slots (word ++ 32 ∷ rest) words (record { head = Try a.0; object = a.1 }) next (rw (is, good.0) refl, good.1, good.2))

finish_right : (slots : ℕ) (word rest : List ℕ) (words : Words) → slots < 2 ^ 32 → word ≡ codes "finish"
    → ending_of slots rest >>= (λ head. Ok (alone head)) ≡ Ok words → IsOf slots (word ++ 32 ∷ rest) words
finish_right slots word rest words few is h =
    went_on (ending_of slots rest) _ words h (λ head is_head next.
    words_by slots (word ++ 32 ∷ rest) words (alone head) next (ending_right slots word rest head few is is_head))

spent_by : (slots : ℕ) (bytes : List ℕ) (head made : Head) → head_read made ≡ Ok head
    → (codes "spent " ++ bytes ≡ line_of made []) × IsHeadInRange slots made × IsObjectOf made []
    → (codes "spent " ++ bytes ≡ line_of head []) × IsHeadInRange slots head × IsObjectOf head []
spent_by slots bytes head made h of =
    let is : made ≡ head = cc in
    subst (λ (x : Head). (codes "spent " ++ bytes ≡ line_of x []) × IsHeadInRange slots x × IsObjectOf x []) is of

spending_right : (slots : ℕ) (bytes : List ℕ) (head : Head) → slots < 2 ^ 32 → spending_of slots bytes ≡ Ok head
    → (codes "spent " ++ bytes ≡ line_of head []) × IsHeadInRange slots head × IsObjectOf head []
unfolding spending_of
spending_right slots bytes head few h =
    went_on (or_fault BadLine (cut_of bytes)) _ head h (λ cut is_cut h0.
    went_on (or_fault BadLine (option_map told (numeral cut.rest))) _ head h0 (λ ran is_ran h1.
    went_on (number_of slots cut.front) _ head h1 (λ n is_n h2.
    went_on (time_of ran) _ head h2 (λ micros is_micros next.
    let at = number_right slots cut.front n few is_n in
    let time = time_right cut.rest ran micros (there BadLine (option_map told (numeral cut.rest)) ran is_ran) is_micros in
    let whole = joined bytes cut (there BadLine (cut_of bytes) cut is_cut) in
    spent_by slots bytes head (Spent n micros) next (rw (whole, at.0, time.0) refl, (at.1, time.1), refl)))))

spent_right : (slots : ℕ) (word rest : List ℕ) (words : Words) → slots < 2 ^ 32 → word ≡ codes "spent"
    → spending_of slots rest >>= (λ head. Ok (alone head)) ≡ Ok words → IsOf slots (word ++ 32 ∷ rest) words
spent_right slots word rest words few is h =
    went_on (spending_of slots rest) _ words h (λ head is_head next.
    words_by slots (word ++ 32 ∷ rest) words (alone head) next (rw is (spending_right slots rest head few is_head)))

cancel_right : (slots : ℕ) (word rest : List ℕ) (words : Words) → slots < 2 ^ 32 → word ≡ codes "cancel"
    → number_of slots rest >>= (λ n. Ok (alone (Cancel n))) ≡ Ok words → IsOf slots (word ++ 32 ∷ rest) words
cancel_right slots word rest words few is h =
    went_on (number_of slots rest) _ words h (λ n is_n next.
    let good = number_right slots rest n few is_n in
    words_by slots (word ++ 32 ∷ rest) words (alone (Cancel n)) next (rw (is, good.0) refl, good.1, refl))

change_right : (slots : ℕ) (word rest : List ℕ) (words : Words) → word ≡ codes "limit"
    → limit_of rest >>= (λ n. Ok (alone (Limit n))) ≡ Ok words → IsOf slots (word ++ 32 ∷ rest) words
change_right slots word rest words is h =
    went_on (limit_of rest) _ words h (λ n is_n next.
    let good = limit_right rest n is_n in
    words_by slots (word ++ 32 ∷ rest) words (alone (Limit n)) next (rw (is, good.0) refl, (good.1, good.2), refl))

behind_by : (slots : ℕ) (word rest : List ℕ) (words : Words) (b1 b2 b3 b4 b5 b6 : Bool) → slots < 2 ^ 32
    → bytes_eq word (codes "arrive") ≡ b1 → bytes_eq word (codes "try") ≡ b2 → bytes_eq word (codes "finish") ≡ b3
    → bytes_eq word (codes "spent") ≡ b4 → bytes_eq word (codes "cancel") ≡ b5 → bytes_eq word (codes "limit") ≡ b6
    → (if b1 then arrival_of slots rest >>= arrives
    else (if b2 then arrival_of slots rest >>= tries
    else (if b3 then ending_of slots rest >>= (λ head. Ok (alone head))
    else (if b4 then spending_of slots rest >>= (λ head. Ok (alone head))
    else (if b5 then number_of slots rest >>= (λ n. Ok (alone (Cancel n)))
    else (if b6 then limit_of rest >>= (λ n. Ok (alone (Limit n))) else Err BadLine)))))) ≡ Ok words
    → IsOf slots (word ++ 32 ∷ rest) words
behind_by slots word rest words true b2 b3 b4 b5 b6 few is1 is2 is3 is4 is5 is6 h = arrive_right slots word rest words few (same word (codes "arrive") is1) h
behind_by slots word rest words false true b3 b4 b5 b6 few is1 is2 is3 is4 is5 is6 h = try_right slots word rest words few (same word (codes "try") is2) h
behind_by slots word rest words false false true b4 b5 b6 few is1 is2 is3 is4 is5 is6 h = finish_right slots word rest words few (same word (codes "finish") is3) h
behind_by slots word rest words false false false true b5 b6 few is1 is2 is3 is4 is5 is6 h = spent_right slots word rest words few (same word (codes "spent") is4) h
behind_by slots word rest words false false false false true b6 few is1 is2 is3 is4 is5 is6 h = cancel_right slots word rest words few (same word (codes "cancel") is5) h
behind_by slots word rest words false false false false false true few is1 is2 is3 is4 is5 is6 h = change_right slots word rest words (same word (codes "limit") is6) h
behind_by slots word rest words false false false false false false few is1 is2 is3 is4 is5 is6 h = absurd cc

behind_right : (slots : ℕ) (word rest : List ℕ) (words : Words) → slots < 2 ^ 32 → behind_word slots word rest ≡ Ok words → IsOf slots (word ++ 32 ∷ rest) words
unfolding behind_word
behind_right slots word rest words few h =
    behind_by slots word rest words (bytes_eq word (codes "arrive")) (bytes_eq word (codes "try")) (bytes_eq word (codes "finish"))
    (bytes_eq word (codes "spent")) (bytes_eq word (codes "cancel")) (bytes_eq word (codes "limit")) few refl refl refl refl refl refl h

-- ---- a whole line

from_right : (slots : ℕ) (line : List ℕ) (words : Words) (o : Option Cut) → slots < 2 ^ 32 → cut_of line ≡ o → form_from slots line o ≡ Ok words → IsOf slots line words
from_right slots line words None few is h = word_right slots line words h
from_right slots line words (Some cut) few is h = rw (joined line cut is) (behind_right slots cut.front cut.rest words few h)

line_by : (slots : ℕ) (line : List ℕ) (words : Words) (b : Bool) → slots < 2 ^ 32 → nat_le (length line) max_bytes ≡ b
    → (if b then form_from slots line (cut_of line) else Err TooLong) ≡ Ok words → IsLineOf slots line words
line_by slots line words true few is h =
    let of = from_right slots line words (cut_of line) few refl h in
    let short : length line ≤ max_bytes = grind (arith, nat_tests) in
    (of.0, of.1, of.2, short)
line_by slots line words false few is h = absurd cc

pub read_right : IsReadRight
unfolding form_of
read_right slots line words few h = line_by slots line words (nat_le (length line) max_bytes) few refl h
