-- The line of any words is read as these words.
use Rattle.std.proofs.Common.{◌≡◌, ℕ, ◌^◌, ◌<◌, ◌≤◌, List, [], ◌∷◌, ◌++◌, length, true, Some, None, Ok, refl, arith, ◌∙◌}
use Rattle.std.specs.Prelude.{nat_le, nat_lt, codes, decimal}
use Rattle.std.proofs.lemmas.Bool.Decides.{nat_tests}
use Rattle.apf_words.specs.Limits.{max_limit}
use Rattle.apf_traces.specs.TraceFile.{max_bytes}
use Rattle.apf_protocol.specs.Lines.{cut_of, alone, word_of, number_of, limit_of, object_text, arrival_of, behind_word, form_from, form_of, ending_of, spending_of, most_ran, IsHeadInRange}
use Rattle.apf_protocol.specs.Numerals.{told}
use Rattle.apf_protocol.specs.Grammar.{line_of, IsObjectOf, IsEveryLineRead}
use Rattle.apf_protocol.specs.declared.head.Head.{Head}
use Rattle.apf_protocol.specs.declared.head.Head.TheVariants.{Arrive, Try, Finish, Spent, Cancel, Limit, Close, Book, Queues, Metrics}
use Rattle.apf_protocol.proofs.Written.{read_back, digits, cut_digits, uncut_digits}

below : (n m : ℕ) → n < m → nat_lt n m ≡ true
below n m h = grind (arith, nat_tests)

at_most : (n m : ℕ) → n ≤ m → nat_le n m ≡ true
at_most n m h = grind (arith, nat_tests)

number_read : (slots n : ℕ) → slots < 2 ^ 32 → n < slots → number_of slots (decimal n) ≡ Ok n
unfolding number_of
number_read slots n few one = rw (read_back n (omega (arith, few, one)), below n slots one) refl

limit_read : (n : ℕ) → 1 ≤ n → n ≤ max_limit → limit_of (decimal n) ≡ Ok n
unfolding limit_of
limit_read n low high = rw (read_back n (omega (arith, high)), at_most 1 n low, at_most n max_limit high) refl

arrival_read : (slots n : ℕ) (object : List ℕ) → slots < 2 ^ 32 → n < slots → object_text object ≡ Some object
    → arrival_of slots (decimal n ++ 32 ∷ object) ≡ Ok (n, object)
unfolding arrival_of
arrival_read slots n object few one is =
    rw (cut_digits (decimal n) object (digits n (omega (arith, few, one))), is, number_read slots n few one) refl

-- a line that is not too long
short : (slots : ℕ) (line : List ℕ) → length line ≤ max_bytes → form_of slots line ≡ form_from slots line (cut_of line)
unfolding form_of
short slots line h = rw (at_most (length line) max_bytes h) refl

-- ---- each form

arrive_read : (slots n : ℕ) (object : List ℕ) → slots < 2 ^ 32 → n < slots → object_text object ≡ Some object
    → behind_word slots (codes "arrive") (decimal n ++ 32 ∷ object) ≡ Ok (record { head = Arrive n; object = object })
unfolding behind_word
arrive_read slots n object few one is = rw (arrival_read slots n object few one is) refl

try_read : (slots n : ℕ) (object : List ℕ) → slots < 2 ^ 32 → n < slots → object_text object ≡ Some object
    → behind_word slots (codes "try") (decimal n ++ 32 ∷ object) ≡ Ok (record { head = Try n; object = object })
unfolding behind_word
try_read slots n object few one is = rw (arrival_read slots n object few one is) refl

ended_read : (slots n : ℕ) → slots < 2 ^ 32 → n < slots → ending_of slots (decimal n) ≡ Ok (Finish n None)
unfolding ending_of
ended_read slots n few one = rw (uncut_digits (decimal n) (digits n (omega (arith, few, one))), number_read slots n few one) refl

timed_read : (slots n micros : ℕ) → slots < 2 ^ 32 → n < slots → micros ≤ most_ran → ending_of slots (decimal n ++ 32 ∷ decimal micros) ≡ Ok (Finish n (Some micros))
unfolding ending_of
timed_read slots n micros few one within =
    let same : told micros ≡ micros = omega (arith, within) in
    rw (cut_digits (decimal n) (decimal micros) (digits n (omega (arith, few, one))), read_back micros (omega (arith, within)), number_read slots n few one, same, at_most micros most_ran within) refl

finish_read : (slots n : ℕ) → slots < 2 ^ 32 → n < slots → behind_word slots (codes "finish") (decimal n) ≡ Ok (alone (Finish n None))
unfolding behind_word
finish_read slots n few one = rw (ended_read slots n few one) refl

finish_timed : (slots n micros : ℕ) → slots < 2 ^ 32 → n < slots → micros ≤ most_ran → behind_word slots (codes "finish") (decimal n ++ 32 ∷ decimal micros) ≡ Ok (alone (Finish n (Some micros)))
unfolding behind_word
finish_timed slots n micros few one within = rw (timed_read slots n micros few one within) refl

spending_read : (slots n micros : ℕ) → slots < 2 ^ 32 → n < slots → micros ≤ most_ran → spending_of slots (decimal n ++ 32 ∷ decimal micros) ≡ Ok (Spent n micros)
unfolding spending_of
spending_read slots n micros few one within =
    let same : told micros ≡ micros = omega (arith, within) in
    rw (cut_digits (decimal n) (decimal micros) (digits n (omega (arith, few, one))), read_back micros (omega (arith, within)), number_read slots n few one, same, at_most micros most_ran within) refl

spent_read : (slots n micros : ℕ) → slots < 2 ^ 32 → n < slots → micros ≤ most_ran → behind_word slots (codes "spent") (decimal n ++ 32 ∷ decimal micros) ≡ Ok (alone (Spent n micros))
unfolding behind_word
spent_read slots n micros few one within = rw (spending_read slots n micros few one within) refl

cancel_read : (slots n : ℕ) → slots < 2 ^ 32 → n < slots → behind_word slots (codes "cancel") (decimal n) ≡ Ok (alone (Cancel n))
unfolding behind_word
cancel_read slots n few one = rw (number_read slots n few one) refl

change_read : (slots n : ℕ) → 1 ≤ n → n ≤ max_limit → behind_word slots (codes "limit") (decimal n) ≡ Ok (alone (Limit n))
unfolding behind_word
change_read slots n low high = rw (limit_read n low high) refl

word_read : (word : List ℕ) (head : Head) → word_of word ≡ Some head → cut_of word ≡ None → (slots : ℕ) → form_from slots word (cut_of word) ≡ Ok (alone head)
word_read word head is whole slots = rw (whole, is) refl

is_close : word_of (codes "close") ≡ Some Close
unfolding word_of
is_close = refl

is_book : word_of (codes "book") ≡ Some Book
unfolding word_of
is_book = refl

is_queues : word_of (codes "queues") ≡ Some Queues
unfolding word_of
is_queues = refl

is_metrics : word_of (codes "metrics") ≡ Some Metrics
unfolding word_of
is_metrics = refl

-- what is cut off in front of these bytes
cut_arrive : (xs : List ℕ) → cut_of (codes "arrive " ++ xs) ≡ Some (record { front = codes "arrive"; rest = xs })
cut_arrive xs = refl

cut_try : (xs : List ℕ) → cut_of (codes "try " ++ xs) ≡ Some (record { front = codes "try"; rest = xs })
cut_try xs = refl

cut_finish : (xs : List ℕ) → cut_of (codes "finish " ++ xs) ≡ Some (record { front = codes "finish"; rest = xs })
cut_finish xs = refl

cut_spent : (xs : List ℕ) → cut_of (codes "spent " ++ xs) ≡ Some (record { front = codes "spent"; rest = xs })
cut_spent xs = refl

cut_cancel : (xs : List ℕ) → cut_of (codes "cancel " ++ xs) ≡ Some (record { front = codes "cancel"; rest = xs })
cut_cancel xs = refl

cut_limit : (xs : List ℕ) → cut_of (codes "limit " ++ xs) ≡ Some (record { front = codes "limit"; rest = xs })
cut_limit xs = refl

behind : (slots : ℕ) (line word rest : List ℕ) → cut_of line ≡ Some (record { front = word; rest = rest })
    → form_from slots line (cut_of line) ≡ behind_word slots word rest
behind slots line word rest is = rw is refl

-- the form of the line of these words
from_read : (slots : ℕ) (head : Head) (object : List ℕ) → slots < 2 ^ 32 → IsHeadInRange slots head → IsObjectOf head object
    → form_from slots (line_of head object) (cut_of (line_of head object)) ≡ Ok (record { head = head; object = object })
from_read slots (Arrive n) object few one is =
    behind slots (line_of (Arrive n) object) (codes "arrive") (decimal n ++ 32 ∷ object) (cut_arrive (decimal n ++ 32 ∷ object))
    ∙ arrive_read slots n object few one is
from_read slots (Try n) object few one is =
    behind slots (line_of (Try n) object) (codes "try") (decimal n ++ 32 ∷ object) (cut_try (decimal n ++ 32 ∷ object))
    ∙ try_read slots n object few one is
from_read slots (Finish n None) object few one is =
    rw is (behind slots (line_of (Finish n None) []) (codes "finish") (decimal n) (cut_finish (decimal n)) ∙ finish_read slots n few one.0)
from_read slots (Finish n (Some micros)) object few one is =
    rw is (behind slots (line_of (Finish n (Some micros)) []) (codes "finish") (decimal n ++ 32 ∷ decimal micros) (cut_finish (decimal n ++ 32 ∷ decimal micros))
    ∙ finish_timed slots n micros few one.0 one.1)
from_read slots (Spent n micros) object few one is =
    rw is (behind slots (line_of (Spent n micros) []) (codes "spent") (decimal n ++ 32 ∷ decimal micros) (cut_spent (decimal n ++ 32 ∷ decimal micros))
    ∙ spent_read slots n micros few one.0 one.1)
from_read slots (Cancel n) object few one is =
    rw is (behind slots (line_of (Cancel n) []) (codes "cancel") (decimal n) (cut_cancel (decimal n)) ∙ cancel_read slots n few one)
from_read slots (Limit n) object few one is =
    rw is (behind slots (line_of (Limit n) []) (codes "limit") (decimal n) (cut_limit (decimal n)) ∙ change_read slots n one.0 one.1)
from_read slots Close object few one is = rw is (word_read (codes "close") Close is_close refl slots)
from_read slots Book object few one is = rw is (word_read (codes "book") Book is_book refl slots)
from_read slots Queues object few one is = rw is (word_read (codes "queues") Queues is_queues refl slots)
from_read slots Metrics object few one is = rw is (word_read (codes "metrics") Metrics is_metrics refl slots)

pub every_line : IsEveryLineRead
every_line slots line words few is =
    rw is.0 (short slots (line_of words.head words.object) (rw is.0 at is.3) ∙ from_read slots words.head words.object few is.1 is.2)
