-- How long a line of a trace can be.
use Rattle.std.proofs.Common.{ℕ, zero, suc, ◌+◌, ◌*◌, ◌≤◌, ◌<◌, ◌^◌, List, [], ◌∷◌, ◌++◌, get_or, length, length-append, Bool, true, false, Option, None, Some, string_bytes, arith, lit≤}
use Rattle.std.specs.Prelude.{codes, decimal, nat_lt, if◌then◌else◌}
use Rattle.std.proofs.lemmas.Fmt.{length-decimal-le}
use Rattle.apf_flows.specs.Json.{escape_by, escapes_from, escapes_of, letter_of, more_of, obeyed_by, shown_by, json_text}
use Rattle.apf_times.specs.Limits.{max_arrival}
use Rattle.apf_audit.specs.AuditEvent.{event, IsTakenInRange, max_name}
use Rattle.apf_audit.specs.TraceText.{member_text, times_text, width_text, line_text}
use Rattle.apf_audit.specs.declared.event.Taken.{Taken}

by_test : (x y b : ℕ) (t : Bool) → length (if t then codes "\\u00" ++ x ∷ y ∷ [] else b ∷ []) ≤ 6
by_test x y b true = lit≤ tt
by_test x y b false = lit≤ tt

by_letter : (o : Option ℕ) (b : ℕ) → length (escape_by o b) ≤ 6
by_letter (Some letter) b = lit≤ tt
by_letter None b = by_test _ _ b (nat_lt b 32)

by_obeyed : (o : Option (ℕ × ℕ)) (b : ℕ) → length (shown_by o b) ≤ 6
by_obeyed (Some obeyed) b = lit≤ tt
by_obeyed None b = by_letter (letter_of b) b

from_length : (passed : ℕ) (text : List ℕ) → length (escapes_from passed text) ≤ 6 * length text
from_length passed [] = lit≤ tt
from_length (suc passed) (b ∷ text) =
    let others : length (escapes_from passed text) ≤ 6 * length text = from_length passed text in
    omega arith
from_length zero (b ∷ text) =
    let o = obeyed_by b (get_or text 0 0) (get_or text 1 0) in
    let one : length (shown_by o b) ≤ 6 = by_obeyed o b in
    let others : length (escapes_from (more_of o) text) ≤ 6 * length text = from_length (more_of o) text in
    omega (arith, length-append (shown_by o b) (escapes_from (more_of o) text))

-- a text becomes at most six times as long between the quotes
escapes_length : (text : List ℕ) → length (escapes_of text) ≤ 6 * length text
escapes_length text = from_length 0 text

json_length : (text : List ℕ) → length (json_text text) ≤ 6 * length text + 2
unfolding json_text
json_length text =
    let others : length (escapes_of text) ≤ 6 * length text = escapes_length text in
    omega (arith, length-append (codes "\"" ++ escapes_of text) (codes "\""), length-append (codes "\"") (escapes_of text))

member_length : (front text : List ℕ) → length (member_text front text) ≤ length front + 6 * length text + 2
unfolding member_text
member_length front text =
    let quoted : length (json_text text) ≤ 6 * length text + 2 = json_length text in
    omega (arith, length-append front (json_text text))

times_length : (arrives_at runs_for : ℕ) → arrives_at < 10 ^ 13 → runs_for < 10 ^ 11 → length (times_text arrives_at runs_for) ≤ 50
unfolding times_text
times_length arrives_at runs_for early short =
    let first : length (decimal arrives_at) ≤ 13 = length-decimal-le 13 arrives_at (lit≤ tt) early (omega arith) in
    let second : length (decimal runs_for) ≤ 11 = length-decimal-le 11 runs_for (lit≤ tt) short (omega arith) in
    simp length-append (omega arith)

width_length : (width : ℕ) → width < 10 ^ 5 → length (width_text width) ≤ 14
unfolding width_text
width_length width few = go (nat_lt 1 width)
  where
    go : (b : Bool) → length (if b then codes ",\"width\":" ++ decimal width else []) ≤ 14
    go true =
        let digits : length (decimal width) ≤ 5 = length-decimal-le 5 width (lit≤ tt) few (omega arith) in
        simp length-append (omega arith)
    go false = lit≤ tt

-- a line of a trace
pub line_length : (schema : List ℕ) (request : Taken) (arrives_at : ℕ) → length schema ≤ max_name → IsTakenInRange request → arrives_at ≤ max_arrival → length (line_text schema (event request) arrives_at) ≤ 65537
unfolding line_text
line_length schema request arrives_at short ranges early =
    let first = member_length (codes "{\"schema\":") schema in
    let second = member_length (codes ",\"distinguisher\":") (string_bytes request.distinguisher) in
    let times = times_length arrives_at request.runs_for (omega (arith, early)) (omega (arith, ranges.run)) in
    let width = width_length request.width (omega (arith, ranges.width.1)) in
    let name = ranges.name in
    simp length-append (omega arith)
