-- Lines judged one after the other.
use Rattle.std.proofs.Common.{◌≡◌, ℕ, ◌+◌, ◌<◌, ◌≤◌, List, [], ◌∷◌, ◌++◌, length, map, Bool, true, false, Option, Some, None, Result, Ok, Err, refl, sym, ap, ◌∙◌, append_assoc, arith}
use Rattle.std.specs.Prelude.{cond, count_by, nat_le}
use Rattle.std.specs.Option.{option_to_list}
use Rattle.std.proofs.lemmas.Bool.Decides.{nat_tests}
use Rattle.std.proofs.lemmas.List.Sums.{sum_by-cons}
use Rattle.apf_files.specs.FirstFault.{◌>>=◌}
use Rattle.apf_times.specs.declared.window.Place.{Place}
use Rattle.apf_times.specs.Windows.{precedes}
use Rattle.apf_times.specs.WindowRuns.{number_behind}
use Rattle.apf_traces.specs.TraceFile.{Line}
use Rattle.apf_audit.specs.AuditEvent.{Event, event}
use Rattle.apf_audit.specs.AuditLog.{judged_line}
use Rattle.apf_audit.specs.declared.choice.Choice.{Choice}
use Rattle.apf_audit.specs.declared.event.Taken.{Taken}
use Rattle.apf_audit.specs.declared.fault.AuditFault.{AuditFault}
use Rattle.apf_audit.specs.declared.fault.AuditFault.TheVariants.{TooLate}
use Rattle.apf_audit_reader.specs.Log.{in_time, judged_after, read_from}
use Rattle.apf_audit_reader.specs.Places.{number_after, place_of, placed}

-- as many requests are behind a place as went into the window
pub number_of-placed : (place : Place) (taken : List Taken) → number_after place (map event taken) ≡ number_behind place (map placed taken)
number_of-placed place [] = refl
number_of-placed place (t ∷ ts) =
    let rest = number_of-placed place ts in
    sum_by-cons (λ other. cond (precedes place (place_of other)) 1 0) (event t) (map event ts)
    ∙ ap (λ n. cond (precedes place (place_of (event t))) 1 0 + n) rest
    ∙ sym (sum_by-cons (λ x. cond (precedes place x.place) 1 0) (placed t) (map placed ts))

-- a line that gives nothing
pub judged_none : (choice : Choice) (size : ℕ) (earlier : List Event) (number : ℕ) (line : Line) → judged_line choice number line ≡ Ok None → judged_after choice size earlier number line ≡ Ok None
judged_none choice size earlier number line judged = rw judged refl

-- a request that is in time
pub judged_in_time : (choice : Choice) (size : ℕ) (earlier : List Event) (number : ℕ) (line : Line) (e : Event) → judged_line choice number line ≡ Ok (Some e) → number_after (place_of e) earlier ≤ size
    → judged_after choice size earlier number line ≡ Ok (Some e)
judged_in_time choice size earlier number line e judged few =
    let yes : nat_le (number_after (place_of e) earlier) size ≡ true = grind (arith, nat_tests) in
    rw (judged, yes) refl

-- a request that is too late
pub judged_too_late : (choice : Choice) (size : ℕ) (earlier : List Event) (number : ℕ) (line : Line) (e : Event) → judged_line choice number line ≡ Ok (Some e) → size < number_after (place_of e) earlier
    → judged_after choice size earlier number line ≡ Err (TooLate e.line)
judged_too_late choice size earlier number line e judged many =
    let no : nat_le (number_after (place_of e) earlier) size ≡ false = grind (arith, nat_tests) in
    rw (judged, no) refl

-- a line with a fault
pub judged_fault : (choice : Choice) (size : ℕ) (earlier : List Event) (number : ℕ) (line : Line) (fault : AuditFault) → judged_line choice number line ≡ Err fault → judged_after choice size earlier number line ≡ Err fault
judged_fault choice size earlier number line fault judged = rw judged refl

-- what is read of these lines is known, whatever comes behind
abbrev pub IsReadOf : Choice → ℕ → List Line → List Event → ℕ → Type 0
IsReadOf choice size lines so_far number = (later : List Line) → read_from choice size [] 1 (lines ++ later) ≡ read_from choice size so_far number later

-- one more line without fault
pub read_more : (choice : Choice) (size : ℕ) (lines : List Line) (so_far : List Event) (number : ℕ) (line : Line) (given : Option Event) → IsReadOf choice size lines so_far number → judged_after choice size so_far number line ≡ Ok given
    → IsReadOf choice size (lines ++ line ∷ []) (so_far ++ option_to_list given) (number + 1)
read_more choice size lines so_far number line given is judged later =
    ap (read_from choice size [] 1) (append_assoc lines (line ∷ []) later)
    ∙ is (line ∷ later)
    ∙ ap (λ (r : Result (Option Event) AuditFault). r >>= λ x. read_from choice size (so_far ++ option_to_list x) (number + 1) later) judged

-- a line with a fault
pub read_fault : (choice : Choice) (size : ℕ) (lines : List Line) (so_far : List Event) (number : ℕ) (line : Line) (fault : AuditFault) → IsReadOf choice size lines so_far number → judged_after choice size so_far number line ≡ Err fault
    → (later : List Line) → read_from choice size [] 1 (lines ++ line ∷ later) ≡ Err fault
read_fault choice size lines so_far number line fault is judged later =
    is (line ∷ later) ∙ ap (λ (r : Result (Option Event) AuditFault). r >>= λ x. read_from choice size (so_far ++ option_to_list x) (number + 1) later) judged
