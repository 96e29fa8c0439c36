-- The places of requests, and which of them are late.
use Rattle.std.proofs.Common.{◌≡◌, ℕ, ◌+◌, ◌<◌, ◌≤◌, Bool, true, false, List, [], ◌∷◌, ◌++◌, length, map, Result, Ok, Err, refl, sym, ap, ◌∙◌, arith}
use Rattle.std.specs.Prelude.{cond, count_by, nat_le}
use Rattle.std.proofs.lemmas.Bool.Decides.{nat_tests}
use Rattle.std.proofs.lemmas.List.Sums.{sum_by-cons}
use Rattle.apf_files.specs.FirstFault.{◌>>=◌}
use Rattle.apf_times.specs.declared.window.Place.{Place}
use Rattle.apf_times.specs.declared.window.Arrival.{Arrival}
use Rattle.apf_times.specs.Windows.{precedes}
use Rattle.apf_times.specs.WindowRuns.{number_behind}
use Rattle.apf_traces.specs.TraceFile.{Line, judged_within}
use Rattle.apf_traces.specs.TraceValue.{Entry, entry}
use Rattle.apf_traces.specs.declared.fault.TraceFault.{TraceFault}
use Rattle.apf_traces.specs.declared.fault.TraceFault.TheVariants.{TooLate}
use Rattle.apf_traces.specs.declared.request.TraceRequest.{TraceRequest}
use Rattle.apf_trace_reader.specs.Timely.{in_time, judged_after, most_lines, number_after, place_of}
use Rattle.apf_trace_reader.specs.Reading.{arrivals_from}
use Rattle.apf_trace_reader.proofs.Judging.{places_from}

-- as many requests are behind a place as places of requests
pub number_of-places : (place : Place) (number : ℕ) (requests : List TraceRequest) → number_after place (places_from number (map entry requests)) ≡ number_behind place (arrivals_from number requests)
number_of-places place number [] = refl
number_of-places place number (r ∷ rs) =
    let rest = number_of-places place (number + 1) rs in
    sum_by-cons (λ other. cond (precedes place other) 1 0) (place_of number (entry r)) (places_from (number + 1) (map entry rs))
    ∙ ap (λ n. cond (precedes place (place_of number (entry r))) 1 0 + n) rest
    ∙ sym (sum_by-cons (λ x. cond (precedes place x.place) 1 0) (record { place = place_of number (entry r); item = r }) (arrivals_from (number + 1) rs))

-- a request that is in time
pub judged_in_time : (size number : ℕ) (line : Line) (earlier : List Place) (e : Entry) → judged_within most_lines number line ≡ Ok e → number_after (place_of number e) earlier ≤ size
    → judged_after size earlier number line ≡ Ok e
judged_in_time size number line earlier e judged few =
    let yes : nat_le (number_after (place_of number e) earlier) size ≡ true = grind (arith, nat_tests) in
    rw (judged, yes) refl

-- a request that is too late
pub judged_too_late : (size number : ℕ) (line : Line) (earlier : List Place) (e : Entry) → judged_within most_lines number line ≡ Ok e → size < number_after (place_of number e) earlier
    → judged_after size earlier number line ≡ Err (TooLate number)
judged_too_late size number line earlier e judged many =
    let no : nat_le (number_after (place_of number e) earlier) size ≡ false = grind (arith, nat_tests) in
    rw (judged, no) refl

-- a line with a fault
pub judged_fault : (size number : ℕ) (line : Line) (earlier : List Place) (fault : TraceFault) → judged_within most_lines number line ≡ Err fault → judged_after size earlier number line ≡ Err fault
judged_fault size number line earlier fault judged = rw judged refl

-- one more request
pub arrivals_from-more : (number : ℕ) (requests : List TraceRequest) (r : TraceRequest) (last : ℕ) → last ≡ number + length requests
    → arrivals_from number (requests ++ r ∷ []) ≡ arrivals_from number requests ++ record { place = place_of last (entry r); item = r } ∷ []
arrivals_from-more number [] r last is =
    let same : last ≡ number = omega arith in
    rw same refl
arrivals_from-more number (request ∷ requests) r last is =
    ap (λ (xs : List (Arrival TraceRequest)). record { place = place_of number (entry request); item = request } ∷ xs) (arrivals_from-more (number + 1) requests r last (omega arith))
