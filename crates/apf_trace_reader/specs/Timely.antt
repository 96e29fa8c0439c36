-- What a trace of any length says, of which each line may come late by a number of places.
use Rattle.std.specs.Prelude.{ℕ, ◌+◌, List, [], ◌∷◌, ◌++◌, count_by, nat_le, Result, Ok}
use Rattle.apf_files.specs.FirstFault.{◌>>=◌, with_front}
use Rattle.apf_times.specs.declared.window.Place.{Place}
use Rattle.apf_times.specs.Windows.{precedes}
use Rattle.apf_traces.specs.TraceValue.{Entry}
use Rattle.apf_traces.specs.TraceFile.{Line, demand, judged_within, lines_of}
use Rattle.apf_traces.specs.declared.fault.TraceFault.{TraceFault}
use Rattle.apf_traces.specs.declared.fault.TraceFault.TheVariants.{TooLate}

-- a trace that is read in pieces has at most this many lines, 2^64 - 2
abbrev pub most_lines : ℕ
most_lines = 18446744073709551614

-- the place of the request of the line of this number
abbrev pub place_of : ℕ → Entry → Place
place_of number e = record { arrives_at = e.arrives_at; line = number }

-- how many of these places one is before
abbrev pub number_after : Place → List Place → ℕ
number_after place places = count_by (λ other. precedes place other) places

-- the request, unless its place is before more than this many of these
abbrev pub in_time : ℕ → List Place → ℕ → Entry → Result Entry TraceFault
in_time size earlier number e = demand (TooLate number) (nat_le (number_after (place_of number e) earlier) size) >>= λ timely. Ok e

-- the request that the line of this number is, or its first fault, where these are the places of the requests of the lines before it
abbrev pub judged_after : ℕ → List Place → ℕ → Line → Result Entry TraceFault
judged_after size earlier number line = judged_within most_lines number line >>= in_time size earlier number

-- the requests of the lines, of which the first has this number, or the first fault
abbrev pub requests_from : ℕ → List Place → ℕ → List Line → Result (List Entry) TraceFault
requests_from size earlier number [] = Ok []
requests_from size earlier number (line ∷ lines) =
    judged_after size earlier number line >>= λ e. with_front (e ∷ []) (requests_from size (earlier ++ place_of number e ∷ []) (number + 1) lines)

-- the requests of a trace of which a line may come this many places late, or its first fault
unfoldable pub requests_of : ℕ → List ℕ → Result (List Entry) TraceFault
requests_of size bytes = requests_from size [] 1 (lines_of bytes)
