-- What the fault of a trace says of the line that it names.
use Rattle.std.proofs.Common.{subst, ◌≡◌, ℕ, suc, ◌+◌, ◌<◌, List, [], ◌∷◌, length, Bool, true, false, Option, Some, None, Result, Ok, Err, codes, refl, sym, ap, arith}
use Rattle.std.specs.Prelude.{nat_le}
use Rattle.std.proofs.lemmas.Bool.Decides.{nat_tests}
use Rattle.serde_json.specs.Data.{Data}
use Rattle.serde_json.specs.Find.{get, as_object}
use Rattle.apf_words.specs.Limits.{max_cost, max_width}
use Rattle.apf_files.specs.FirstFault.{◌>>=◌, or_fault}
use Rattle.apf_files.specs.JsonFile.{known_object}
use Rattle.apf_files.specs.RequestsFile.{flow_of, number_or}
use Rattle.apf_times.specs.Limits.{max_arrival, max_run}
use Rattle.apf_traces.specs.TraceValue.{is_key, number_at, entry_of}
use Rattle.apf_files.specs.JsonFile.{value_of}
use Rattle.apf_traces.specs.TraceFile.{Line, lines_of, demand, judged_line, judged_text, trace_from, trace_of, max_lines, max_bytes}
use Rattle.apf_traces.specs.TraceFaults.{line_of}
use Rattle.apf_traces.specs.declared.fault.TraceFault.{TraceFault}
use Rattle.apf_traces.specs.declared.fault.TraceFault.TheVariants.{TooMany, TooLong, NotUtf8Json, NotObject, UnknownKey, BadArrival, BadRun, BadFlow, BadWidth, BadCost, Truncated, NoMemory, TooLate}
use Rattle.apf_explain.specs.declared.keys.Keys.TheVariants.{OfTrace}
use Rattle.apf_explain.specs.declared.wanted.Wanted.TheVariants.{Micros}
use Rattle.apf_explain.specs.TraceLines.{nth_line}
use Rattle.apf_explain.specs.TraceShown.{IsUnwantedIfThere, IsTraceValueShown, IsTraceLineShown, IsTraceShown}
use Rattle.apf_explain.proofs.RequestFaults.{flow_told, number_by, before_err}
use Rattle.apf_explain.proofs.Steps.{stepped, none_there}
use Rattle.apf_explain.proofs.Unknown.{known_by}

-- ---- one value

-- the fault is of the line n, and is shown
abbrev pub IsValueAt : ℕ → Data → TraceFault → Type 0
IsValueAt n d fault = (line_of fault ≡ Some n) × IsTraceValueShown d fault

known_shown : (n : ℕ) (d : Data) (fault : TraceFault) → known_object is_key (NotObject n) (UnknownKey n) (as_object d) ≡ Err fault → IsValueAt n d fault
known_shown n d fault h =
    known_by OfTrace d (NotObject n) (UnknownKey n) fault (as_object d) refl h
    (λ nothing same. subst (λ (f : TraceFault). IsValueAt n d f) same (refl, nothing))
    (λ unknown same. subst (λ (f : TraceFault). IsValueAt n d f) same (refl, unknown))

-- a step whose value is not there
at_step : {A : Type 0} (n : ℕ) (d : Data) (o : Option A) (f fault : TraceFault) → or_fault f o ≡ Err fault
    → (o ≡ None → IsValueAt n d f) → IsValueAt n d fault
at_step n d o f fault h shown =
    let no = none_there o f fault h in
    subst (λ (g : TraceFault). IsValueAt n d g) no.1 (shown no.0)

time_by : (key : List ℕ) (high : ℕ) (d : Data) (o : Option Data) → get key d ≡ o → number_at key high d ≡ None → IsUnwantedIfThere (Micros high) o
unfolding number_at
time_by key high d None at h = tt
time_by key high d (Some v) at h = let none = rw at at h in rw none refl

value_shown : (n : ℕ) (d : Data) (fault : TraceFault) → entry_of n d ≡ Err fault → IsValueAt n d fault
unfolding entry_of
value_shown n d fault h =
    let arrival = number_at (codes "arrivesAt") max_arrival d in
    let run = number_at (codes "runsFor") max_run d in
    let flow = flow_of (get (codes "hash") d) (get (codes "schema") d) (get (codes "distinguisher") d) in
    let width = number_or 1 max_width 1 (get (codes "width") d) in
    stepped (known_object is_key (NotObject n) (UnknownKey n) (as_object d)) _ fault h (known_shown n d fault) (λ _ h1.
    stepped (or_fault (BadArrival n) arrival) _ fault h1
    (λ e. at_step n d arrival (BadArrival n) fault e (λ no. (refl, time_by (codes "arrivesAt") max_arrival d (get (codes "arrivesAt") d) refl no))) (λ _ h2.
    stepped (or_fault (BadRun n) run) _ fault h2
    (λ e. at_step n d run (BadRun n) fault e (λ no. (refl, time_by (codes "runsFor") max_run d (get (codes "runsFor") d) refl no))) (λ _ h3.
    stepped (or_fault (BadFlow n) flow) _ fault h3
    (λ e. at_step n d flow (BadFlow n) fault e (λ no. (refl, flow_told (get (codes "hash") d) (get (codes "schema") d) (get (codes "distinguisher") d) no))) (λ _ h4.
    stepped (or_fault (BadWidth n) width) _ fault h4
    (λ e. at_step n d width (BadWidth n) fault e (λ no. (refl, number_by 1 max_width 1 (codes "width") d (get (codes "width") d) refl no))) (λ w h5.
    let cost = number_or 1 max_cost 1 (get (codes "cost") d) in
    stepped (or_fault (BadCost n) cost) _ fault h5
    (λ e. at_step n d cost (BadCost n) fault e (λ no. (refl, number_by 1 max_cost 1 (codes "cost") d (get (codes "cost") d) refl no))) (λ _ h6. absurd cc))))))

-- ---- one line

-- the fault is of the line n, and is shown
abbrev pub IsLineAt : ℕ → Line → TraceFault → Type 0
IsLineAt n line fault = (line_of fault ≡ Some n) × IsTraceLineShown n line fault

-- the fault of the value is shown by the line
of_value : (n : ℕ) (line : Line) (d : Data) (fault : TraceFault) → value_of line.bytes ≡ Some d → IsValueAt n d fault → IsLineAt n line fault
of_value n line d (NotObject m) is h = (h.0, (d, is, h.1))
of_value n line d (UnknownKey m) is h = (h.0, (d, is, h.1))
of_value n line d (BadArrival m) is h = (h.0, (d, is, h.1))
of_value n line d (BadRun m) is h = (h.0, (d, is, h.1))
of_value n line d (BadFlow m) is h = (h.0, (d, is, h.1))
of_value n line d (BadWidth m) is h = (h.0, (d, is, h.1))
of_value n line d (BadCost m) is h = (h.0, (d, is, h.1))
of_value n line d (TooMany m) is h = absurd h.1
of_value n line d (TooLong m) is h = absurd h.1
of_value n line d (NotUtf8Json m) is h = absurd h.1
of_value n line d (Truncated m) is h = absurd h.1
of_value n line d NoMemory is h = absurd h.1
of_value n line d (TooLate m) is h = absurd h.1

demanded : {C : Type 0} (f fault : TraceFault) (b : Bool) → demand f b ≡ Err fault → (b ≡ false → f ≡ fault → C) → C
demanded f fault true h c = absurd cc
demanded f fault false h c = c refl cc

pub above : (n most : ℕ) → nat_le n most ≡ false → most < n
above n most h = grind (arith, nat_tests)

ok_there : {A : Type 0} (f : TraceFault) (o : Option A) (x : A) → or_fault f o ≡ Ok x → o ≡ Some x
ok_there f None x h = absurd cc
ok_there f (Some y) x h = let same : y ≡ x = cc in ap Some same

-- as `stepped`, with what the step was
pub stepped_by : {A B F C : Type 0} (r : Result A F) (next : A → Result B F) (fault : F) → r >>= next ≡ Err fault
    → (r ≡ Err fault → C) → ((x : A) → r ≡ Ok x → next x ≡ Err fault → C) → C
stepped_by (Ok x) next fault h here later = later x refl h
stepped_by (Err f) next fault h here later = let same : f ≡ fault = cc in here (rw same refl)

line_shown : (n : ℕ) (line : Line) (fault : TraceFault) → judged_line n line ≡ Err fault → IsLineAt n line fault
unfolding judged_line judged_text
line_shown n line fault h =
    stepped (demand (TooMany n) (nat_le n max_lines)) _ fault h
    (λ e. demanded (TooMany n) fault _ e (λ no same. subst (λ (f : TraceFault). IsLineAt n line f) same (refl, above n max_lines no))) (λ _ h1.
    stepped (demand (TooLong n) (nat_le (length line.bytes) max_bytes)) _ fault h1
    (λ e. demanded (TooLong n) fault _ e (λ no same. subst (λ (f : TraceFault). IsLineAt n line f) same (refl, above (length line.bytes) max_bytes no))) (λ _ h2.
    stepped_by (or_fault (NotUtf8Json n) (value_of line.bytes)) _ fault h2
    (λ e. let no = none_there (value_of line.bytes) (NotUtf8Json n) fault e in
    subst (λ (f : TraceFault). IsLineAt n line f) no.1 (refl, no.0)) (λ d is h3.
    stepped (entry_of n d) _ fault h3
    (λ e. of_value n line d fault (ok_there (NotUtf8Json n) (value_of line.bytes) d is) (value_shown n d fault e)) (λ _ h4.
    stepped (demand (Truncated n) line.is_ended) _ fault h4
    (λ e. demanded (Truncated n) fault _ e (λ no same. subst (λ (f : TraceFault). IsLineAt n line f) same (refl, no))) (λ _ h5. absurd cc)))))

-- ---- all of a trace

-- the fault is that of a line of these, the first of which has the number n + 1
abbrev pub IsShownFrom : ℕ → List Line → TraceFault → Type 0
IsShownFrom n lines fault =
    (j : ℕ) × ((line : Line) × (nth_line j lines ≡ Some line) × IsLineAt (n + j + 1) line fault)

lines_shown : (n : ℕ) (lines : List Line) (fault : TraceFault) → trace_from (n + 1) lines ≡ Err fault → IsShownFrom n lines fault
lines_shown n [] fault h = absurd cc
lines_shown n (line ∷ lines) fault h =
    before_err (judged_line (n + 1) line) (trace_from (n + 1 + 1) lines) fault h
    (λ e. let here : n + 0 + 1 ≡ n + 1 = omega arith in
    (0, (line, refl, rw here (line_shown (n + 1) line fault e))))
    (λ e. let rest = lines_shown (n + 1) lines fault e in
    let next : n + suc rest.0 + 1 ≡ n + 1 + rest.0 + 1 = omega arith in
    (suc rest.0, (rest.1.0, rest.1.1, rw next rest.1.2)))

pub trace_shown : (bytes : List ℕ) (fault : TraceFault) → trace_of bytes ≡ Err fault → IsTraceShown bytes fault
unfolding trace_of
trace_shown bytes fault h =
    let found = lines_shown 0 (lines_of bytes) fault h in
    let first : 0 + found.0 + 1 ≡ found.0 + 1 = omega arith in
    (found.0, rw (sym first) found.1.2.0, (found.1.0, found.1.1, rw (sym first) found.1.2.1))
