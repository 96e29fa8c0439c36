-- A log that is read as a whole is read alike in pieces.
use Rattle.std.proofs.Common.{◌≡◌, ◌≢◌, ℕ, ◌+◌, ◌<◌, ◌≤◌, Bool, true, false, List, [], ◌∷◌, ◌++◌, length, map, take, Option, Some, None, Result, Ok, Err, refl, sym, ap, ◌∙◌, append_assoc, append-nil, arith}
use Rattle.std.specs.Prelude.{cond, count_by, nat_le}
use Rattle.std.specs.Option.{option_to_list}
use Rattle.std.proofs.lemmas.Bool.Decides.{nat_tests}
use Rattle.std.proofs.lemmas.List.{length-append, take_all}
use Rattle.std.proofs.lemmas.List.Sums.{count_by-le-length}
use Rattle.apf_files.specs.FirstFault.{◌>>=◌, before, with_front}
use Rattle.apf_times.specs.Windows.{precedes}
use Rattle.apf_times.specs.Waits.{max_exact}
use Rattle.apf_traces.specs.TraceFile.{Line, lines_of}
use Rattle.apf_audit.specs.AuditEvent.{Event}
use Rattle.apf_audit.specs.AuditLog.{before_taken, events_from, events_of, judged_line}
use Rattle.apf_audit.specs.Estimates.{run_read}
use Rattle.apf_audit.specs.Runs.{run_in}
use Rattle.apf_audit.specs.declared.choice.Choice.{Choice}
use Rattle.apf_audit.specs.declared.fault.AuditFault.{AuditFault}
use Rattle.apf_audit_reader.specs.Log.{handed_from, in_time, judged_after, read_from, requests_of, with_run}
use Rattle.apf_audit_reader.specs.Places.{number_after, place_of}

-- differs request of the first is late
timely : (size : ℕ) (earlier : List Event) (given : Option Event) → length earlier ≤ size → in_time size earlier given ≡ Ok given
timely size earlier None few = refl
timely size earlier (Some e) few =
    let less = count_by-le-length (λ other. precedes (place_of e) (place_of other)) earlier in
    let yes : nat_le (number_after (place_of e) earlier) size ≡ true = grind (arith, nat_tests) in
    rw yes refl

-- those of more lines behind those so far
with_more : (so_far : List Event) (given : Option Event) (rest : Result (List Event) AuditFault) → with_front (so_far ++ option_to_list given) rest ≡ with_front so_far (before_taken (Ok given) rest)
with_more so_far None rest = ap (λ (l : List Event). with_front l rest) (append-nil so_far)
with_more so_far (Some e) (Ok es) = ap Ok (append_assoc so_far (e ∷ []) es)
with_more so_far (Some e) (Err fault) = refl

longer : (so_far : List Event) (given : Option Event) → length (so_far ++ option_to_list given) ≤ length so_far + 1
longer so_far None = let same = ap length (append-nil so_far) in omega (arith, same)
longer so_far (Some e) = omega (arith, length-append so_far (e ∷ []))

module _ (choice : Choice) (size : ℕ) where
  -- where the lines are few
  alike : (so_far : List Event) (number : ℕ) (lines : List Line) → length so_far + length lines ≤ size → read_from choice size so_far number lines ≡ with_front so_far (events_from choice number lines)
  alike so_far number [] few = ap Ok (sym (append-nil so_far))
  alike so_far number (line ∷ lines) few =
      go (judged_line choice number line) (λ given. alike (so_far ++ option_to_list given) (number + 1) lines (let more = longer so_far given in omega (arith, more, few)))
    where
      go : (r : Result (Option Event) AuditFault)
          → ((given : Option Event) → read_from choice size (so_far ++ option_to_list given) (number + 1) lines ≡ with_front (so_far ++ option_to_list given) (events_from choice (number + 1) lines))
          → ((r >>= in_time size so_far) >>= λ given. read_from choice size (so_far ++ option_to_list given) (number + 1) lines) ≡ with_front so_far (before_taken r (events_from choice (number + 1) lines))
      go (Err fault) rest = refl
      go (Ok given) rest =
          ap (λ (r : Result (Option Event) AuditFault). r >>= λ x. read_from choice size (so_far ++ option_to_list x) (number + 1) lines) (timely size so_far given (omega arith))
          ∙ rest given
          ∙ with_more so_far given (events_from choice (number + 1) lines)

  -- where the requests are few, and differs line has a fault
  rest_of : (given : Option Event) (rest : Result (List Event) AuditFault) (es : List Event) → before_taken (Ok given) rest ≡ Ok es → (others : List Event) × (rest ≡ Ok others) × (es ≡ option_to_list given ++ others)
  rest_of None rest es is = (es, is, refl)
  rest_of (Some e) (Ok others) es is = (others, refl, cc)
  rest_of (Some e) (Err fault) es is = absurd cc

  alike_good : (so_far : List Event) (number : ℕ) (lines : List Line) (es : List Event) → events_from choice number lines ≡ Ok es → length so_far + length es ≤ size → read_from choice size so_far number lines ≡ Ok (so_far ++ es)
  alike_good so_far number [] es is few =
      let none : es ≡ [] = cc in
      ap Ok (sym (append-nil so_far) ∙ ap (λ (l : List Event). so_far ++ l) (sym none))
  alike_good so_far number (line ∷ lines) es is few =
      go (judged_line choice number line) (λ given others. alike_good (so_far ++ option_to_list given) (number + 1) lines others) is
    where
      go : (r : Result (Option Event) AuditFault)
          → ((given : Option Event) (others : List Event) → events_from choice (number + 1) lines ≡ Ok others → length (so_far ++ option_to_list given) + length others ≤ size
          → read_from choice size (so_far ++ option_to_list given) (number + 1) lines ≡ Ok ((so_far ++ option_to_list given) ++ others))
          → before_taken r (events_from choice (number + 1) lines) ≡ Ok es
          → ((r >>= in_time size so_far) >>= λ given. read_from choice size (so_far ++ option_to_list given) (number + 1) lines) ≡ Ok (so_far ++ es)
      go (Err fault) later differs = absurd cc
      go (Ok given) later all =
          let rest = rest_of given (events_from choice (number + 1) lines) es all in
          let whole = ap length rest.2 in
          ap (λ (r : Result (Option Event) AuditFault). r >>= λ x. read_from choice size (so_far ++ option_to_list x) (number + 1) lines) (timely size so_far given (omega arith))
          ∙ later given rest.0 rest.1 (omega (arith, few, whole, length-append (option_to_list given) rest.0, length-append so_far (option_to_list given)))
          ∙ ap Ok (append_assoc so_far (option_to_list given) rest.0 ∙ ap (λ (l : List Event). so_far ++ l) (sym rest.2))

with_nothing : (r : Result (List Event) AuditFault) → with_front [] r ≡ r
with_nothing (Ok es) = refl
with_nothing (Err fault) = refl

pub lines_alike : (choice : Choice) (size : ℕ) (bytes : List ℕ) → length (lines_of bytes) ≤ size → requests_of choice size bytes ≡ events_of choice bytes
unfolding requests_of events_of
lines_alike choice size bytes few = alike choice size [] 1 (lines_of bytes) (omega (arith, few)) ∙ with_nothing (events_from choice 1 (lines_of bytes))

pub read_alike : (choice : Choice) (size : ℕ) (bytes : List ℕ) (events : List Event) → length events ≤ size → events_of choice bytes ≡ Ok events → requests_of choice size bytes ≡ Ok events
unfolding requests_of events_of
read_alike choice size bytes events few is = alike_good choice size [] 1 (lines_of bytes) events is (omega (arith, few))

-- what short estimates are known to be
abbrev pub AreExact : Type 0
AreExact = (events : List Event) (e : Event) → length events ≤ max_exact → run_read events e ≡ run_in events e

pub runs_alike : AreExact → (size before : ℕ) (events ordered : List Event) → length events ≤ size → length events ≤ max_exact
    → handed_from size events before ordered ≡ map (λ e. with_run (run_in events e) e) ordered
runs_alike exact size before events [] few short = refl
runs_alike exact size before events (e ∷ ordered) few short =
    ap (λ (es : List Event). with_run (run_read es e) e ∷ handed_from size events (before + 1) ordered) (take_all (size + 1 + before) events (omega (arith, few)))
    ∙ ap (λ n. with_run n e ∷ handed_from size events (before + 1) ordered) (exact events e short)
    ∙ ap (λ (l : List Event). with_run (run_in events e) e ∷ l) (runs_alike exact size (before + 1) events ordered few short)
