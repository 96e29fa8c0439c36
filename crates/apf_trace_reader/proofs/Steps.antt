-- What was read and taken, step by step.
use Rattle.std.proofs.Common.{◌≡◌, ◌≢◌, ℕ, ◌+◌, ◌<◌, ◌≤◌, List, [], ◌∷◌, ◌++◌, All, length, map, Option, Some, None, Result, Ok, Err, true, false, refl, sym, ap, ◌∙◌, subst, inl, inr, append_assoc, append-nil, arith}
use Rattle.std.specs.Prelude.{Bool, ◌||◌, ◌⊎◌, is_some}
use Rattle.std.specs.List.{flat_map, list_any}
use Rattle.std.proofs.lemmas.List.Folds.{list_any-append}
use Rattle.std.specs.Option.{option_to_list}
use Rattle.std.specs.Io.KnownBytes.{Consumes, IsAtEnd}
use Rattle.std.proofs.KnownBytes.{Consumes-nil}
use Rattle.std.proofs.lemmas.Grind.{flat_map-append}
use Rattle.std.proofs.lemmas.List.{length-append, length-map, map-append}
use Rattle.std.proofs.lemmas.List.Elements.{All-append, All-from_recursion}
use Rattle.apf_lines.specs.Lines.{AreLines, AreUncut, CutsLine, CutsOff, HasNoLf, LinesView, with_lf}
use Rattle.apf_lines.specs.declared.lines.Cut.TheVariants as cuts
use Rattle.apf_times.specs.declared.window.Arrival.{Arrival}
use Rattle.apf_times.specs.declared.window.Place.{Place}
use Rattle.apf_times.specs.Windows.{WindowView, is_late}
use Rattle.apf_times.specs.WindowRuns.{AllPushed, Call, IsWindowRun, all_came, number_behind}
use Rattle.apf_traces.specs.TraceFile.{Line, judged_within, lines_of, max_bytes}
use Rattle.apf_traces.specs.TraceValue.{Entry, entry}
use Rattle.apf_traces.specs.declared.fault.TraceFault.{TraceFault}
use Rattle.apf_traces.specs.declared.fault.TraceFault.TheVariants.{NoMemory, TooLate}
use Rattle.apf_traces.specs.declared.request.TraceRequest.{TraceRequest}
use Rattle.apf_trace_reader.specs.declared.fault.ReadFault.{ReadFault}
use Rattle.apf_trace_reader.specs.declared.stage.Stage.{Stage}
use Rattle.apf_trace_reader.specs.declared.stage.Stage.TheVariants.{Reading, Holding, Ended, Failed}
use Rattle.apf_trace_reader.specs.Timely.{judged_after, most_lines, number_after, place_of, requests_from, requests_of}
use Rattle.apf_trace_reader.specs.Reading.{AreUntaken, HasRead, IsFirstFault, IsRefused, arrivals_from, ended}
use Rattle.apf_trace_reader.specs.Turns.{Goes, IsLate, IsNotTaken, IsStage, IsTaken, placed}
use Rattle.apf_trace_reader.specs.Views.{ReaderView}
use Rattle.apf_trace_reader.proofs.Cutting.{lines_of-line, lines_of-lines, lines_of-rest}
use Rattle.apf_trace_reader.proofs.Judging.{as_many, places_from, requests_from-fault, requests_from-more}
use Rattle.apf_trace_reader.proofs.Placing.{arrivals_from-more, judged_fault, judged_in_time, judged_too_late, number_of-places}
use Rattle.apf_trace_reader.proofs.Windows.{run_kept}

-- what windows are known to do
abbrev pub HandsInTime : Type 0
HandsInTime = (size : ℕ) (calls : List (Call TraceRequest)) (v : WindowView TraceRequest) (place : Place) → IsWindowRun size calls v → AllPushed calls
    → is_late place v.last ≡ false → number_behind place (all_came calls) ≤ size

abbrev pub TellsLate : Type 0
TellsLate = (size : ℕ) (calls : List (Call TraceRequest)) (v : WindowView TraceRequest) (place : Place) → IsWindowRun size calls v → AllPushed calls
    → is_late place v.last ≡ true → size < number_behind place (all_came calls)

-- the places of all that came into the window
came_places : (bytes : List ℕ) (told : List (Arrival TraceRequest)) (left : Option (List ℕ)) (v : ReaderView) → (h : HasRead bytes told left v) → (place : Place)
    → number_behind place (all_came h.calls) ≡ number_behind place (arrivals_from 1 h.requests)
came_places bytes told left v h place = ap (number_behind place) h.came

-- the number of the next line
pub next_number : (lines : List (List ℕ)) (number : ℕ) → number ≡ length lines → number + 1 ≡ 1 + length (map ended lines)
next_number lines number is = omega (arith, is, length-map lines ended)

-- whether one of these and one more says what it is charged
or_false : (b : Bool) → (b || false) ≡ b
or_false true = refl
or_false false = refl

costs_more : (was has_cost : Bool) (requests : List TraceRequest) (r : TraceRequest) → was ≡ list_any (λ x. is_some x.cost) requests → has_cost ≡ is_some r.cost
    → (was || has_cost) ≡ list_any (λ x. is_some x.cost) (requests ++ r ∷ [])
costs_more was has_cost requests r before says =
    ap (λ (b : Bool). b || has_cost) before ∙ ap (λ (b : Bool). list_any (λ x. is_some x.cost) requests || b) (says ∙ sym (or_false (is_some r.cost)))
    ∙ sym (list_any-append (λ x. is_some x.cost) requests (r ∷ []))

-- ---- a line is cut off

pub line_cut : (bytes : List ℕ) (told : List (Arrival TraceRequest)) (left : Option (List ℕ)) (v : ReaderView) (ls : LinesView) → HasRead bytes told left v → v.stage ≡ Reading → CutsOff v.lines cuts.Line ls
    → HasRead bytes told left (record { lines = ls; window = v.window; number = v.number; stage = Holding; has_cost = v.has_cost })
line_cut bytes told left v ls h is off = record {
  lines = h.lines;
  rest = h.rest;
  are_lines = h.are_lines;
  untaken = off.of_each h.rest (subst (λ s. AreUntaken s h.rest v.lines) is h.untaken);
  number = h.number;
  requests = h.requests;
  judged = h.judged;
  cost = h.cost;
  calls = h.calls;
  run = h.run;
  came = h.came;
  out = h.out;
  pushed = λ other. h.pushed (λ e. absurd cc);
  end = λ e. absurd cc;
}

-- ---- the line that is held is taken

joined_more : (bytes : List ℕ) (lines : List (List ℕ)) (rest line later : List ℕ) → AreLines bytes lines rest → rest ≡ line ++ (10 ∷ later) → HasNoLf line → AreLines bytes (lines ++ line ∷ []) later
joined_more bytes lines rest line later are first whole = record {
  joined =
      are.joined ∙ ap (λ (r : List ℕ). flat_map with_lf lines ++ r) (first ∙ sym (append_assoc line (10 ∷ []) later))
      ∙ sym (append_assoc (flat_map with_lf lines) (with_lf line) later)
      ∙ ap (λ (l : List ℕ). (flat_map with_lf lines ++ l) ++ later) (sym (append-nil (with_lf line)))
      ∙ ap (λ (l : List ℕ). l ++ later) (sym (flat_map-append with_lf lines (line ∷ [])));
  whole = All-append HasNoLf lines (line ∷ []) are.whole (All-from_recursion HasNoLf (line ∷ []) (whole, tt));
}

judged_more : (size : ℕ) (lines : List (List ℕ)) (line : List ℕ) (requests : List TraceRequest) (number : ℕ) (r : TraceRequest) → number ≡ length lines → requests_from size [] 1 (map ended lines) ≡ Ok (map entry requests)
    → judged_after size (places_from 1 (map entry requests)) (number + 1) (ended line) ≡ Ok (entry r)
    → requests_from size [] 1 (map ended (lines ++ line ∷ [])) ≡ Ok (map entry (requests ++ r ∷ []))
judged_more size lines line requests number r is h judged =
    ap (requests_from size [] 1) (map-append ended lines (line ∷ []))
    ∙ requests_from-more size (map ended lines) (ended line) (map entry requests) (number + 1) (entry r) h (next_number lines number is) judged
    ∙ ap Ok (sym (map-append entry requests (r ∷ [])))

-- bytes come behind a line that is cut off
more_behind : (bytes : List ℕ) (lines : List (List ℕ)) (rest line later more : List ℕ) → bytes ≡ flat_map with_lf lines ++ rest → rest ≡ line ++ (10 ∷ later)
    → bytes ++ more ≡ flat_map with_lf lines ++ (line ++ (10 ∷ (later ++ more)))
more_behind bytes lines rest line later more joined first =
    ap (λ (b : List ℕ). b ++ more) (joined ∙ ap (λ (r : List ℕ). flat_map with_lf lines ++ r) first)
    ∙ append_assoc (flat_map with_lf lines) (line ++ (10 ∷ later)) more
    ∙ ap (λ (r : List ℕ). flat_map with_lf lines ++ r) (append_assoc line (10 ∷ later) more)

-- the first fault is that of the line behind these lines
first_fault : (size : ℕ) (bytes : List ℕ) (lines : List (List ℕ)) (line later : List ℕ) (requests : List TraceRequest) (number : ℕ) (fault : TraceFault) → All HasNoLf lines → HasNoLf line → number ≡ length lines
    → requests_from size [] 1 (map ended lines) ≡ Ok (map entry requests) → judged_after size (places_from 1 (map entry requests)) (number + 1) (ended line) ≡ Err fault
    → bytes ≡ flat_map with_lf lines ++ (line ++ (10 ∷ later)) → requests_of size bytes ≡ Err fault
unfolding requests_of
first_fault size bytes lines line later requests number fault whole line_whole is h judged are =
    ap (λ (b : List ℕ). requests_from size [] 1 (lines_of b)) are
    ∙ ap (requests_from size [] 1) (lines_of-lines lines (line ++ (10 ∷ later)) whole ∙ ap (λ ls. map ended lines ++ ls) (lines_of-line line later line_whole))
    ∙ requests_from-fault size (map ended lines) (ended line) (lines_of later) (map entry requests) (number + 1) fault h (next_number lines number is) judged

-- some bytes are there
some_there : (bytes : List ℕ) (lines : List (List ℕ)) (rest line later : List ℕ) → bytes ≡ flat_map with_lf lines ++ rest → rest ≡ line ++ (10 ∷ later) → 0 < length bytes
some_there bytes lines rest line later joined first =
    let whole : length bytes ≡ length (flat_map with_lf lines ++ (line ++ (10 ∷ later))) = ap length (joined ∙ ap (λ (r : List ℕ). flat_map with_lf lines ++ r) first) in
    omega (arith, whole, length-append (flat_map with_lf lines) (line ++ (10 ∷ later)), length-append line (10 ∷ later))

-- a fault that stays, whatever comes behind
first_of : (size same : ℕ) (bytes : List ℕ) (left : Option (List ℕ)) (fault : TraceFault) → same ≡ size → ((later : List ℕ) → requests_of size (bytes ++ later) ≡ Err fault) → IsFirstFault same bytes left fault
first_of size same bytes left fault is stays = subst (λ n. IsFirstFault n bytes left fault) (sym is) (record {
  first = subst (λ b. requests_of size b ≡ Err fault) (append-nil bytes) (stays []);
  stays = inl stays;
})

module _ (hands : HandsInTime) (tells : TellsLate) (bytes : List ℕ) (told : List (Arrival TraceRequest)) (left : Option (List ℕ)) (v : ReaderView) (h : HasRead bytes told left v) (held : v.stage ≡ Holding) where
  -- the line that is held stands first
  cut : CutsLine h.rest v.lines.line v.lines
  cut = (subst (λ s. AreUntaken s h.rest v.lines) held h.untaken).1

  all_pushed : AllPushed h.calls
  all_pushed = h.pushed (λ e. absurd cc)

  -- as many places are behind a place
  places : (place : Place) → number_after place (places_from 1 (map entry h.requests)) ≡ number_behind place (all_came h.calls)
  places place = number_of-places place 1 h.requests ∙ sym (ap (number_behind place) h.came)

  -- the request of the line, where it is in time
  judged_held : (r : TraceRequest) → judged_within most_lines (v.number + 1) (ended v.lines.line) ≡ Ok (entry r) → is_late (place_of (v.number + 1) (entry r)) v.window.last ≡ false
      → judged_after v.window.size (places_from 1 (map entry h.requests)) (v.number + 1) (ended v.lines.line) ≡ Ok (entry r)
  judged_held r judged timely =
      let place = place_of (v.number + 1) (entry r) in
      let few = hands v.window.size h.calls v.window place h.run all_pushed timely in
      judged_in_time v.window.size (v.number + 1) (ended v.lines.line) (places_from 1 (map entry h.requests)) (entry r) judged (omega (arith, few, places place))

  -- the line was taken
  pub line_taken : (w : WindowView TraceRequest) (out : Option (Arrival TraceRequest)) (has_cost : Bool) → IsTaken (v.number + 1) (ended v.lines.line) v.window out w has_cost
      → HasRead bytes (told ++ option_to_list out) left (record { lines = v.lines; window = w; number = v.number + 1; stage = Reading; has_cost = v.has_cost || has_cost })
  line_taken w out has_cost taken =
      let r : TraceRequest = taken.request in
      let first : HasRead bytes told left v = h in
      let line : List ℕ = v.lines.line in
      let judged : requests_from v.window.size [] 1 (map ended (h.lines ++ line ∷ [])) ≡ Ok (map entry (h.requests ++ r ∷ [])) =
      judged_more v.window.size h.lines line h.requests v.number r h.number h.judged (judged_held r taken.judged taken.timely) in
      let many : length (map entry h.requests) ≡ length (map ended h.lines) = as_many v.window.size [] 1 (map ended h.lines) (map entry h.requests) h.judged in
      let count : v.number + 1 ≡ 1 + length h.requests = omega (arith, many, length-map h.lines ended, length-map h.requests entry, h.number) in
      record {
        lines = h.lines ++ line ∷ [];
        rest = cut.later;
        are_lines = joined_more bytes h.lines h.rest line cut.later h.are_lines cut.first cut.whole;
        untaken = cut.left;
        number = omega (arith, h.number, length-append h.lines (line ∷ []));
        requests = h.requests ++ r ∷ [];
        judged = subst (λ s. requests_from s [] 1 (map ended (h.lines ++ line ∷ [])) ≡ Ok (map entry (h.requests ++ r ∷ []))) (sym taken.size) judged;
        cost = costs_more v.has_cost has_cost h.requests r h.cost taken.says;
        calls = record { came = Some (placed (v.number + 1) r); out = out } ∷ h.calls;
        run = (v.window, subst (λ s. IsWindowRun s h.calls v.window) (sym taken.size) h.run, (taken.timely, taken.pushed), taken.size);
        came = ap (λ (xs : List (Arrival TraceRequest)). xs ++ placed (v.number + 1) r ∷ []) h.came ∙ sym (arrivals_from-more 1 h.requests r (v.number + 1) count);
        out = ap (λ (xs : List (Arrival TraceRequest)). xs ++ option_to_list out) h.out;
        pushed = λ other. (λ e. absurd cc, all_pushed);
        end = λ e. absurd cc;
      }

  -- the line's fault is the first, whatever comes behind
  fault_stays : (fault : TraceFault) → judged_after v.window.size (places_from 1 (map entry h.requests)) (v.number + 1) (ended v.lines.line) ≡ Err fault
      → (later : List ℕ) → requests_of v.window.size (bytes ++ later) ≡ Err fault
  fault_stays fault judged later =
      first_fault v.window.size (bytes ++ later) h.lines v.lines.line (cut.later ++ later) h.requests v.number fault h.are_lines.whole cut.whole h.number h.judged judged
      (more_behind bytes h.lines h.rest v.lines.line cut.later later h.are_lines.joined cut.first)

  -- the line was not taken
  judged_not : (w : WindowView TraceRequest) (fault : TraceFault) → IsNotTaken (v.number + 1) (ended v.lines.line) v.window fault w → fault ≢ NoMemory
      → judged_after v.window.size (places_from 1 (map entry h.requests)) (v.number + 1) (ended v.lines.line) ≡ Err fault
  judged_not w fault not other =
      elim (not.is other) [
        | inl e ↦ judged_fault v.window.size (v.number + 1) (ended v.lines.line) (places_from 1 (map entry h.requests)) fault e
        | inr l ↦
            let place = place_of (v.number + 1) (entry l.0.request) in
            let many = tells v.window.size h.calls v.window place h.run all_pushed l.0.late in
            judged_too_late v.window.size (v.number + 1) (ended v.lines.line) (places_from 1 (map entry h.requests)) (entry l.0.request) l.0.judged (omega (arith, many, places place))
            ∙ ap Err (sym l.1)
      ]

  pub line_refused : (w : WindowView TraceRequest) (fault : TraceFault) (s : Stage) → IsNotTaken (v.number + 1) (ended v.lines.line) v.window fault w → IsStage v.stage fault s
      → IsRefused bytes told left fault (record { lines = v.lines; window = w; number = v.number; stage = s; has_cost = v.has_cost })
  line_refused w fault s not stage = record {
    first = λ other. (first_of v.window.size w.size bytes left fault not.size (fault_stays fault (judged_not w fault not other)), stage.0 other);
    kept = λ e. record {
      lines = h.lines;
      rest = h.rest;
      are_lines = h.are_lines;
      untaken = subst (λ t. AreUntaken t h.rest v.lines) (sym (stage.1 e)) h.untaken;
      number = h.number;
      requests = h.requests;
      judged = subst (λ n. requests_from n [] 1 (map ended h.lines) ≡ Ok (map entry h.requests)) (sym not.size) h.judged;
      cost = h.cost;
      calls = h.calls;
      run = subst (λ n. IsWindowRun n h.calls w) (sym not.size) (run_kept v.window.size h.calls v.window w all_pushed not.held not.last not.size h.run);
      came = h.came;
      out = h.out;
      pushed = λ other. all_pushed;
      end = λ ends. let as_it_was = stage.1 e in absurd cc;
    };
    memory = λ e. some_there bytes h.lines h.rest v.lines.line cut.later h.are_lines.joined cut.first;
  }

-- ---- a line that is too long is cut off

pub long_refused : (bytes : List ℕ) (told : List (Arrival TraceRequest)) (left : Option (List ℕ)) (v : ReaderView) (ls : LinesView) (fault : TraceFault) (s : Stage)
    → HasRead bytes told left v → v.stage ≡ Reading → v.lines.longest ≡ max_bytes → CutsOff v.lines cuts.TooLong ls
    → ((line : Line) → max_bytes < length line.bytes → judged_within most_lines (v.number + 1) line ≡ Err fault) → fault ≢ NoMemory → IsStage v.stage fault s
    → IsRefused bytes told left fault (record { lines = ls; window = v.window; number = v.number; stage = s; has_cost = v.has_cost })
long_refused bytes told left v ls fault s h is most off judged other stage =
    let long = off.of_each h.rest (subst (λ t. AreUntaken t h.rest v.lines) is h.untaken) in
    let line : List ℕ = long.line in
    let later : List ℕ = long.cuts.later in
    let length_is : max_bytes < length line = omega (arith, long.long, off.longest, most) in
    let after : judged_after v.window.size (places_from 1 (map entry h.requests)) (v.number + 1) (ended line) ≡ Err fault =
    judged_fault v.window.size (v.number + 1) (ended line) (places_from 1 (map entry h.requests)) fault (judged (ended line) length_is) in
    record {
      first = λ _. (
        first_of v.window.size v.window.size bytes left fault refl (λ more.
            first_fault v.window.size (bytes ++ more) h.lines line (later ++ more) h.requests v.number fault h.are_lines.whole long.cuts.whole h.number h.judged after
            (more_behind bytes h.lines h.rest line later more h.are_lines.joined long.cuts.first)),
        stage.0 other,
      );
      kept = λ e. absurd (other e);
      memory = λ e. absurd (other e);
    }

-- ---- no whole line is there

pub record IsWithout (bytes : List ℕ) (told : List (Arrival TraceRequest)) (left : Option (List ℕ)) (v : ReaderView) : Type 0 where
  pub read : HasRead bytes told left v
  pub whole : HasNoLf read.rest

pub nothing_cut : (bytes : List ℕ) (told : List (Arrival TraceRequest)) (left : Option (List ℕ)) (v : ReaderView) (ls : LinesView) → HasRead bytes told left v → v.stage ≡ Reading → CutsOff v.lines cuts.Nothing ls
    → IsWithout bytes told left (record { lines = ls; window = v.window; number = v.number; stage = v.stage; has_cost = v.has_cost })
nothing_cut bytes told left v ls h is off =
    let none = off.of_each h.rest (subst (λ s. AreUntaken s h.rest v.lines) is h.untaken) in
    record {
      read = record {
        lines = h.lines;
        rest = h.rest;
        are_lines = h.are_lines;
        untaken = subst (λ l. AreUntaken v.stage h.rest l) (sym none.1) h.untaken;
        number = h.number;
        requests = h.requests;
        judged = h.judged;
        cost = h.cost;
        calls = h.calls;
        run = h.run;
        came = h.came;
        out = h.out;
        pushed = h.pushed;
        end = h.end;
      };
      whole = none.0;
    }

-- ---- more is read

pub more_read : (bytes : List ℕ) (told : List (Arrival TraceRequest)) (was left : Option (List ℕ)) (v : ReaderView) (ls : LinesView) (more : List ℕ) → (h : HasRead bytes told was v) → v.stage ≡ Reading
    → ((rest : List ℕ) → AreUncut rest v.lines → AreUncut (rest ++ more) ls) → HasRead (bytes ++ more) told left (record { lines = ls; window = v.window; number = v.number; stage = v.stage; has_cost = v.has_cost })
more_read bytes told was left v ls more h is gains = record {
  lines = h.lines;
  rest = h.rest ++ more;
  are_lines = record {
    joined = ap (λ (b : List ℕ). b ++ more) h.are_lines.joined ∙ append_assoc (flat_map with_lf h.lines) h.rest more;
    whole = h.are_lines.whole;
  };
  untaken = subst (λ s. AreUntaken s (h.rest ++ more) ls) (sym is) (gains h.rest (subst (λ s. AreUntaken s h.rest v.lines) is h.untaken));
  number = h.number;
  requests = h.requests;
  judged = h.judged;
  cost = h.cost;
  calls = h.calls;
  run = h.run;
  came = h.came;
  out = h.out;
  pushed = h.pushed;
  end = λ ends. absurd cc;
}

-- the input is at its end
pub end_read : (bytes : List ℕ) (told : List (Arrival TraceRequest)) (was left : Option (List ℕ)) (v : ReaderView) (ls : LinesView) (more : List ℕ) → (h : HasRead bytes told was v) → HasNoLf h.rest → v.stage ≡ Reading → more ≡ []
    → ((rest : List ℕ) → AreUncut rest v.lines → AreUncut (rest ++ more) ls) → IsWithout (bytes ++ more) told left (record { lines = ls; window = v.window; number = v.number; stage = v.stage; has_cost = v.has_cost })
unfolding more_read
end_read bytes told was left v ls more h whole is none gains = record {
  read = more_read bytes told was left v ls more h is gains;
  whole = subst HasNoLf (sym (append-nil h.rest) ∙ ap (λ (b : List ℕ). h.rest ++ b) (sym none)) whole;
}

-- nothing more is read
pub nothing_more : (bytes : List ℕ) (told : List (Arrival TraceRequest)) (was : Option (List ℕ)) (result : Result (Option (Arrival TraceRequest)) ReadFault) (v : ReaderView) → Goes bytes told was result v
    → (more : List ℕ) × Consumes was was more × Goes (bytes ++ more) told was result v
nothing_more bytes told was result v goes = ([], Consumes-nil was, subst (λ b. Goes b told was result v) (sym (append-nil bytes)) goes)

-- nothing is handed out
pub none_told : (bytes : List ℕ) (told : List (Arrival TraceRequest)) (left : Option (List ℕ)) (v : ReaderView) → HasRead bytes told left v → HasRead bytes (told ++ option_to_list None) left v
none_told bytes told left v h = subst (λ t. HasRead bytes t left v) (sym (append-nil told)) h
