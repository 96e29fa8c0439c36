-- The end of the input, and what is handed out there.
use Rattle.std.proofs.Common.{◌≡◌, ◌≢◌, ℕ, ◌+◌, ◌<◌, ◌≤◌, Bool, lit≤, List, [], ◌∷◌, ◌++◌, All, length, map, Option, Some, None, Result, Ok, Err, true, false, IsPermutation, refl, sym, ap, ◌∙◌, subst, inl, inr, append_assoc, append-nil, arith}
use Rattle.std.specs.Prelude.{◌==◌, count_by, cond}
use Rattle.std.specs.List.{flat_map}
use Rattle.std.specs.Option.{option_to_list}
use Rattle.std.specs.Io.KnownBytes.{IsAtEnd}
use Rattle.std.proofs.lemmas.Bool.Decides.{nat_tests}
use Rattle.std.proofs.lemmas.List.{length-append, length-map}
use Rattle.std.proofs.lemmas.List.Sums.{sum_by-cons}
use Rattle.apf_lines.specs.Lines.{AreDropped, AreUncut, HasNoLf, LinesView, TellsRest, with_lf}
use Rattle.apf_times.specs.declared.window.Arrival.{Arrival}
use Rattle.apf_times.specs.Windows.{IsPopped, WindowView}
use Rattle.apf_times.specs.WindowRuns.{AreInPlace, Call, HaveOwnLines, IsWindowRun, all_came, all_out}
use Rattle.apf_traces.specs.TraceFile.{Line, judged_within, lines_of, max_bytes}
use Rattle.apf_traces.specs.TraceValue.{entry}
use Rattle.apf_traces.specs.declared.fault.TraceFault.{TraceFault}
use Rattle.apf_traces.specs.declared.fault.TraceFault.TheVariants.{NoMemory}
use Rattle.apf_traces.specs.declared.request.TraceRequest.{TraceRequest}
use Rattle.apf_trace_reader.specs.declared.stage.Stage.{Stage}
use Rattle.apf_trace_reader.specs.declared.stage.Stage.TheVariants.{Reading, Ended}
use Rattle.apf_trace_reader.specs.Timely.{judged_after, most_lines, place_of, requests_from, requests_of}
use Rattle.apf_trace_reader.specs.Reading.{AreAll, AreUntaken, Answers, HasRead, IsRefused, arrivals_from, ended}
use Rattle.apf_trace_reader.specs.Turns.{IsStage}
use Rattle.apf_trace_reader.specs.Views.{ReaderView}
use Rattle.apf_trace_reader.proofs.Cutting.{lines_of-lines, lines_of-rest}
use Rattle.apf_trace_reader.proofs.Judging.{places_from, requests_from-fault}
use Rattle.apf_trace_reader.proofs.Placing.{judged_fault}
use Rattle.apf_trace_reader.proofs.Steps.{next_number}

-- what windows are known to hand out
abbrev pub HandsAll : Type 0
HandsAll = (size : ℕ) (calls : List (Call TraceRequest)) (v : WindowView TraceRequest) → IsWindowRun size calls v → IsPermutation (all_came calls) (all_out calls ++ v.held)

abbrev pub HandsInOrder : Type 0
HandsInOrder = (size : ℕ) (calls : List (Call TraceRequest)) (v : WindowView TraceRequest) → IsWindowRun size calls v → AreInPlace (all_out calls)

abbrev pub HasOneOrder : Type 0
HasOneOrder = (size : ℕ) (calls : List (Call TraceRequest)) (v : WindowView TraceRequest) (ordered : List (Arrival TraceRequest)) → IsWindowRun size calls v → v.held ≡ []
    → HaveOwnLines (all_came calls) → AreInPlace ordered → IsPermutation (all_came calls) ordered → all_out calls ≡ ordered

-- ---- the input ended behind a whole line

pub input_ended : (bytes : List ℕ) (told : List (Arrival TraceRequest)) (left : Option (List ℕ)) (v : ReaderView) → IsAtEnd left → HasRead bytes told left v → v.stage ≡ Reading → TellsRest v.lines false
    → HasRead bytes told left (record { lines = v.lines; window = v.window; number = v.number; stage = Ended; has_cost = v.has_cost })
input_ended bytes told left v end h is none = record {
  lines = h.lines;
  rest = h.rest;
  are_lines = h.are_lines;
  untaken = none h.rest (subst (λ s. AreUntaken s h.rest v.lines) is h.untaken);
  number = h.number;
  requests = h.requests;
  judged = h.judged;
  cost = h.cost;
  calls = h.calls;
  run = h.run;
  came = h.came;
  out = h.out;
  pushed = λ other. absurd (other refl);
  end = λ _. end;
}

-- ---- the input ended within a line

rest_lines : (bytes : List ℕ) (lines : List (List ℕ)) (rest : List ℕ) → bytes ≡ flat_map with_lf lines ++ rest → All HasNoLf lines → HasNoLf rest → 0 < length rest
    → lines_of bytes ≡ map ended lines ++ (record { bytes = rest; is_ended = false } ∷ [])
rest_lines bytes lines rest joined whole rest_whole some =
    ap lines_of joined ∙ lines_of-lines lines rest whole ∙ ap (λ ls. map ended lines ++ ls) (lines_of-rest rest rest_whole some)

pub rest_refused : (bytes : List ℕ) (told : List (Arrival TraceRequest)) (left : Option (List ℕ)) (v : ReaderView) (fault : TraceFault) (s : Stage)
    → IsAtEnd left → (h : HasRead bytes told left v) → HasNoLf h.rest → v.stage ≡ Reading → TellsRest v.lines true
    → (fault ≢ NoMemory → judged_within most_lines (v.number + 1) (record { bytes = h.rest; is_ended = false }) ≡ Err fault) → IsStage v.stage fault s
    → IsRefused bytes told left fault (record { lines = v.lines; window = v.window; number = v.number; stage = s; has_cost = v.has_cost })
unfolding requests_of
rest_refused bytes told left v fault s end h whole is some judged stage =
    let there : 0 < length h.rest = some h.rest (subst (λ t. AreUntaken t h.rest v.lines) is h.untaken) in
    let line : Line = record { bytes = h.rest; is_ended = false } in
    record {
      first = λ other. (
        record {
          first =
              ap (requests_from v.window.size [] 1) (rest_lines bytes h.lines h.rest h.are_lines.joined h.are_lines.whole whole there)
              ∙ requests_from-fault v.window.size (map ended h.lines) line [] (map entry h.requests) (v.number + 1) fault h.judged (next_number h.lines v.number h.number)
              (judged_fault v.window.size (v.number + 1) line (places_from 1 (map entry h.requests)) fault (judged other));
          stays = inr end;
        },
        stage.0 other,
      );
      kept = λ e. record {
        lines = h.lines;
        rest = h.rest;
        are_lines = h.are_lines;
        untaken = subst (λ t. AreUntaken t h.rest v.lines) (sym (stage.1 e)) h.untaken;
        number = h.number;
        requests = h.requests;
        judged = h.judged;
        cost = h.cost;
        calls = h.calls;
        run = h.run;
        came = h.came;
        out = h.out;
        pushed = λ other. h.pushed (λ ends. absurd cc);
        end = λ ends. end;
      };
      memory = λ e. let whole_length = ap length h.are_lines.joined in omega (arith, whole_length, length-append (flat_map with_lf h.lines) h.rest, there);
    }

-- the rest of which the beginning was dropped is too long
pub dropped_long : (v : LinesView) (rest : List ℕ) → v.is_skipped ≡ true → v.longest ≡ max_bytes → AreUncut rest v → max_bytes < length rest
dropped_long v rest skipped most u =
    let dropped = subst (λ b. AreDropped v.longest b u.dropped) skipped u.are in
    let whole = ap length u.both in
    omega (arith, dropped.0, whole, length-append u.dropped v.kept, most)

-- the rest of which nothing was dropped is kept
pub kept_rest : (v : LinesView) (rest : List ℕ) → v.is_skipped ≡ false → AreUncut rest v → rest ≡ v.kept
kept_rest v rest skipped u =
    let dropped : u.dropped ≡ [] = subst (λ b. AreDropped v.longest b u.dropped) skipped u.are in
    u.both ∙ ap (λ (d : List ℕ). d ++ v.kept) dropped

-- ---- what is held is handed out

-- how many of some requests and one before them are of a line
first_of_line : (number line : ℕ) (r : TraceRequest) (rs : List TraceRequest)
    → count_by (λ x. x.place.line == line) (arrivals_from number (r ∷ rs)) ≡ cond (number == line) 1 0 + count_by (λ x. x.place.line == line) (arrivals_from (number + 1) rs)
first_of_line number line r rs = sum_by-cons (λ x. cond (x.place.line == line) 1 0) (record { place = place_of number (entry r); item = r }) (arrivals_from (number + 1) rs)

-- no line of requests from a number on is below it
lines_above : (number line : ℕ) (requests : List TraceRequest) → line < number → count_by (λ x. x.place.line == line) (arrivals_from number requests) ≡ 0
lines_above number line [] below = refl
lines_above number line (r ∷ rs) below =
    let rest = lines_above (number + 1) line rs (omega arith) in
    let other : (number == line) ≡ false = grind (arith, nat_tests) in
    let zero_is : ℕ = 0 in
    let none : cond (number == line) 1 0 ≡ zero_is = rw other refl in
    omega (arith, first_of_line number line r rs, none, rest)

own_step : (number line rest : ℕ) (b : Bool) → (number == line) ≡ b → (line < number + 1 → rest ≡ 0) → rest ≤ 1 → cond b 1 0 + rest ≤ 1
own_step number line rest true is zero few =
    let same : number ≡ line = grind (arith, nat_tests) in
    omega (arith, zero (omega arith))
own_step number line rest false is zero few = omega arith

-- no two requests have one line
own_line : (number line : ℕ) (requests : List TraceRequest) → count_by (λ x. x.place.line == line) (arrivals_from number requests) ≤ 1
own_line number line [] = lit≤ tt
own_line number line (r ∷ rs) =
    let step = own_step number line (count_by (λ x. x.place.line == line) (arrivals_from (number + 1) rs)) (number == line) refl (lines_above (number + 1) line rs) (own_line (number + 1) line rs) in
    omega (arith, first_of_line number line r rs, step)

own_lines : (number : ℕ) (requests : List TraceRequest) → HaveOwnLines (arrivals_from number requests)
own_lines number requests line = own_line number line requests

-- nothing is held any more: all was handed out
all_handed : HandsAll → HandsInOrder → HasOneOrder → (bytes : List ℕ) (told : List (Arrival TraceRequest)) (left : Option (List ℕ)) (v : ReaderView) → HasRead bytes told left v → v.stage ≡ Ended → v.window.held ≡ []
    → AreAll v.window.size bytes told
unfolding requests_of
all_handed same order one bytes told left v h is none =
    let rest : h.rest ≡ [] = subst (λ s. AreUntaken s h.rest v.lines) is h.untaken in
    let lines : lines_of bytes ≡ map ended h.lines =
    ap lines_of (h.are_lines.joined ∙ ap (λ (r : List ℕ). flat_map with_lf h.lines ++ r) rest) ∙ lines_of-lines h.lines [] h.are_lines.whole ∙ append-nil (map ended h.lines) in
    record {
      requests = h.requests;
      are = ap (requests_from v.window.size [] 1) lines ∙ h.judged;
      same =
          subst (λ (came : List (Arrival TraceRequest)). IsPermutation came told) h.came
          (subst (IsPermutation (all_came h.calls)) (ap (λ (hs : List (Arrival TraceRequest)). all_out h.calls ++ hs) none ∙ append-nil (all_out h.calls) ∙ h.out)
          (same v.window.size h.calls v.window h.run));
      order = subst AreInPlace h.out (order v.window.size h.calls v.window h.run);
      one = λ ordered placed like.
          sym h.out ∙ one v.window.size h.calls v.window ordered h.run none (subst HaveOwnLines (sym h.came) (own_lines 1 h.requests)) placed
          (subst (λ (came : List (Arrival TraceRequest)). IsPermutation came ordered) (sym h.came) like);
    }

-- the first of what is held was handed out, or nothing was held
pub handed_out : HandsAll → HandsInOrder → HasOneOrder → (bytes : List ℕ) (told : List (Arrival TraceRequest)) (left : Option (List ℕ)) (v : ReaderView) (w : WindowView TraceRequest) (out : Option (Arrival TraceRequest))
    → HasRead bytes told left v → v.stage ≡ Ended → IsPopped v.window out w → w.size ≡ v.window.size
    → Answers bytes told left (Ok out) (record { lines = v.lines; window = w; number = v.number; stage = v.stage; has_cost = v.has_cost })
handed_out same order one bytes told left v w None h is popped size =
    subst (λ u. Answers bytes told left (Ok None) (record { lines = v.lines; window = u; number = v.number; stage = v.stage; has_cost = v.has_cost })) (sym popped.1)
    (h, all_handed same order one bytes told left v h is popped.0, h.end is)
handed_out same order one bytes told left v w (Some x) h is popped size = record {
  lines = h.lines;
  rest = h.rest;
  are_lines = h.are_lines;
  untaken = h.untaken;
  number = h.number;
  requests = h.requests;
  judged = subst (λ n. requests_from n [] 1 (map ended h.lines) ≡ Ok (map entry h.requests)) (sym size) h.judged;
  cost = h.cost;
  calls = record { came = None; out = Some x } ∷ h.calls;
  run = (v.window, subst (λ n. IsWindowRun n h.calls v.window) (sym size) h.run, popped, size);
  came = append-nil (all_came h.calls) ∙ h.came;
  out = ap (λ (xs : List (Arrival TraceRequest)). xs ++ x ∷ []) h.out;
  pushed = λ other. absurd (other is);
  end = λ ends. h.end ends;
}
