-- What was taken, step by step.
use Rattle.std.proofs.Common.{◌≡◌, ◌≢◌, ℕ, ◌+◌, ◌-◌, ◌^◌, ◌<◌, ◌≤◌, List, [], ◌∷◌, ◌++◌, All, length, map, take, Bool, true, false, cond, Option, Some, None, Result, Ok, Err, IsPermutation, refl, sym, ap, ◌∙◌, subst, inl, inr, append_assoc, append-nil, arith}
use Rattle.std.specs.Prelude.{◌||◌, count_by, ◌⊎◌}
use Rattle.std.specs.List.{list_any}
use Rattle.std.specs.Option.{option_to_list}
use Rattle.std.proofs.lemmas.List.{length-append, length-map, map-append}
use Rattle.std.proofs.lemmas.List.Elements.{All-push}
use Rattle.std.proofs.lemmas.List.Folds.{list_any-append}
use Rattle.std.proofs.lemmas.List.Sorted.{length_permutation}
use Rattle.std.proofs.lemmas.List.Sums.{sum_by_push}
use Rattle.apf_times.specs.declared.window.Arrival.{Arrival}
use Rattle.apf_times.specs.declared.window.Place.{Place}
use Rattle.apf_times.specs.Windows.{HandsOut, WindowView, IsPushed, is_late}
use Rattle.apf_times.specs.WindowRuns.{AllPushed, AreInPlace, Call, HaveOwnLines, IsWindowRun, all_came, all_out, number_behind}
use Rattle.apf_traces.specs.TraceFile.{Line}
use Rattle.apf_audit.specs.AuditEvent.{Event, event, event_in, IsOfLine, IsInRangeIfChosen, IsTakenInRange}
use Rattle.apf_audit.specs.AuditLog.{is_cut_line, is_nameless_line, judged_line}
use Rattle.apf_audit.specs.Estimates.{AreEstimates, EstimatesView, run_read}
use Rattle.apf_audit.specs.declared.choice.Choice.{Choice}
use Rattle.apf_audit.specs.declared.event.Outcome.{Outcome}
use Rattle.apf_audit.specs.declared.event.Outcome.TheVariants.{Chosen, Unnamed, LeftOut, Unfinished}
use Rattle.apf_audit.specs.declared.event.Taken.{Taken}
use Rattle.apf_audit.specs.declared.fault.AuditFault.{AuditFault}
use Rattle.apf_audit.specs.declared.fault.AuditFault.TheVariants.{NoMemory}
use Rattle.apf_audit_reader.specs.declared.given.Given.{Given}
use Rattle.apf_audit_reader.specs.declared.stage.Stage.TheVariants.{Reading, Ended}
use Rattle.apf_audit_reader.specs.Giving.{AreHanded, Gives, IsLateLine, IsPut, IsRefusal, Moves}
use Rattle.apf_audit_reader.specs.Log.{handed, handed_from, judged_after, read_from, with_run}
use Rattle.apf_audit_reader.specs.Places.{number_after, place_of, placed}
use Rattle.apf_audit_reader.specs.Reading.{HasTaken, events_out}
use Rattle.apf_audit_reader.specs.Views.{ReaderView}
use Rattle.apf_audit_reader.proofs.Handing.{handed_append, handed_same, handed_whole, length_handed}
use Rattle.apf_audit_reader.proofs.Judging.{judged_fault, judged_in_time, judged_none, judged_too_late, number_of-placed, read_fault, read_more}
use Rattle.apf_audit_reader.proofs.Owned.{below_further, below_more, own_more}

-- what windows are known to do
abbrev pub HandsAll : Type 0
HandsAll = (size : ℕ) (calls : List (Call Taken)) (v : WindowView Taken) → IsWindowRun size calls v → IsPermutation (all_came calls) (all_out calls ++ v.held)

abbrev pub HoldsFew : Type 0
HoldsFew = (size : ℕ) (calls : List (Call Taken)) (v : WindowView Taken) → IsWindowRun size calls v → length v.held ≤ size

abbrev pub HandsInTime : Type 0
HandsInTime = (size : ℕ) (calls : List (Call Taken)) (v : WindowView Taken) (place : Place) → IsWindowRun size calls v → AllPushed calls
    → is_late place v.last ≡ false → number_behind place (all_came calls) ≤ size

abbrev pub TellsLate : Type 0
TellsLate = (size : ℕ) (calls : List (Call Taken)) (v : WindowView Taken) (place : Place) → IsWindowRun size calls v → AllPushed calls
    → is_late place v.last ≡ true → size < number_behind place (all_came calls)

-- ---- the counts once one more line was taken

abbrev as_one : Bool → ℕ
as_one b = cond b 1 0

pub counted_more : (lines : List Line) (line : Line) (b : Bool) (n : ℕ) → is_nameless_line line.bytes ≡ b → n ≡ count_by (λ l. is_nameless_line l.bytes) lines
    → n + cond b 1 0 ≡ count_by (λ l. is_nameless_line l.bytes) (lines ++ line ∷ [])
counted_more lines line b n is so_far =
    let sums = sum_by_push (λ l. cond (is_nameless_line l.bytes) 1 0) lines line in
    let one : as_one (is_nameless_line line.bytes) ≡ as_one b = ap as_one is in
    omega (arith, sums, one, so_far)

pub cut_more : (lines : List Line) (line : Line) (b c : Bool) → is_cut_line line ≡ b → c ≡ list_any is_cut_line lines → (c || b) ≡ list_any is_cut_line (lines ++ line ∷ [])
cut_more lines line b c is so_far =
    rw (so_far, sym is) (sym (list_any-append is_cut_line lines (line ∷ []) ∙ ap (λ t. list_any is_cut_line lines || t) (last (is_cut_line line))))
  where
    last : (t : Bool) → (t || false) ≡ t
    last true = refl
    last false = refl

-- ---- a line is taken

module _ (all : HandsAll) (few : HoldsFew) (hands : HandsInTime) (tells : TellsLate) (choice : Choice) (lines : List Line) (told : List Event) (v : ReaderView) (h : HasTaken choice lines told v) (reading : v.stage ≡ Reading)
    (short : v.number < 2 ^ 64 - 1) where
  abbrev es : List Event
  es = map event h.taken

  abbrev outs : List Event
  outs = events_out (all_out h.calls)

  pushed : AllPushed h.calls
  pushed = h.pushed (λ e. absurd cc)

  -- as many came as were handed out and are held
  sums : length (all_out h.calls) + length v.window.held ≡ length h.taken
  sums =
      let same = length_permutation (all_came h.calls) (all_out h.calls ++ v.window.held) (all v.window.size h.calls v.window h.run) in
      let came = ap length h.came in
      omega (arith, same, came, length-map h.taken placed, length-append (all_out h.calls) v.window.held)

  held_few : length v.window.held ≤ v.window.size
  held_few = few v.window.size h.calls v.window h.run

  count_es : length es ≡ length h.taken
  count_es = length-map h.taken event

  count_outs : length outs ≡ length (all_out h.calls)
  count_outs = length-map (all_out h.calls) (λ x. event x.item)

  count_told : length told ≡ length outs
  count_told = ap length h.out ∙ length_handed v.window.size es 0 outs

  behind : (place : Place) → number_after place es ≡ number_behind place (all_came h.calls)
  behind place = number_of-placed place h.taken ∙ sym (ap (number_behind place) h.came)

  -- what was handed out before stays, where the window is full or nothing was
  stays : (e : Event) → (0 < length told → v.window.size + length told ≤ length h.taken) → handed_from v.window.size (es ++ e ∷ []) 0 outs ≡ handed_from v.window.size es 0 outs
  stays e ahead = go outs count_told
    where
      go : (xs : List Event) → length told ≡ length xs → handed_from v.window.size (es ++ e ∷ []) 0 xs ≡ handed_from v.window.size es 0 xs
      go [] count = refl
      go (x ∷ xs) count =
          let full = ahead (omega arith) in
          handed_same v.window.size es e 0 (x ∷ xs) (omega (arith, full, count, count_es))

  ahead : 0 < length told → v.window.size + length told ≤ length h.taken
  ahead = h.ahead (λ e. absurd cc)

  -- what is handed out once a request was put into the window
  told_more : (t : Taken) (out : Option (Arrival Taken)) (first : Option Taken) (w : WindowView Taken) → IsPushed (placed t) v.window out w → AreHanded (es ++ event t ∷ []) out first
      → told ++ map event (option_to_list first) ≡ handed_from v.window.size (es ++ event t ∷ []) 0 (events_out (all_out h.calls ++ option_to_list out))
  told_more t None None w push handed_are =
      append-nil told ∙ h.out ∙ sym (stays (event t) ahead) ∙ ap (λ xs. handed_from v.window.size (es ++ event t ∷ []) 0 (events_out xs)) (sym (append-nil (all_out h.calls)))
  told_more t None (Some first) w push handed_are = absurd handed_are
  told_more t (Some x) None w push handed_are = absurd handed_are
  told_more t (Some x) (Some first) w push handed_are =
      let whole : length (es ++ event t ∷ []) ≤ v.window.size + 1 + (0 + length outs) = omega (arith, length-append es (event t ∷ []), count_es, count_outs, sums, held_few) in
      ap (λ (l : List Event). l ++ event first ∷ []) (h.out ∙ sym (stays (event t) ahead))
      ∙ ap (λ (e : Event). handed_from v.window.size (es ++ event t ∷ []) 0 outs ++ e ∷ []) (handed_are ∙ sym (handed_whole v.window.size (es ++ event t ∷ []) (0 + length outs) (event x.item) whole))
      ∙ sym (handed_append v.window.size (es ++ event t ∷ []) 0 outs (event x.item))
      ∙ ap (handed_from v.window.size (es ++ event t ∷ []) 0) (sym (map-append (λ y. event y.item) (all_out h.calls) (x ∷ [])))

  -- as many are read ahead
  ahead_more : (t : Taken) (out : Option (Arrival Taken)) (first : Option Taken) (w : WindowView Taken) → IsPushed (placed t) v.window out w → AreHanded (es ++ event t ∷ []) out first
      → 0 < length (told ++ map event (option_to_list first)) → v.window.size + length (told ++ map event (option_to_list first)) ≤ length (h.taken ++ t ∷ [])
  ahead_more t None None w push handed_are some =
      let same = ap length (append-nil told) in
      let full = ahead (omega (arith, same, some)) in
      omega (arith, full, same, length-append h.taken (t ∷ []))
  ahead_more t None (Some first) w push handed_are some = absurd handed_are
  ahead_more t (Some x) None w push handed_are some = absurd handed_are
  ahead_more t (Some x) (Some first) w push handed_are some =
      let full = push.0 in
      omega (arith, full, length-append told (event first ∷ []), length-append h.taken (t ∷ []), sums, count_told, count_outs)

  module _ (line : Line) (w : WindowView Taken) (known : EstimatesView) (unnamed : ℕ) (cut : Bool)
      (unnamed_is : unnamed ≡ count_by (λ l. is_nameless_line l.bytes) (lines ++ line ∷ [])) (cut_is : cut ≡ list_any is_cut_line (lines ++ line ∷ [])) where
    abbrev after : ReaderView
    after = record { lines = v.lines; window = w; estimates = known; number = v.number + 1; unnamed = unnamed; is_cut = cut; stage = v.stage }

    count_lines : v.number + 1 ≡ length (lines ++ line ∷ [])
    count_lines = omega (arith, h.number, length-append lines (line ∷ []))

    -- a request is put into the window
    pub put_taken : (t : Taken) (first : Option Taken) → judged_line choice (v.number + 1) line ≡ Ok (Some (event t)) → t.line ≡ v.number + 1 → IsInRangeIfChosen (Chosen t)
        → IsPut t v.window v.estimates first w known → HasTaken choice (lines ++ line ∷ []) (told ++ map event (option_to_list first)) after
    put_taken t first judged line_is range put =
        let place = place_of (event t) in
        let low = hands v.window.size h.calls v.window place h.run pushed put.timely in
        let judged_too = judged_in_time choice v.window.size es (v.number + 1) line (event t) judged (omega (arith, low, behind place)) in
        let both = put.hands es (omega (arith, count_es, h.few, short)) h.known in
        let more : map event (h.taken ++ t ∷ []) ≡ es ++ event t ∷ [] = map-append event h.taken (t ∷ []) in
        record {
          taken = h.taken ++ t ∷ [];
          judged =
              subst (λ s. (later : List Line) → read_from choice s [] 1 ((lines ++ line ∷ []) ++ later) ≡ read_from choice s (map event (h.taken ++ t ∷ [])) (v.number + 1 + 1) later) (sym put.size)
              (subst (λ (xs : List Event). (later : List Line) → read_from choice v.window.size [] 1 ((lines ++ line ∷ []) ++ later) ≡ read_from choice v.window.size xs (v.number + 1 + 1) later) (sym more)
              (read_more choice v.window.size lines es (v.number + 1) line (Some (event t)) h.judged judged_too));
          ranges = All-push IsTakenInRange h.taken t h.ranges range;
          few = omega (arith, h.few, length-append h.taken (t ∷ []));
          below = below_more v.number h.taken t h.below line_is;
          own = own_more v.number h.taken t h.below line_is h.own;
          calls = record { came = Some (placed t); out = put.out } ∷ h.calls;
          run = (v.window, subst (λ s. IsWindowRun s h.calls v.window) (sym put.size) h.run, (put.timely, put.pushed), put.size);
          came = ap (λ (xs : List (Arrival Taken)). xs ++ placed t ∷ []) h.came ∙ sym (map-append placed h.taken (t ∷ []));
          out =
              subst (λ s. told ++ map event (option_to_list first) ≡ handed_from s (map event (h.taken ++ t ∷ [])) 0 (events_out (all_out h.calls ++ option_to_list put.out))) (sym put.size)
              (subst (λ (xs : List Event). told ++ map event (option_to_list first) ≡ handed_from v.window.size xs 0 (events_out (all_out h.calls ++ option_to_list put.out))) (sym more)
              (told_more t put.out first w put.pushed both.0));
          known = subst (λ (xs : List Event). AreEstimates xs known) (sym more) both.1;
          ahead = λ other some. let full = ahead_more t put.out first w put.pushed both.0 some in omega (arith, full, put.size);
          number = count_lines;
          unnamed = unnamed_is;
          is_cut = cut_is;
          pushed = λ other. (λ e. absurd cc, pushed);
        }

    -- nothing is
    pub none_taken : judged_line choice (v.number + 1) line ≡ Ok None → w ≡ v.window → known ≡ v.estimates → HasTaken choice (lines ++ line ∷ []) (told ++ map event (option_to_list None)) after
    none_taken judged same known_same =
        let judged_too = judged_none choice v.window.size es (v.number + 1) line judged in
        record {
          taken = h.taken;
          judged =
              subst (λ (u : WindowView Taken). (later : List Line) → read_from choice u.size [] 1 ((lines ++ line ∷ []) ++ later) ≡ read_from choice u.size es (v.number + 1 + 1) later) (sym same)
              (subst (λ (xs : List Event). (later : List Line) → read_from choice v.window.size [] 1 ((lines ++ line ∷ []) ++ later) ≡ read_from choice v.window.size xs (v.number + 1 + 1) later) (append-nil es)
              (read_more choice v.window.size lines es (v.number + 1) line None h.judged judged_too));
          ranges = h.ranges;
          few = let low = h.few in omega arith;
          below = below_further v.number h.taken h.below;
          own = h.own;
          calls = h.calls;
          run = subst (λ (u : WindowView Taken). IsWindowRun u.size h.calls u) (sym same) h.run;
          came = h.came;
          out = subst (λ (u : WindowView Taken). told ++ [] ≡ handed_from u.size es 0 outs) (sym same) (append-nil told ∙ h.out);
          known = subst (AreEstimates es) (sym known_same) h.known;
          ahead = λ other some.
              let nothing = ap length (append-nil told) in
              let size = ap (λ (u : WindowView Taken). u.size) same in
              let full = ahead (omega (arith, nothing, some)) in
              omega (arith, full, nothing, size);
          number = count_lines;
          unnamed = unnamed_is;
          is_cut = cut_is;
          pushed = λ other. pushed;
        }

    pub line_taken : (given : Given) → Gives choice (v.number + 1) line v.window v.estimates given w known → HasTaken choice (lines ++ line ∷ []) (told ++ map event (option_to_list given.first)) after
    line_taken given gives = go gives.outcome gives.judged gives.of_line gives.ranges gives.moves
      where
        go : (o : Outcome) → judged_line choice (v.number + 1) line ≡ Ok (event_in o) → IsOfLine (v.number + 1) o → IsInRangeIfChosen o → Moves o v.window v.estimates given.first w known
            → HasTaken choice (lines ++ line ∷ []) (told ++ map event (option_to_list given.first)) after
        go (Chosen t) judged of_line range moves = put_taken t given.first judged of_line range moves
        go Unnamed judged of_line range moves =
            subst (λ (o : Option Taken). HasTaken choice (lines ++ line ∷ []) (told ++ map event (option_to_list o)) after) (sym moves.0) (none_taken judged moves.1 moves.2)
        go LeftOut judged of_line range moves =
            subst (λ (o : Option Taken). HasTaken choice (lines ++ line ∷ []) (told ++ map event (option_to_list o)) after) (sym moves.0) (none_taken judged moves.1 moves.2)
        go Unfinished judged of_line range moves =
            subst (λ (o : Option Taken). HasTaken choice (lines ++ line ∷ []) (told ++ map event (option_to_list o)) after) (sym moves.0) (none_taken judged moves.1 moves.2)

  -- the line has a fault, or comes too late
  pub line_refused : (line : Line) (fault : AuditFault) → IsRefusal choice (v.number + 1) line v.window fault → (later : List Line) → read_from choice v.window.size [] 1 (lines ++ line ∷ later) ≡ Err fault
  line_refused line fault refusal =
      read_fault choice v.window.size lines es (v.number + 1) line fault h.judged (
      elim refusal [
        | inl e ↦ judged_fault choice v.window.size es (v.number + 1) line fault e
        | inr l ↦
            let place = place_of (event l.taken) in
            let many = tells v.window.size h.calls v.window place h.run pushed l.late in
            judged_too_late choice v.window.size es (v.number + 1) line (event l.taken) l.judged (omega (arith, many, behind place)) ∙ ap Err (sym l.is)
      ]
      )

-- a line that is too long
pub long_refused : (choice : Choice) (lines : List Line) (told : List Event) (v : ReaderView) → HasTaken choice lines told v → (line : Line) (fault : AuditFault) → judged_line choice (v.number + 1) line ≡ Err fault
    → (later : List Line) → read_from choice v.window.size [] 1 (lines ++ line ∷ later) ≡ Err fault
long_refused choice lines told v h line fault judged =
    read_fault choice v.window.size lines (map event h.taken) (v.number + 1) line fault h.judged (judged_fault choice v.window.size (map event h.taken) (v.number + 1) line fault judged)
