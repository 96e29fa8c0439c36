-- Bytes that are read, cut and taken, and one turn after the other.
use Rattle.std.proofs.Common.{◌≡◌, ◌≢◌, ℕ, ◌+◌, ◌<◌, ◌≤◌, List, [], ◌∷◌, ◌++◌, length, map, Bool, true, false, Option, Some, None, Result, Ok, Err, refl, sym, ap, ◌∙◌, subst, inl, inr, append_assoc, append-nil, arith}
use Rattle.std.specs.Option.{option_to_list}
use Rattle.std.specs.Io.KnownBytes.{Consumes, IsAtEnd}
use Rattle.std.proofs.KnownBytes.{Consumes-nil, Consumes-trans}
use Rattle.std.proofs.lemmas.List.{length-append}
use Rattle.apf_lines.specs.Lines.{AreDropped, AreUncut, CutsLine, CutsOff, HasNoLf, LinesView, TellsRest}
use Rattle.apf_lines.specs.declared.lines.Cut.TheVariants as cuts
use Rattle.apf_times.specs.Windows.{WindowView}
use Rattle.apf_traces.specs.TraceFile.{Line, lines_of}
use Rattle.apf_audit.specs.AuditEvent.{Event, event}
use Rattle.apf_audit.specs.AuditLog.{judged_line, max_line}
use Rattle.apf_audit.specs.declared.choice.Choice.{Choice}
use Rattle.apf_audit.specs.declared.event.Taken.{Taken}
use Rattle.apf_audit.specs.declared.fault.AuditFault.{AuditFault}
use Rattle.apf_audit.specs.declared.fault.AuditFault.TheVariants.{NoMemory}
use Rattle.apf_audit_reader.specs.declared.fault.ReadFault.{ReadFault}
use Rattle.apf_audit_reader.specs.declared.fault.ReadFault.TheVariants.{Log, CannotRead}
use Rattle.apf_audit_reader.specs.declared.stage.Stage.{Stage}
use Rattle.apf_audit_reader.specs.declared.stage.Stage.TheVariants.{Reading, Ended, Failed}
use Rattle.apf_audit_reader.specs.Log.{read_from, requests_of}
use Rattle.apf_audit_reader.specs.Reading.{AreCut, HasRead, HasTaken, IsFirstFault, IsRefused, Stops}
use Rattle.apf_audit_reader.specs.Turns.{Goes, GoesMore, IsBetween, Took, line_held}
use Rattle.apf_audit_reader.specs.Views.{ReaderView}
use Rattle.apf_audit_reader.proofs.Cutting.{lines_of-line, lines_of-rest}
use Rattle.apf_audit_reader.proofs.Lines.{ended}

-- ---- nothing was taken in between

abbrev pub at_lines : ReaderView → LinesView → Stage → ReaderView
at_lines v ls s = record { lines = ls; window = v.window; estimates = v.estimates; number = v.number; unnamed = v.unnamed; is_cut = v.is_cut; stage = s }

pub taken_at : (choice : Choice) (lines : List Line) (told : List Event) (v : ReaderView) (ls : LinesView) (s : Stage) → (s ≢ Ended → v.stage ≢ Ended) → HasTaken choice lines told v → HasTaken choice lines told (at_lines v ls s)
taken_at choice lines told v ls s before h = record {
  taken = h.taken;
  judged = h.judged;
  ranges = h.ranges;
  few = h.few;
  below = h.below;
  own = h.own;
  calls = h.calls;
  run = h.run;
  came = h.came;
  out = h.out;
  known = h.known;
  ahead = λ other. h.ahead (before other);
  number = h.number;
  unnamed = h.unnamed;
  is_cut = h.is_cut;
  pushed = λ other. h.pushed (before other);
}

pub still_open : (v : ReaderView) → v.stage ≡ Reading → v.stage ≢ Ended
still_open v is e = absurd cc

-- ---- the first fault

first_of : (choice : Choice) (size : ℕ) (bytes : List ℕ) (lines : List Line) (line : Line) (fault : AuditFault) (later : List Line) → lines_of bytes ≡ lines ++ line ∷ later
    → ((more : List Line) → read_from choice size [] 1 (lines ++ line ∷ more) ≡ Err fault) → requests_of choice size bytes ≡ Err fault
unfolding requests_of
first_of choice size bytes lines line fault later are refused = ap (read_from choice size [] 1) are ∙ refused later

-- a line that an LF ends has the fault, whatever comes behind
pub line_fault : (choice : Choice) (size : ℕ) (bytes : List ℕ) (left : Option (List ℕ)) (lines : List Line) (line : Line) (fault : AuditFault) (behind : List ℕ → List Line)
    → ((more : List ℕ) → lines_of (bytes ++ more) ≡ lines ++ line ∷ behind more)
    → ((more : List Line) → read_from choice size [] 1 (lines ++ line ∷ more) ≡ Err fault) → IsFirstFault choice size bytes left fault
line_fault choice size bytes left lines line fault behind are refused = record {
  first = first_of choice size bytes lines line fault (behind []) (ap lines_of (sym (append-nil bytes)) ∙ are []) refused;
  stays = inl (λ later. first_of choice size (bytes ++ later) lines line fault (behind later) (are later) refused);
}

-- ---- a line is cut off

-- the lines once the first line of the rest is one of them
pub cut_one : (bytes : List ℕ) (lines : List Line) (rest line later : List ℕ) → ((more : List ℕ) → lines_of (bytes ++ more) ≡ lines ++ lines_of (rest ++ more)) → rest ≡ line ++ (10 ∷ later) → HasNoLf line
    → (more : List ℕ) → lines_of (bytes ++ more) ≡ lines ++ ended line ∷ lines_of (later ++ more)
cut_one bytes lines rest line later are first whole more =
    are more
    ∙ ap (λ (r : List ℕ). lines ++ lines_of (r ++ more)) first
    ∙ ap (λ (r : List ℕ). lines ++ lines_of r) (append_assoc line (10 ∷ later) more)
    ∙ ap (λ ls. lines ++ ls) (lines_of-line line (later ++ more) whole)

module _ (choice : Choice) (bytes : List ℕ) (told : List Event) (left : Option (List ℕ)) (v : ReaderView) (h : HasRead choice bytes told left v) (reading : v.stage ≡ Reading) where
  abbrev uncut : AreCut Reading bytes h.lines v.lines
  uncut = subst (λ s. AreCut s bytes h.lines v.lines) reading h.cut

  -- the line that was cut off was taken, or it has a fault
  pub line_went : (ls : LinesView) (result : Result (Option Taken) ReadFault) (w : ReaderView) → CutsOff v.lines cuts.Line ls
      → ((lines : List Line) (told' : List Event) → HasTaken choice lines told' (at_lines v ls v.stage) → Took choice lines told' (record { bytes = ls.line; is_ended = true }) result w)
      → w.lines ≡ ls → ((first : Option Taken) → result ≡ Ok first → w.stage ≡ Reading) → Goes choice bytes told left result w
  line_went ls result w off takes same stage =
      go result refl (takes h.lines told (taken_at choice h.lines told v ls v.stage (λ other. other) h.has_taken))
    where
      parts : CutsLine uncut.0 ls.line ls
      parts = (off.of_each uncut.0 uncut.1).1

      are : (more : List ℕ) → lines_of (bytes ++ more) ≡ h.lines ++ ended ls.line ∷ lines_of (parts.later ++ more)
      are = cut_one bytes h.lines uncut.0 ls.line parts.later uncut.2 parts.first parts.whole

      go : (r : Result (Option Taken) ReadFault) → result ≡ r → Took choice h.lines told (ended ls.line) r w → Goes choice bytes told left r w
      go (Ok first) is took =
          let reads : w.stage ≡ Reading = stage first is in
          record {
            lines = h.lines ++ ended ls.line ∷ [];
            cut =
                subst (λ s. AreCut s bytes (h.lines ++ ended ls.line ∷ []) w.lines) (sym reads)
                (subst (AreCut Reading bytes (h.lines ++ ended ls.line ∷ [])) (sym same) (parts.later, parts.left, λ more. are more ∙ sym (append_assoc h.lines (ended ls.line ∷ []) (lines_of (parts.later ++ more)))));
            has_taken = took;
            end = λ e. absurd cc;
          }
      go (Err (Log fault)) is took = record {
        first = λ other. line_fault choice w.window.size bytes left h.lines (ended ls.line) fault (λ more. lines_of (parts.later ++ more)) are (took.1 other);
        stage = took.0;
      }
      go (Err (CannotRead error)) is took = absurd took

  -- a line that is too long was cut off
  pub long_went : (ls : LinesView) (fault : AuditFault) → CutsOff v.lines cuts.TooLong ls → v.lines.longest ≡ max_line
      → ((line : Line) → max_line < length line.bytes → (later : List Line) → read_from choice v.window.size [] 1 (h.lines ++ line ∷ later) ≡ Err fault)
      → IsRefused choice bytes left fault (at_lines v ls (Failed fault))
  long_went ls fault off most refused =
      let long = off.of_each uncut.0 uncut.1 in
      let line : List ℕ = long.line in
      let low = long.long in
      let longest = off.longest in
      let over : max_line < length line = omega (arith, low, longest, most) in
      record {
        first = λ other.
            line_fault choice v.window.size bytes left h.lines (ended line) fault (λ more. lines_of (long.cuts.later ++ more))
            (cut_one bytes h.lines uncut.0 line long.cuts.later uncut.2 long.cuts.first long.cuts.whole) (refused (ended line) over);
        stage = refl;
      }

  -- differs whole line is there
  pub nothing_cut : (ls : LinesView) → CutsOff v.lines cuts.Nothing ls → IsBetween choice bytes told (at_lines v ls v.stage)
  nothing_cut ls off =
      let none = off.of_each uncut.0 uncut.1 in
      record {
        lines = h.lines;
        rest = uncut.0;
        uncut = subst (AreUncut uncut.0) (sym none.1) uncut.1;
        cut = uncut.2;
        whole = none.0;
        has_taken = taken_at choice h.lines told v ls v.stage (λ other. other) h.has_taken;
      }

-- ---- more is read, or the input is at its end

module _ (choice : Choice) (bytes : List ℕ) (told : List Event) (v : ReaderView) (h : IsBetween choice bytes told v) (reading : v.stage ≡ Reading) where
  more_lines : (more : List ℕ) → (later : List ℕ) → lines_of ((bytes ++ more) ++ later) ≡ h.lines ++ lines_of ((h.rest ++ more) ++ later)
  more_lines more later =
      ap lines_of (append_assoc bytes more later) ∙ h.cut (more ++ later) ∙ ap (λ (b : List ℕ). h.lines ++ lines_of b) (sym (append_assoc h.rest more later))

  pub more_read : (ls : LinesView) (more : List ℕ) (left : Option (List ℕ)) → ((rest : List ℕ) → AreUncut rest v.lines → AreUncut (rest ++ more) ls) → HasRead choice (bytes ++ more) told left (at_lines v ls v.stage)
  more_read ls more left gains = record {
    lines = h.lines;
    cut = subst (λ s. AreCut s (bytes ++ more) h.lines ls) (sym reading) (h.rest ++ more, gains h.rest h.uncut, more_lines more);
    has_taken = taken_at choice h.lines told v ls v.stage (λ other. other) h.has_taken;
    end = λ e. absurd cc;
  }

  -- nothing was read
  pub still_read : (ls : LinesView) (left : Option (List ℕ)) → ((rest : List ℕ) → AreUncut rest v.lines → AreUncut rest ls) → HasRead choice (bytes ++ []) told left (at_lines v ls v.stage)
  still_read ls left stays = more_read ls [] left (λ rest uncut_rest. subst (λ (r : List ℕ). AreUncut r ls) (sym (append-nil rest)) (stays rest uncut_rest))

  -- nothing more was there
  pub end_read : (ls : LinesView) (more : List ℕ) → more ≡ [] → ((rest : List ℕ) → AreUncut rest v.lines → AreUncut (rest ++ more) ls) → IsBetween choice (bytes ++ more) told (at_lines v ls v.stage)
  end_read ls more none gains = record {
    lines = h.lines;
    rest = h.rest ++ more;
    uncut = gains h.rest h.uncut;
    cut = more_lines more;
    whole = subst HasNoLf (sym (append-nil h.rest) ∙ ap (λ (b : List ℕ). h.rest ++ b) (sym none)) h.whole;
    has_taken = taken_at choice h.lines told v ls v.stage (λ other. other) h.has_taken;
  }

  -- the whole lines of the bytes, and the rest
  all_lines : lines_of bytes ≡ h.lines ++ lines_of h.rest
  all_lines = ap lines_of (sym (append-nil bytes)) ∙ h.cut [] ∙ ap (λ (b : List ℕ). h.lines ++ lines_of b) (append-nil h.rest)

  -- the input ended behind a whole line
  pub input_ended : (left : Option (List ℕ)) → IsAtEnd left → TellsRest v.lines false → HasRead choice bytes told left (at_lines v v.lines Ended)
  input_ended left end none =
      let rest : h.rest ≡ [] = none h.rest h.uncut in
      record {
        lines = h.lines;
        cut = all_lines ∙ ap (λ (b : List ℕ). h.lines ++ lines_of b) rest ∙ append-nil h.lines;
        has_taken = taken_at choice h.lines told v v.lines Ended (λ other. absurd (other refl)) h.has_taken;
        end = λ _. end;
      }

  -- the input ended within a line
  rest_lines : TellsRest v.lines true → lines_of bytes ≡ h.lines ++ (record { bytes = h.rest; is_ended = false } ∷ [])
  rest_lines some = all_lines ∙ ap (λ ls. h.lines ++ ls) (lines_of-rest h.rest h.whole (some h.rest h.uncut))

  last_fault : (size : ℕ) (left : Option (List ℕ)) (fault : AuditFault) → IsAtEnd left → TellsRest v.lines true
      → ((later : List Line) → read_from choice size [] 1 (h.lines ++ record { bytes = h.rest; is_ended = false } ∷ later) ≡ Err fault) → IsFirstFault choice size bytes left fault
  last_fault size left fault end some refused = record {
    first = first_of choice size bytes h.lines (record { bytes = h.rest; is_ended = false }) fault [] (rest_lines some) refused;
    stays = inr end;
  }

  -- that line is too long
  pub rest_long : (left : Option (List ℕ)) (fault : AuditFault) → IsAtEnd left → TellsRest v.lines true → v.lines.is_skipped ≡ true → v.lines.longest ≡ max_line
      → ((line : Line) → max_line < length line.bytes → (later : List Line) → read_from choice v.window.size [] 1 (h.lines ++ line ∷ later) ≡ Err fault)
      → IsRefused choice bytes left fault (at_lines v v.lines (Failed fault))
  rest_long left fault end some skipped most refused =
      let dropped = subst (λ b. AreDropped v.lines.longest b h.uncut.dropped) skipped h.uncut.are in
      let whole = ap length h.uncut.both in
      let long : max_line < length h.rest = omega (arith, dropped.0, whole, length-append h.uncut.dropped v.lines.kept, most) in
      record {
        first = λ other. last_fault v.window.size left fault end some (refused (record { bytes = h.rest; is_ended = false }) long);
        stage = refl;
      }

  -- what is kept is that line
  pub kept_rest : v.lines.is_skipped ≡ false → h.rest ≡ v.lines.kept
  kept_rest skipped =
      let dropped : h.uncut.dropped ≡ [] = subst (λ b. AreDropped v.lines.longest b h.uncut.dropped) skipped h.uncut.are in
      h.uncut.both ∙ ap (λ (d : List ℕ). d ++ v.lines.kept) dropped

  -- it was taken
  pub rest_taken : (left : Option (List ℕ)) (first : Option Taken) (w : ReaderView) → IsAtEnd left → TellsRest v.lines true → v.lines.is_skipped ≡ false
      → HasTaken choice (h.lines ++ record { bytes = v.lines.kept; is_ended = false } ∷ []) (told ++ map event (option_to_list first)) w
      → HasRead choice bytes (told ++ map event (option_to_list first)) left (at_lines w w.lines Ended)
  rest_taken left first w end some skipped took = record {
    lines = h.lines ++ record { bytes = v.lines.kept; is_ended = false } ∷ [];
    cut = rest_lines some ∙ ap (λ (b : List ℕ). h.lines ++ record { bytes = b; is_ended = false } ∷ []) (kept_rest skipped);
    has_taken = taken_at choice (h.lines ++ record { bytes = v.lines.kept; is_ended = false } ∷ []) (told ++ map event (option_to_list first)) w w.lines Ended (λ other. absurd (other refl)) took;
    end = λ _. end;
  }

  -- it has a fault
  pub rest_refused : (left : Option (List ℕ)) (fault : ReadFault) (w : ReaderView) → IsAtEnd left → TellsRest v.lines true → v.lines.is_skipped ≡ false
      → Took choice h.lines told (record { bytes = v.lines.kept; is_ended = false }) (Err fault) w → Stops choice bytes told left fault w
  rest_refused left (Log fault) w end some skipped took = record {
    first = λ other.
        last_fault w.window.size left fault end some
        (subst (λ (b : List ℕ). (later : List Line) → read_from choice w.window.size [] 1 (h.lines ++ record { bytes = b; is_ended = false } ∷ later) ≡ Err fault) (sym (kept_rest skipped)) (took.1 other));
    stage = took.0;
  }
  rest_refused left (CannotRead error) w end some skipped took = absurd took

-- ---- one turn after the other

-- nothing more is read
pub nothing_more : (choice : Choice) (bytes : List ℕ) (told : List Event) (was : Option (List ℕ)) (result : Result (Option Taken) ReadFault) (v : ReaderView) → Goes choice bytes told was result v
    → (more : List ℕ) × Consumes was was more × Goes choice (bytes ++ more) told was result v
nothing_more choice bytes told was result v goes = ([], Consumes-nil was, subst (λ b. Goes choice b told was result v) (sym (append-nil bytes)) goes)

-- nothing is handed out
pub none_told : (choice : Choice) (bytes : List ℕ) (told : List Event) (left : Option (List ℕ)) (v : ReaderView) → HasRead choice bytes told left v → HasRead choice bytes (told ++ map event (option_to_list None)) left v
none_told choice bytes told left v h = subst (λ t. HasRead choice bytes t left v) (sym (append-nil told)) h

-- the input gave more bytes, and nothing was handed out
abbrev pub HasReadMore : Choice → Option (List ℕ) → Option (List ℕ) → List ℕ → List Event → ReaderView → Type 0
HasReadMore choice was left bytes told v = (more : List ℕ) × Consumes was left more × HasRead choice (bytes ++ more) told left v

pub turned : (choice : Choice) (was mid left : Option (List ℕ)) (bytes : List ℕ) (told : List Event) (v w : ReaderView) (result : Result (Option Taken) ReadFault)
    → HasReadMore choice was mid bytes told v → GoesMore choice mid left v result w → (more : List ℕ) × Consumes was left more × Goes choice (bytes ++ more) told left result w
turned choice was mid left bytes told v w result m goes =
    let s = goes (bytes ++ m.0) told m.2 in
    (m.0 ++ s.0, Consumes-trans was mid left m.0 s.0 m.1 s.1, subst (λ b. Goes choice b told left result w) (append_assoc bytes m.0 s.0) s.2)

-- a turn that handed out nothing
pub turned_on : (choice : Choice) (was mid left : Option (List ℕ)) (bytes : List ℕ) (told : List Event) (v w : ReaderView) → HasReadMore choice was mid bytes told v → GoesMore choice mid left v (Ok None) w
    → HasReadMore choice was left bytes told w
turned_on choice was mid left bytes told v w m goes =
    let s = turned choice was mid left bytes told v w (Ok None) m goes in
    (s.0, s.1, subst (λ t. HasRead choice (bytes ++ s.0) t left w) (append-nil told) s.2)
