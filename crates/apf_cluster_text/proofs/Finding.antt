-- Bytes that are read and cut, and the lines that are found in them.
use Rattle.std.proofs.Common.{◌≡◌, ℕ, ◌+◌, ◌<◌, ◌≤◌, List, [], ◌∷◌, ◌++◌, length, true, false, Option, refl, sym, ap, ◌∙◌, subst, append_assoc, append-nil, arith}
use Rattle.std.specs.Io.KnownBytes.{Consumes, IsAtEnd}
use Rattle.std.proofs.KnownBytes.{Consumes-trans}
use Rattle.std.proofs.lemmas.List.{length-append}
use Rattle.apf_lines.specs.Lines.{AreDropped, AreUncut, CutsLine, CutsOff, HasNoLf, LinesView, TellsRest}
use Rattle.apf_lines.specs.declared.lines.Cut.TheVariants as cuts
use Rattle.apf_traces.specs.TraceFile.{Line, lines_of}
use Rattle.apf_audit.specs.AuditLog.{max_line}
use Rattle.apf_cluster_text.specs.declared.log_lines.Found.{Found}
use Rattle.apf_cluster_text.specs.declared.log_lines.Found.TheVariants.{Held, TooLong}
use Rattle.apf_cluster_text.specs.LogLines.{AreAll, AreFound, Finds, HasRead, IsBetween}
use Rattle.apf_cluster_text.specs.LogViews.{LogView}
use Rattle.apf_cluster_text.proofs.Cutting.{ended, lines_of-line, lines_of-rest}

-- the same with other lines
abbrev pub at_lines : LogView → LinesView → LogView
at_lines v ls = record { lines = ls; number = v.number; is_ended = v.is_ended; is_over = v.is_over }

-- one line more was found, which an LF ends
abbrev pub one_more : LogView → LinesView → LogView
one_more v ls = record { lines = ls; number = v.number + 1; is_ended = true; is_over = v.is_over }

-- all lines were found
abbrev pub over : LogView → LogView
over v = record { lines = v.lines; number = v.number; is_ended = v.is_ended; is_over = true }

-- the last line was found, which no LF ends
abbrev pub last : LogView → LogView
last v = record { lines = v.lines; number = v.number + 1; is_ended = false; is_over = true }

one_longer : (n : ℕ) (lines : List Line) (line : Line) → n ≡ length lines → n + 1 ≡ length (lines ++ line ∷ [])
one_longer n lines line is = omega (arith, length-append lines (line ∷ []))

-- the lines once the first line of the rest is one of them
cut_one : (bytes : List ℕ) (lines : List Line) (rest line later : List ℕ) → ((more : List ℕ) → lines_of (bytes ++ more) ≡ lines ++ lines_of (rest ++ more)) → rest ≡ line ++ (10 ∷ later) → HasNoLf line
    → (more : List ℕ) → lines_of (bytes ++ more) ≡ (lines ++ ended line ∷ []) ++ lines_of (later ++ more)
cut_one bytes lines rest line later are first whole more =
    are more
    ∙ ap (λ (r : List ℕ). lines ++ lines_of (r ++ more)) first
    ∙ ap (λ (r : List ℕ). lines ++ lines_of r) (append_assoc line (10 ∷ later) more)
    ∙ ap (λ ls. lines ++ ls) (lines_of-line line (later ++ more) whole)
    ∙ sym (append_assoc lines (ended line ∷ []) (lines_of (later ++ more)))

module _ (bytes : List ℕ) (before : List Line) (left : Option (List ℕ)) (v : LogView) (h : HasRead bytes before left v) (reading : v.is_over ≡ false) where
  abbrev uncut : AreFound false bytes before v.lines
  uncut = subst (λ b. AreFound b bytes before v.lines) reading h.lines

  found_one : (ls : LinesView) (line : List ℕ) → CutsLine uncut.0 line ls → HasRead bytes (before ++ ended line ∷ []) left (one_more v ls)
  found_one ls line parts = record {
    lines = subst (λ b. AreFound b bytes (before ++ ended line ∷ []) ls) (sym reading) (parts.later, parts.left, cut_one bytes before uncut.0 line parts.later uncut.2 parts.first parts.whole);
    number = one_longer v.number before (ended line) h.number;
    end = λ e. absurd cc;
  }

  -- a line was cut off
  pub line_found : (ls : LinesView) → CutsOff v.lines cuts.Line ls → v.lines.longest ≡ max_line → Finds bytes before left Held (one_more v ls)
  line_found ls off most =
      let cuts = off.of_each uncut.0 uncut.1 in
      let low = cuts.0 in
      let longest = off.longest in
      record { line = ended ls.line; is = (refl, omega (arith, low, longest, most)); read = found_one ls ls.line cuts.1 }

  -- a line that is too long was cut off
  pub long_found : (ls : LinesView) → CutsOff v.lines cuts.TooLong ls → v.lines.longest ≡ max_line → Finds bytes before left TooLong (one_more v ls)
  long_found ls off most =
      let long = off.of_each uncut.0 uncut.1 in
      let line : List ℕ = long.line in
      let low = long.long in
      let longest = off.longest in
      record { line = ended line; is = omega (arith, low, longest, most); read = found_one ls line long.cuts }

  -- no whole line is there
  pub nothing_cut : (ls : LinesView) → CutsOff v.lines cuts.Nothing ls → IsBetween bytes before (at_lines v ls)
  nothing_cut ls off =
      let none = off.of_each uncut.0 uncut.1 in
      record {
        rest = uncut.0;
        uncut = subst (AreUncut uncut.0) (sym none.1) uncut.1;
        lines = uncut.2;
        whole = none.0;
        number = h.number;
      }

module _ (bytes : List ℕ) (before : List Line) (v : LogView) (h : IsBetween bytes before v) where
  more_lines : (more : List ℕ) → (later : List ℕ) → lines_of ((bytes ++ more) ++ later) ≡ before ++ lines_of ((h.rest ++ more) ++ later)
  more_lines more later =
      ap lines_of (append_assoc bytes more later) ∙ h.lines (more ++ later) ∙ ap (λ (b : List ℕ). before ++ lines_of b) (sym (append_assoc h.rest more later))

  -- more was read
  pub more_read : v.is_over ≡ false → (ls : LinesView) (more : List ℕ) (left : Option (List ℕ)) → ((rest : List ℕ) → AreUncut rest v.lines → AreUncut (rest ++ more) ls) → HasRead (bytes ++ more) before left (at_lines v ls)
  more_read reading ls more left gains = record {
    lines = subst (λ b. AreFound b (bytes ++ more) before ls) (sym reading) (h.rest ++ more, gains h.rest h.uncut, more_lines more);
    number = h.number;
    end = λ e. absurd cc;
  }

  -- nothing was read
  pub still_read : v.is_over ≡ false → (ls : LinesView) (left : Option (List ℕ)) → ((rest : List ℕ) → AreUncut rest v.lines → AreUncut rest ls) → HasRead (bytes ++ []) before left (at_lines v ls)
  still_read reading ls left stays = more_read reading ls [] left (λ rest uncut_rest. subst (λ (r : List ℕ). AreUncut r ls) (sym (append-nil rest)) (stays rest uncut_rest))

  -- nothing more was there
  pub end_read : (ls : LinesView) (more : List ℕ) → more ≡ [] → ((rest : List ℕ) → AreUncut rest v.lines → AreUncut (rest ++ more) ls) → IsBetween (bytes ++ more) before (at_lines v ls)
  end_read ls more none gains = record {
    rest = h.rest ++ more;
    uncut = gains h.rest h.uncut;
    lines = more_lines more;
    whole = subst HasNoLf (sym (append-nil h.rest) ∙ ap (λ (b : List ℕ). h.rest ++ b) (sym none)) h.whole;
    number = h.number;
  }

  -- the whole lines of the bytes, and the rest
  all_lines : lines_of bytes ≡ before ++ lines_of h.rest
  all_lines = ap lines_of (sym (append-nil bytes)) ∙ h.lines [] ∙ ap (λ (b : List ℕ). before ++ lines_of b) (append-nil h.rest)

  -- the input ended behind a whole line
  pub input_ended : (left : Option (List ℕ)) → IsAtEnd left → TellsRest v.lines false → HasRead bytes before left (over v)
  input_ended left end none =
      let rest : h.rest ≡ [] = none h.rest h.uncut in
      record {
        lines = all_lines ∙ ap (λ (b : List ℕ). before ++ lines_of b) rest ∙ append-nil before;
        number = h.number;
        end = λ _. end;
      }

  -- the input ended within a line
  rest_lines : TellsRest v.lines true → lines_of bytes ≡ before ++ (record { bytes = h.rest; is_ended = false } ∷ [])
  rest_lines some = all_lines ∙ ap (λ ls. before ++ ls) (lines_of-rest h.rest h.whole (some h.rest h.uncut))

  rest_read : (left : Option (List ℕ)) → IsAtEnd left → TellsRest v.lines true → HasRead bytes (before ++ record { bytes = h.rest; is_ended = false } ∷ []) left (last v)
  rest_read left end some = record {
    lines = rest_lines some;
    number = one_longer v.number before (record { bytes = h.rest; is_ended = false }) h.number;
    end = λ _. end;
  }

  -- that line is too long, since a part of it was dropped, or since more is kept
  pub skipped_found : (left : Option (List ℕ)) → IsAtEnd left → TellsRest v.lines true → v.lines.is_skipped ≡ true → v.lines.longest ≡ max_line → Finds bytes before left TooLong (last v)
  skipped_found left end some skipped most =
      let dropped = subst (λ b. AreDropped v.lines.longest b h.uncut.dropped) skipped h.uncut.are in
      let whole = ap length h.uncut.both in
      record {
        line = record { bytes = h.rest; is_ended = false };
        is = omega (arith, dropped.0, whole, length-append h.uncut.dropped v.lines.kept, most);
        read = rest_read left end some;
      }

  -- what is kept is that line
  kept_rest : v.lines.is_skipped ≡ false → h.rest ≡ v.lines.kept
  kept_rest skipped =
      let dropped : h.uncut.dropped ≡ [] = subst (λ b. AreDropped v.lines.longest b h.uncut.dropped) skipped h.uncut.are in
      h.uncut.both ∙ ap (λ (d : List ℕ). d ++ v.lines.kept) dropped

  pub kept_long_found : (left : Option (List ℕ)) → IsAtEnd left → TellsRest v.lines true → v.lines.is_skipped ≡ false → max_line < length v.lines.kept → Finds bytes before left TooLong (last v)
  kept_long_found left end some skipped long =
      let same = ap length (kept_rest skipped) in
      record {
        line = record { bytes = h.rest; is_ended = false };
        is = omega (arith, long, same);
        read = rest_read left end some;
      }

  -- it is held
  pub kept_found : (left : Option (List ℕ)) → IsAtEnd left → TellsRest v.lines true → v.lines.is_skipped ≡ false → length v.lines.kept ≤ max_line → Finds bytes before left Held (last v)
  kept_found left end some skipped few =
      let same = ap length (kept_rest skipped) in
      record {
        line = record { bytes = h.rest; is_ended = false };
        is = (ap (λ (b : List ℕ). let line : Line = record { bytes = b; is_ended = false } in line) (kept_rest skipped), omega (arith, few, same));
        read = rest_read left end some;
      }

-- ---- one turn after the other

-- whatever was read up to here, and a line that one turn more found
pub turned_to : (was mid left : Option (List ℕ)) (bytes : List ℕ) (before : List Line) (v w : LogView) (found : Found)
    → (m : (more : List ℕ) × Consumes was mid more × HasRead (bytes ++ more) before mid v)
    → ((bytes : List ℕ) (before : List Line) → HasRead bytes before mid v → (more : List ℕ) × Consumes mid left more × Finds (bytes ++ more) before left found w)
    → (more : List ℕ) × Consumes was left more × Finds (bytes ++ more) before left found w
turned_to was mid left bytes before v w found m goes =
    let n = goes (bytes ++ m.0) before m.2 in
    let whole : (bytes ++ m.0) ++ n.0 ≡ bytes ++ (m.0 ++ n.0) = append_assoc bytes m.0 n.0 in
    (m.0 ++ n.0, Consumes-trans was mid left m.0 n.0 m.1 n.1, subst (λ (b : List ℕ). Finds b before left found w) whole n.2)

-- the same where it found none yet
pub turned_on : (was mid left : Option (List ℕ)) (bytes : List ℕ) (before : List Line) (v w : LogView)
    → (m : (more : List ℕ) × Consumes was mid more × HasRead (bytes ++ more) before mid v)
    → ((bytes : List ℕ) (before : List Line) → HasRead bytes before mid v → (more : List ℕ) × Consumes mid left more × HasRead (bytes ++ more) before left w)
    → (more : List ℕ) × Consumes was left more × HasRead (bytes ++ more) before left w
turned_on was mid left bytes before v w m goes =
    let n = goes (bytes ++ m.0) before m.2 in
    let whole : (bytes ++ m.0) ++ n.0 ≡ bytes ++ (m.0 ++ n.0) = append_assoc bytes m.0 n.0 in
    (m.0 ++ n.0, Consumes-trans was mid left m.0 n.0 m.1 n.1, subst (λ (b : List ℕ). HasRead b before left w) whole n.2)

-- all lines were found
pub found_all : (bytes : List ℕ) (before : List Line) (left : Option (List ℕ)) (v : LogView) → HasRead bytes before left v → v.is_over ≡ true → AreAll bytes before left
found_all bytes before left v h is = record {
  lines = subst (λ b. AreFound b bytes before v.lines) is h.lines;
  end = h.end is;
}
