-- Lines of a log that are matched one after the other.
use Rattle.std.proofs.Common.{◌≡◌, ℕ, ◌+◌, ◌<◌, ◌≤◌, List, [], ◌∷◌, ◌++◌, length, Bool, true, false, cond, Option, Some, None, refl, sym, ap, ◌∙◌, inl, inr, append-nil, arith}
use Rattle.std.specs.Prelude.{nat_le}
use Rattle.std.specs.Io.KnownBytes.{Consumes, IsAtEnd}
use Rattle.std.proofs.KnownBytes.{Consumes-nil, Consumes-trans}
use Rattle.std.proofs.lemmas.Bool.Decides.{nat_tests}
use Rattle.std.proofs.lemmas.List.{length-append}
use Rattle.apf_traces.specs.TraceFile.{Line, lines_of}
use Rattle.apf_audit.specs.AuditLog.{max_line}
use Rattle.apf_cluster_text.specs.declared.events.LogFault.{LogFault}
use Rattle.apf_cluster_text.specs.declared.events.LogFault.TheVariants.{TooLong as Long, NotJson, NotEvent, BadUser, NoMemory, CannotRead, CannotWrite}
use Rattle.apf_cluster_text.specs.declared.log_lines.Found.{Found}
use Rattle.apf_cluster_text.specs.declared.log_lines.Found.TheVariants.{Held, TooLong}
use Rattle.apf_cluster_text.specs.Log.{fault_or, first_fault, line_fault, short_fault, IsMatched, IsRefused, IsToldAt, IsToldOf}
use Rattle.apf_cluster_text.specs.LogLines.{AreAll, AreFound, Finds, HasRead, held}
use Rattle.apf_cluster_text.specs.LogViews.{LogView}

-- the input gave these bytes so far, of which these lines were found, and none has a fault
pub record HasMatched (was left : Option (List ℕ)) (v : LogView) : Type 0 where
  pub bytes : List ℕ
  pub given : Consumes was left bytes
  pub found : List Line
  pub read : HasRead bytes found left v
  pub good : first_fault 1 found ≡ None

or_assoc : (a b c : Option LogFault) → fault_or (fault_or a b) c ≡ fault_or a (fault_or b c)
or_assoc None b c = refl
or_assoc (Some fault) b c = refl

-- the first fault of lines, and of others behind them
first_behind : (n : ℕ) (xs ys : List Line) → first_fault n (xs ++ ys) ≡ fault_or (first_fault n xs) (first_fault (n + length xs) ys)
first_behind n [] ys =
    let same : n ≡ n + 0 = omega arith in
    ap (λ k. first_fault k ys) same
first_behind n (x ∷ xs) ys =
    let same : (n + 1) + length xs ≡ n + length (x ∷ xs) = omega arith in
    ap (fault_or (line_fault n x)) (first_behind (n + 1) xs ys ∙ ap (λ k. fault_or (first_fault (n + 1) xs) (first_fault k ys)) same)
    ∙ sym (or_assoc (line_fault n x) (first_fault (n + 1) xs) (first_fault (n + length (x ∷ xs)) ys))

or_none : (a : Option LogFault) → fault_or a None ≡ a
or_none None = refl
or_none (Some fault) = refl

-- one line more
first_last : (found : List Line) (line : Line) (number : ℕ) → first_fault 1 found ≡ None → number ≡ length (found ++ line ∷ []) → first_fault 1 (found ++ line ∷ []) ≡ line_fault number line
first_last found line number good is =
    let at : 1 + length found ≡ number = omega (arith, length-append found (line ∷ []), is) in
    first_behind 1 found (line ∷ [])
    ∙ ap (λ o. fault_or o (first_fault (1 + length found) (line ∷ []))) good
    ∙ or_none (line_fault (1 + length found) line)
    ∙ ap (λ k. line_fault k line) at

-- lines whose first fault is known, and others behind them
first_stays : (lines others : List Line) (fault : LogFault) → first_fault 1 lines ≡ Some fault → first_fault 1 (lines ++ others) ≡ Some fault
first_stays lines others fault is = first_behind 1 lines others ∙ ap (λ o. fault_or o (first_fault (1 + length lines) others)) is

-- the fault of a line by its length
fault_short : (number : ℕ) (line : Line) → length line.bytes ≤ max_line → line_fault number line ≡ short_fault number line
unfolding line_fault
fault_short number line few = let test : nat_le (length line.bytes) max_line ≡ true = grind (arith, nat_tests) in ap (λ b. cond b (short_fault number line) (Some (Long number))) test

fault_long : (number : ℕ) (line : Line) → max_line < length line.bytes → line_fault number line ≡ Some (Long number)
unfolding line_fault
fault_long number line many = let test : nat_le (length line.bytes) max_line ≡ false = grind (arith, nat_tests) in ap (λ b. cond b (short_fault number line) (Some (Long number))) test

-- the line that is held, by its parts
pub held_fault : (v : LogView) (number : ℕ) (bytes : List ℕ) (is_ended : Bool) → number ≡ v.number → bytes ≡ (held v).bytes → is_ended ≡ v.is_ended
    → short_fault number (record { bytes = bytes; is_ended = is_ended }) ≡ short_fault v.number (held v)
held_fault v number bytes is_ended n b e =
    ap (λ (k : ℕ). short_fault k (record { bytes = bytes; is_ended = is_ended })) n
    ∙ ap (λ (bs : List ℕ). short_fault v.number (record { bytes = bs; is_ended = is_ended })) b
    ∙ ap (λ (t : Bool). short_fault v.number (record { bytes = (held v).bytes; is_ended = t })) e

-- nothing was matched yet
pub matched_none : (was : Option (List ℕ)) (v : LogView) → HasRead [] [] was v → HasMatched was was v
matched_none was v read = record { bytes = []; given = Consumes-nil was; found = []; read = read; good = refl }

module _ (was mid left : Option (List ℕ)) (v w : LogView) (m : HasMatched was mid v) where
  -- a line was found, and has no fault
  pub matched_more : ((bytes : List ℕ) (before : List Line) → HasRead bytes before mid v → (more : List ℕ) × Consumes mid left more × Finds (bytes ++ more) before left Held w)
      → short_fault w.number (held w) ≡ None → HasMatched was left w
  matched_more answers good =
      let n = answers m.bytes m.found m.read in
      let none : first_fault 1 (m.found ++ n.2.line ∷ []) ≡ None =
      first_last m.found n.2.line w.number m.good n.2.read.number ∙ (fault_short w.number n.2.line n.2.is.1 ∙ (ap (short_fault w.number) n.2.is.0 ∙ good)) in
      record { bytes = m.bytes ++ n.0; given = Consumes-trans was mid left m.bytes n.0 m.given n.1; found = m.found ++ n.2.line ∷ []; read = n.2.read; good = none }

  -- all were found
  pub matched_all : ((bytes : List ℕ) (before : List Line) → HasRead bytes before mid v → (more : List ℕ) × Consumes mid left more × (HasRead (bytes ++ more) before left w × AreAll (bytes ++ more) before left))
      → IsMatched was left
  matched_all answers =
      let n = answers m.bytes m.found m.read in
      record { bytes = m.bytes ++ n.0; given = Consumes-trans was mid left m.bytes n.0 m.given n.1; end = n.2.1.end; good = ap (first_fault 1) n.2.1.lines ∙ m.good }

  refused_in : (b : Bool) (bytes : List ℕ) (lines : List Line) (fault : LogFault) → AreFound b bytes lines w.lines → Consumes was left bytes → (b ≡ true → IsAtEnd left) → first_fault 1 lines ≡ Some fault → IsRefused was left fault
  refused_in false bytes lines fault are given end is = record {
    bytes = bytes;
    given = given;
    first = ap (λ (b : List ℕ). first_fault 1 (lines_of b)) (sym (append-nil bytes)) ∙ (ap (first_fault 1) (are.2 []) ∙ first_stays lines (lines_of (are.0 ++ [])) fault is);
    stays = inl (λ later. ap (first_fault 1) (are.2 later) ∙ first_stays lines (lines_of (are.0 ++ later)) fault is);
  }
  refused_in true bytes lines fault are given end is = record {
    bytes = bytes;
    given = given;
    first = ap (first_fault 1) are ∙ is;
    stays = inr (end refl);
  }

  -- a line was found that has a fault
  refused_with : (found : Found) (fault : LogFault) → (n : (more : List ℕ) × Consumes mid left more × Finds (m.bytes ++ more) m.found left found w) → line_fault w.number n.2.line ≡ Some fault → IsRefused was left fault
  refused_with found fault n is =
      refused_in w.is_over (m.bytes ++ n.0) (m.found ++ n.2.line ∷ []) fault n.2.read.lines (Consumes-trans was mid left m.bytes n.0 m.given n.1) n.2.read.end
      (first_last m.found n.2.line w.number m.good n.2.read.number ∙ is)

  pub refused_held : (fault : LogFault) → ((bytes : List ℕ) (before : List Line) → HasRead bytes before mid v → (more : List ℕ) × Consumes mid left more × Finds (bytes ++ more) before left Held w)
      → short_fault w.number (held w) ≡ Some fault → IsRefused was left fault
  refused_held fault answers is =
      let n = answers m.bytes m.found m.read in
      refused_with Held fault n (fault_short w.number n.2.line n.2.is.1 ∙ (ap (short_fault w.number) n.2.is.0 ∙ is))

  pub refused_long : ((bytes : List ℕ) (before : List Line) → HasRead bytes before mid v → (more : List ℕ) × Consumes mid left more × Finds (bytes ++ more) before left TooLong w)
      → IsRefused was left (Long w.number)
  refused_long answers =
      let n = answers m.bytes m.found m.read in
      refused_with TooLong (Long w.number) n (fault_long w.number n.2.line n.2.is)

-- the fault of the line that was found last is told, or one of memory or the output
pub told_at : (was left : Option (List ℕ)) (fault : LogFault) (own : Option LogFault) → IsToldAt fault own → (own ≡ Some fault → IsRefused was left fault) → IsToldOf was left fault
told_at was left (Long n) own told refused = refused told
told_at was left (NotJson n) own told refused = refused told
told_at was left (NotEvent n) own told refused = refused told
told_at was left (BadUser n) own told refused = refused told
told_at was left NoMemory own told refused = tt
told_at was left (CannotRead error) own told refused = tt
told_at was left CannotWrite own told refused = tt
