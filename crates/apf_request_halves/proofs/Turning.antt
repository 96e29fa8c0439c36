-- One turn after the other: lines that are cut off, and bytes that are read.
use Rattle.std.proofs.Common.{◌≡◌, ◌≢◌, ◌≤◌, ◌<◌, ◌+◌, ◌⊎◌, ℕ, List, [], ◌∷◌, ◌++◌, Bool, true, false, Option, Some, None, Result, Ok, Err, length, refl, sym, ap, ◌∙◌, subst, inl, inr, arith, append_assoc, append-nil}
use Rattle.std.specs.Prelude.{All, IsPermutation, ◌||◌, nat_le}
use Rattle.std.specs.Io.KnownBytes.{Consumes}
use Rattle.std.proofs.KnownBytes.{Consumes-nil, Consumes-trans}
use Rattle.std.proofs.lemmas.Bool.Decides.{nat_tests}
use Rattle.std.proofs.lemmas.List.{take_at}
use Rattle.std.proofs.lemmas.List.Elements.{All-append, All-take}
use Rattle.std.proofs.lemmas.List.Sorted.{All-permutation}
use Rattle.apf_lines.specs.Lines.{CutsLine, CutsOff, LinesView}
use Rattle.apf_lines.specs.declared.lines.Cut.TheVariants as cuts
use Rattle.apf_request_lines.specs.declared.line.RequestLine.{RequestLine}
use Rattle.apf_request_lines.specs.Lines.{line_read, request}
use Rattle.apf_request_halves.specs.declared.fault.HalvesFault.{HalvesFault}
use Rattle.apf_request_halves.specs.declared.fault.HalvesFault.TheVariants.{NoMemory, Line, CannotRead}
use Rattle.apf_request_halves.specs.declared.halves.Turn.{Turn}
use Rattle.apf_request_halves.specs.declared.halves.Turn.TheVariants.{Over}
use Rattle.apf_request_halves.specs.Held.{Placed}
use Rattle.apf_request_halves.specs.Reading.{Answers, Asked, Finds, Goes, GoesMore, HalvesView, HasRead, IsWithout, Stops, TakesLine, Took, answered, asked_and, given, limit_after, max_line, request_at}
use Rattle.apf_request_halves.proofs.Taking.{Moves, after_line, at_lines, line_answered, line_stays, lines_push, long_line, none_went, passed, short_line}

-- ---- a line is cut off

-- the same view with another limit
abbrev pub at_limit : HalvesView → ℕ → HalvesView
at_limit v limit = record { lines = v.lines; held = v.held; number = v.number; dropped = v.dropped; limit = limit; is_ended = v.is_ended }

-- what holds of all holds of the first ones
pub All-first : {X : Type 0} (P : X → Type 0) (front back : List X) → All P (front ++ back) → All P front
All-first P front back all = subst (All P) (take_at front back (length front) refl) (All-take P (length front) (front ++ back) all)

-- lines that are held have another id, and so has the one that is held beside them
pub without_moved : (id : List ℕ) (came held new gone : List Placed) → IsPermutation (came ++ held) (new ++ gone) → IsWithout id came → IsWithout id held → IsWithout id new
without_moved id came held new gone moves came_others others =
    All-first (λ (p : Placed). p.request.audit_id ≢ id) new gone
    (All-permutation (λ (p : Placed). p.request.audit_id ≢ id) (came ++ held) (new ++ gone) moves (All-append (λ (p : Placed). p.request.audit_id ≢ id) came held came_others others))

module _ (bytes : List ℕ) (asked : List Asked) (left : Option (List ℕ)) (v : HalvesView) (h : HasRead bytes asked left v) (not_ended : v.is_ended ≡ false) (goes_on : v.number < v.limit) (ls : LinesView) where
  -- a line that is not too long
  module _ (off : CutsOff v.lines cuts.Line ls) where
    parts : CutsLine h.rest ls.line ls
    parts = (off.of_each h.rest h.uncut).1

    longest : ls.longest ≡ max_line
    longest = off.longest ∙ h.longest

    has_given : request_at (v.number + 1) ls.line ≡ given (v.number + 1) (line_read ls.line)
    has_given =
        let low = (off.of_each h.rest h.uncut).0 in
        let most = longest in
        short_line (v.number + 1) ls.line (omega (arith, low, most))

    moved : (id : List ℕ) (found : Option RequestLine) (w : HalvesView) (took : TakesLine id (at_lines v ls) found w)
        → Moves v (given (v.number + 1) (line_read ls.line)) (answered (v.number + 1) found) w.held took.judges.gone took.is_gone
    moved id found w took = record {
      all = took.judges.all;
      count = took.judges.count;
      few = took.judges.few;
      order = took.judges.order;
      had_to = took.judges.had_to;
    }

    -- the view that is left, up to the limit
    left_view : (id : List ℕ) (found : Option RequestLine) (w : HalvesView) (took : TakesLine id (at_lines v ls) found w) (limit : ℕ) → after_line v ls w.held took.is_gone limit ≡ at_limit w limit
    left_view id found w took limit = rw (took.lines, took.number, took.dropped, took.is_ended) refl

    -- it is none that is answered
    pub line_kept : (id : List ℕ) (w : HalvesView) → TakesLine id (at_lines v ls) None w → IsWithout id v.held → HasRead bytes asked left w × IsWithout id w.held
    line_kept id w took without = (
      subst (HasRead bytes asked left) (left_view id None w took v.limit ∙ ap (at_limit w) (sym took.limit))
          (line_stays bytes asked left v h not_ended goes_on ls.line ls parts longest (given (v.number + 1) (line_read ls.line)) w.held took.judges.gone took.is_gone has_given (moved id None w took)),
      without_moved id (given (v.number + 1) (line_read ls.line)) v.held w.held took.judges.gone took.judges.all took.judges.other_id without,
    )

    -- it is the one that was asked for
    pub line_found : (id : List ℕ) (line : RequestLine) (w : HalvesView) → TakesLine id (at_lines v ls) (Some line) w
        → Finds id bytes asked left line (at_limit w (limit_after w.limit (Some (record { number = w.number; request = request line }))))
    line_found id line w took =
        let p : Placed = record { number = v.number + 1; request = request line } in
        let limit : limit_after v.limit (Some p) ≡ limit_after w.limit (Some (record { number = w.number; request = request line })) = rw (took.limit, took.number) refl in (
          v.number + 1,
          subst (HasRead bytes (asked ++ asked_and id (v.number + 1) line ∷ []) left) (left_view id (Some line) w took (limit_after v.limit (Some p)) ∙ ap (at_limit w) limit)
              (line_answered bytes asked left v h not_ended goes_on ls.line ls parts longest (given (v.number + 1) (line_read ls.line)) w.held took.judges.gone took.is_gone has_given id p (moved id (Some line) w took) took.judges.same_id),
        )

    -- it has a fault
    pub line_refused : (id : List ℕ) (fault : HalvesFault) (w : HalvesView) → Took id (at_lines v ls) (Err fault) w → Stops bytes asked left fault w
    line_refused id NoMemory w took = tt
    line_refused id (Line number fault) w took =
        let none : request_at (v.number + 1) ls.line ≡ [] = has_given ∙ ap (given (v.number + 1)) took.1 in (
          subst (HasRead bytes asked left) (sym took.2) (passed bytes asked left v h not_ended goes_on ls.line ls parts longest none),
          record {
            front = h.lines;
            line = ls.line;
            rest = parts.later;
            are = lines_push bytes h.lines h.rest ls.line parts.later h.are parts.first parts.whole;
            place = took.0 ∙ ap (λ n. n + 1) h.number;
            has = took.1;
          },
        )
    line_refused id (CannotRead error) w took = absurd took

  -- a line that is too long
  pub long_passed : CutsOff v.lines cuts.TooLong ls
      → HasRead bytes asked left (record { lines = ls; held = v.held; number = v.number + 1; dropped = v.dropped; limit = v.limit; is_ended = v.is_ended })
  long_passed off =
      let long = off.of_each h.rest h.uncut in
      let most : ls.longest ≡ max_line = off.longest ∙ h.longest in
      let over = long.long in
      passed bytes asked left v h not_ended goes_on long.line ls long.cuts most (long_line (v.number + 1) long.line (omega (arith, over, most)))

-- ---- one turn after the other

-- where nothing more is read, the input was at its end, or the limit is reached
pub why_over : (is_ended : Bool) (limit number : ℕ) → (is_ended || nat_le limit number) ≡ true → (limit ≤ number) ⊎ (is_ended ≡ true)
why_over true limit number is = inr refl
why_over false limit number is = inl (grind (arith, nat_tests))

-- where more is read, the input was not at its end
pub not_over : (is_ended : Bool) (limit number : ℕ) → (is_ended || nat_le limit number) ≡ false → is_ended ≡ false
not_over true limit number is = absurd cc
not_over false limit number is = refl

-- and the limit is not reached
pub not_far : (is_ended : Bool) (limit number : ℕ) → (is_ended || nat_le limit number) ≡ false → number < limit
not_far true limit number is = absurd cc
not_far false limit number is = grind (arith, nat_tests)

-- nothing more is read
pub no_more : (id bytes : List ℕ) (asked : List Asked) (was : Option (List ℕ)) (result : Result Turn HalvesFault) (v : HalvesView) → Goes id bytes asked was result v
    → (more : List ℕ) × Consumes was was more × Goes id (bytes ++ more) asked was result v
no_more id bytes asked was result v goes = ([], Consumes-nil was, subst (λ b. Goes id b asked was result v) (sym (append-nil bytes)) goes)

-- the input gave more bytes, and nothing was answered
abbrev pub HasReadMore : List ℕ → Option (List ℕ) → Option (List ℕ) → List ℕ → List Asked → HalvesView → Type 0
HasReadMore id was left bytes asked v = (more : List ℕ) × Consumes was left more × (HasRead (bytes ++ more) asked left v × IsWithout id v.held)

-- one more turn
pub turned : (id : List ℕ) (was mid left : Option (List ℕ)) (bytes : List ℕ) (asked : List Asked) (v w : HalvesView) (result : Result Turn HalvesFault)
    → HasReadMore id was mid bytes asked v → GoesMore id mid left v result w → (more : List ℕ) × Consumes was left more × Goes id (bytes ++ more) asked left result w
turned id was mid left bytes asked v w result m goes =
    let s = goes (bytes ++ m.0) asked m.2.0 m.2.1 in
    (m.0 ++ s.0, Consumes-trans was mid left m.0 s.0 m.1 s.1, subst (λ b. Goes id b asked left result w) (append_assoc bytes m.0 s.0) s.2)

-- nothing more is read for this id, and the limit is moved
pub over : (id bytes : List ℕ) (asked : List Asked) (left : Option (List ℕ)) (v : HalvesView) → Goes id bytes asked left (Ok Over) v
    → Answers id bytes asked left (Ok None) (at_limit v (limit_after v.limit None))
over id bytes asked left v (h, without, why) = none_went bytes asked left v h id without why

-- a line that was held is answered
pub held_answer : (id bytes : List ℕ) (asked : List Asked) (was : Option (List ℕ)) (line : RequestLine) (v : HalvesView) → Finds id bytes asked was line v
    → (more : List ℕ) × Consumes was was more × Answers id (bytes ++ more) asked was (Ok (Some line)) v
held_answer id bytes asked was line v finds = ([], Consumes-nil was, subst (λ b. Finds id b asked was line v) (sym (append-nil bytes)) finds)
