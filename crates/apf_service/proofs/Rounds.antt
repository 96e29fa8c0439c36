-- What the loops of `serve` did so far grows with each round.
use Rattle.std.proofs.Common.{◌≡◌, ◌≢◌, ℕ, ◌+◌, ◌-◌, ◌^◌, min, List, [], ◌∷◌, ◌++◌, length, Bool, true, false, Option, Result, Err, MatchResult, refl, sym, ap, ◌∙◌, subst, append_assoc, append-nil, length-append, arith}
use Rattle.std.proofs.lemmas.List.Elements.{All-nil, All-cons}
use Rattle.std.specs.Io.KnownBytes.{Keeps, Appends}
use Rattle.apf_lines.specs.Lines.{lf, HasNoLf, AreLines, LinesView, AreUncut, AreDropped, Stays}
use Rattle.apf_service.specs.Kept.{State, told}
use Rattle.apf_service.specs.Lines.{Serves}
use Rattle.apf_service.specs.Serving.{AnswersAll, WritesAll, IsRead}
use Rattle.apf_service.specs.Rounds.{TakesFirst, TakesOne, AnswersLines, AnswersEach, AnswersInput, AnswersWhole, AnswersPart, ReadsOn}
use Rattle.apf_service.proofs.Answering.{Keeps-refl, WritesAll-append, WritesAll-kept, WritesAll-one, AnswersAll-append, AreLines-append, AreLines-more, Consumes-nil, Consumes-trans, whole_by_kept}
use Rattle.apf_service.proofs.Stating.{stated, IsStated}

-- ---- numbers

min_more : (n most : ℕ) → min (min n most + 1) most ≡ min (n + 1) most
min_more n most = omega arith

-- the number behind one that is told so
pub told_more : (n k next : ℕ) → k ≡ told n → next ≡ told (k + 1) → next ≡ told (n + 1)
told_more n k next e f = f ∙ ap (λ (m : ℕ). told (m + 1)) e ∙ min_more n (2 ^ 64 - 1)

-- ---- one line more

-- no line so far
pub none_yet : (name : List ℕ) (number : ℕ) (bytes : List ℕ) (s : State) (held : Option (List ℕ)) (view : LinesView) (first : ℕ) → first ≡ told number → AreUncut bytes view → AnswersLines name number bytes s s held held view first
none_yet name number bytes s held view first is u = record {
  lines = [];
  rest = bytes;
  answers = [];
  joined = record { joined = refl; whole = All-nil HasNoLf };
  left = u;
  answered = refl;
  written = Keeps-refl held;
  next_is = is ∙ ap told (omega arith);
}

-- a line in front of these bytes
one_line : (bytes line later : List ℕ) → bytes ≡ line ++ (lf ∷ later) → HasNoLf line → AreLines bytes (line ∷ []) later
one_line bytes line later first whole = record {
  joined = first ∙ sym (ap (λ (l : List ℕ). l ++ later) (append-nil (line ++ (lf ∷ []))) ∙ append_assoc line (lf ∷ []) later);
  whole = All-cons HasNoLf line [] whole (All-nil HasNoLf);
}

first_more : (name : List ℕ) (number : ℕ) (bytes : List ℕ) (a b c : State) (held mid holds : Option (List ℕ)) (before after : LinesView) (k next : ℕ)
    → (was : AnswersLines name number bytes a b held mid before k) → TakesFirst name k was.rest b c mid holds after → next ≡ told (k + 1)
    → AnswersLines name number bytes a c held holds after next
first_more name number bytes a b c held mid holds before after k next was takes is =
    let at = number + length was.lines in
    let serves : Serves name (told at) takes.line b (Appends mid holds) c = subst (λ (n : ℕ). Serves name n takes.line b (Appends mid holds) c) was.next_is takes.serves in
    let says : IsStated name (told at) takes.line b c (Appends mid holds) = stated name (told at) takes.line b c (Appends mid holds) serves in
    record {
      lines = was.lines ++ (takes.line ∷ []);
      rest = takes.later;
      answers = was.answers ++ (says.answer ∷ []);
      joined = AreLines-append bytes was.lines (takes.line ∷ []) was.rest takes.later was.joined (one_line was.rest takes.line takes.later takes.first takes.whole);
      left = takes.left;
      answered = AnswersAll-append name number was.lines (takes.line ∷ []) was.answers (says.answer ∷ []) a b c was.answered (c, says.serves, refl);
      written = WritesAll-append was.answers (says.answer ∷ []) held mid holds was.written (WritesAll-one says.answer mid holds says.writes);
      next_is = told_more at k next was.next_is is ∙ ap told (omega (arith, length-append was.lines (takes.line ∷ [])));
    }

pub one_more : (name name' : List ℕ) (number : ℕ) (bytes : List ℕ) (a b c : State) (held mid holds : Option (List ℕ)) (before after : LinesView) (k next : ℕ) (went : Bool)
    → name' ≡ name → went ≡ true → TakesOne name' k b c mid holds before after went → next ≡ told (k + 1)
    → AnswersLines name number bytes a b held mid before k → AnswersLines name number bytes a c held holds after next
one_more name name' number bytes a b c held mid holds before after k next true same went takes is was =
    first_more name number bytes a b c held mid holds before after k next was
    (subst (λ (n : List ℕ). TakesFirst n k was.rest b c mid holds after) same (takes.of_each was.rest was.left)) is
one_more name name' number bytes a b c held mid holds before after k next false same went takes is was = absurd cc

-- no line more
pub none_more : (name name' : List ℕ) (number : ℕ) (bytes : List ℕ) (a b c : State) (held mid holds : Option (List ℕ)) (before after : LinesView) (k : ℕ) (went : Bool)
    → went ≡ false → TakesOne name' k b c mid holds before after went
    → AnswersLines name number bytes a b held mid before k → AnswersLines name number bytes a c held holds after k
none_more name name' number bytes a b c held mid holds before after k false went takes was = record {
  lines = was.lines;
  rest = was.rest;
  answers = was.answers;
  joined = was.joined;
  left = takes.of_each was.rest was.left;
  answered = subst (λ (s : State). AnswersAll name number was.lines was.answers a s) (sym takes.same) was.answered;
  written = subst (λ (w : Option (List ℕ)). WritesAll was.answers held w) (sym takes.writes) was.written;
  next_is = was.next_is;
}
none_more name name' number bytes a b c held mid holds before after k true went takes was = absurd cc

-- ---- what is read more

-- bytes came behind the rest
abbrev pub read_more : (name : List ℕ) (a b : State) (was left more_left held holds : Option (List ℕ)) (before after : LinesView) (next : ℕ) (is_on : Bool)
    → AnswersInput name a b was left held holds before next → ReadsOn left more_left is_on before after
    → AnswersInput name a b was more_left held holds after next
read_more name a b was left more_left held holds before after next is_on input reads = record {
  input = input.input ++ reads.more;
  given = Consumes-trans was left more_left input.input reads.more input.given reads.given;
  answers = record {
    lines = input.answers.lines;
    rest = input.answers.rest ++ reads.more;
    answers = input.answers.answers;
    joined = AreLines-more input.input input.answers.lines input.answers.rest reads.more input.answers.joined;
    left = reads.of_each input.answers.rest input.answers.left;
    answered = input.answers.answered;
    written = input.answers.written;
    next_is = input.answers.next_is;
  };
}

-- the lines among the rest were answered, and what was written was handed over
pub lines_more : (name name' : List ℕ) (a b c : State) (was left held mid behind holds : Option (List ℕ)) (before after : LinesView) (k next : ℕ)
    → name' ≡ name → AnswersInput name a b was left held mid before k → AnswersEach name' k b c mid behind before after next → Keeps behind holds
    → AnswersInput name a c was left held holds after next
lines_more name name' a b c was left held mid behind holds before after k next same input each kept =
    let so_far = input.answers in
    let more : AnswersLines name (1 + length so_far.lines) so_far.rest b c mid behind after next =
    subst (λ (n : List ℕ). AnswersLines n (1 + length so_far.lines) so_far.rest b c mid behind after next) same (each (1 + length so_far.lines) so_far.rest so_far.next_is so_far.left) in
    record {
      input = input.input;
      given = input.given;
      answers = record {
        lines = so_far.lines ++ more.lines;
        rest = more.rest;
        answers = so_far.answers ++ more.answers;
        joined = AreLines-append input.input so_far.lines more.lines so_far.rest more.rest so_far.joined more.joined;
        left = more.left;
        answered = AnswersAll-append name 1 so_far.lines more.lines so_far.answers more.answers a b c so_far.answered more.answered;
        written = WritesAll-kept (so_far.answers ++ more.answers) held behind holds (WritesAll-append so_far.answers more.answers held mid behind so_far.written more.written) kept;
        next_is = more.next_is ∙ ap told (omega (arith, length-append so_far.lines more.lines));
      };
    }

whole_behind : (rest more : List ℕ) → more ≡ [] → HasNoLf rest → HasNoLf (rest ++ more)
whole_behind rest more none whole = subst HasNoLf (sym (ap (λ (l : List ℕ). rest ++ l) none ∙ append-nil rest)) whole

-- the reader is at its end
pub whole_input : (name : List ℕ) (a b : State) (was left more_left held holds : Option (List ℕ)) (before after : LinesView) (next : ℕ) (is_on : Bool)
    → is_on ≡ false → HasNoLf before.kept → AnswersInput name a b was left held holds before next → ReadsOn left more_left is_on before after
    → AnswersWhole name a b was more_left held holds after next
whole_input name a b was left more_left held holds before after next is_on off none input reads = record {
  input = read_more name a b was left more_left held holds before after next is_on input reads;
  ended = (reads.end off).1;
  whole = whole_behind input.answers.rest reads.more (reads.end off).0 (whole_by_kept input.answers.rest before input.answers.left none);
}

-- what was read is this, where no LF is kept
pub part_input : (name : List ℕ) (a b : State) (was left held holds : Option (List ℕ)) (view : LinesView) (next : ℕ)
    → HasNoLf view.kept → AnswersInput name a b was left held holds view next → AnswersPart name a b was left held holds view
part_input name a b was left held holds view next none input = record {
  next = next;
  input = input;
  whole = whole_by_kept input.answers.rest view input.answers.left none;
}

-- the reader failed
pub failed_input : (name : List ℕ) (a b : State) (was left more_left held holds : Option (List ℕ)) (before after : LinesView) (next : ℕ)
    → HasNoLf before.kept → AnswersInput name a b was left held holds before next → Stays left more_left before after
    → AnswersPart name a b was more_left held holds after
failed_input name a b was left more_left held holds before after next none input stays = record {
  next = next;
  input = read_more name a b was left more_left held holds before after next true input (record {
    more = [];
    given = Consumes-nil left more_left stays.kept;
    end = λ e. absurd cc;
    of_each = λ bytes u. rw append-nil (stays.of_each bytes u);
  });
  whole = whole_behind input.answers.rest [] refl (whole_by_kept input.answers.rest before input.answers.left none);
}

-- ---- before the first reading

nothing_uncut : (view : LinesView) → view.kept ≡ [] → view.is_skipped ≡ false → AreUncut [] view
nothing_uncut view nothing whole = record {
  dropped = [];
  are = subst (λ (b : Bool). AreDropped view.longest b []) (sym whole) refl;
  both = sym nothing;
}

-- nothing was read
pub nothing_yet : (name : List ℕ) (s : State) (was held : Option (List ℕ)) (view : LinesView) → view.kept ≡ [] → view.is_skipped ≡ false → AnswersInput name s s was was held held view 1
nothing_yet name s was held view nothing whole = record {
  input = [];
  given = Consumes-nil was was (Keeps-refl was);
  answers = none_yet name 1 [] s held view 1 refl (nothing_uncut view nothing whole);
}

pub no_lf_yet : (view : LinesView) → view.kept ≡ [] → HasNoLf view.kept
no_lf_yet view nothing = subst HasNoLf (sym nothing) (All-nil (λ b. b ≢ lf))

-- ---- at a fault

pub read_so_far : (name : List ℕ) (a b : State) (was left more_left held holds : Option (List ℕ)) (before after : LinesView) (next : ℕ) (is_on : Bool)
    → AnswersInput name a b was left held holds before next → ReadsOn left more_left is_on before after → IsRead was more_left
read_so_far name a b was left more_left held holds before after next is_on input reads = (input.input ++ reads.more, Consumes-trans was left more_left input.input reads.more input.given reads.given)

-- what holds at the fault that is told, where the call answered it
pub at_fault : {T E : Type 0} (r : Result T E) (fault met : E) (P : T → Type 0) (R : E → Type 0) → ((y : E) × (r ≡ Err y) × (y ≡ met)) → met ≡ fault → R fault → MatchResult r P R
at_fault {T} {E} r fault met P R is e holds = subst (λ (q : Result T E). MatchResult q P R) (sym (is.1 ∙ ap (λ (y : E). Err y) (is.2 ∙ e))) holds
