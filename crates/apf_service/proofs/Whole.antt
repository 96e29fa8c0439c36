-- What was served from the first line to the book.
use Rattle.std.proofs.Common.{◌≡◌, ℕ, ◌+◌, List, length, Option, Result, Ok, Err, OnOk, IfErr, sym, ap, ◌∙◌, subst, arith}
use Rattle.std.specs.Io.KnownBytes.{Appends}
use Rattle.apf_lines.specs.Lines.{HasNoLf, LinesView}
use Rattle.apf_service.specs.declared.serving.ServeFault.{ServeFault}
use Rattle.apf_service.specs.declared.serving.ServeFault.TheVariants.{Open, CannotRead, CannotWrite, NoMemory}
use Rattle.apf_service.specs.Kept.{State, told}
use Rattle.apf_service.specs.Serving.{Setup, IsBegun, AnswersAll, IsAnswered, ServesAll, ServesPart, ServesUntil, IsServed}
use Rattle.apf_service.specs.Rounds.{AnswersLines, AnswersWhole, AnswersPart, AnswersUntil, TellsEnd, TellsEndOf}
use Rattle.apf_service.proofs.Answering.{WritesAll-append}
use Rattle.apf_service.proofs.First.{first_said}

-- the lines of what was read were answered by a level that was opened so
answered_from : (setup : Setup) (name input : List ℕ) (old new : State) (held holds : Option (List ℕ)) (view : LinesView) (next : ℕ) → name ≡ setup.name → IsBegun setup old
    → (a : AnswersLines name 1 input old new held holds view next) → HasNoLf a.rest → IsAnswered setup input a.lines a.rest a.answers new
answered_from setup name input old new held holds view next same opening a whole = record {
  begun = old;
  opening = opening;
  joined = a.joined;
  whole = whole;
  answered = subst (λ (n : List ℕ). AnswersAll n 1 a.lines a.answers old new) same a.answered;
}

-- this many lines, and the number of the next
told_next : (next count : ℕ) → next ≡ told (1 + count) → next ≡ told (count + 1)
told_next next count is = is ∙ ap told (omega arith)

pub served_part : (setup : Setup) (name : List ℕ) (old new : State) (was left held begun holds : Option (List ℕ)) (view : LinesView)
    → name ≡ setup.name → IsBegun setup old → Appends held begun (first_said setup) → AnswersPart name old new was left begun holds view
    → ServesPart setup was left held holds
served_part setup name old new was left held begun holds view same opening first part = record {
  input = part.input.input;
  given = part.input.given;
  lines = part.input.answers.lines;
  rest = part.input.answers.rest;
  answers = part.input.answers.answers;
  served = new;
  are = answered_from setup name part.input.input old new begun holds view part.next same opening part.input.answers part.whole;
  written = (begun, first, part.input.answers.written);
}

pub served_all : (setup : Setup) (name : List ℕ) (old new : State) (was left held begun mid holds : Option (List ℕ)) (view : LinesView) (next : ℕ)
    → name ≡ setup.name → IsBegun setup old → Appends held begun (first_said setup) → AnswersWhole name old new was left begun mid view next → TellsEnd next new view mid holds
    → ServesAll setup was left held holds
served_all setup name old new was left held begun mid holds view next same opening first all end =
    let a = all.input.answers in
    let e : TellsEndOf (told (length a.lines + 1)) new a.rest mid holds =
    subst (λ (n : ℕ). TellsEndOf n new a.rest mid holds) (told_next next (length a.lines) a.next_is) (end a.rest a.left) in
    record {
      input = all.input.input;
      given = all.input.given;
      ended = all.ended;
      lines = a.lines;
      rest = a.rest;
      answers = a.answers;
      served = new;
      are = answered_from setup name all.input.input old new begun mid view next same opening a all.whole;
      last = e.last;
      book = e.book;
      tells = e.tells;
      written = (begun, first, WritesAll-append a.answers _ begun mid holds a.written e.written);
    }

pub served_on : {T : Type 0} (done : Result T ServeFault) (setup : Setup) (name : List ℕ) (old new : State) (was left held begun mid holds : Option (List ℕ)) (view : LinesView) (next : ℕ)
    → name ≡ setup.name → IsBegun setup old → Appends held begun (first_said setup) → AnswersWhole name old new was left begun mid view next → OnOk done (TellsEnd next new view mid holds) → IfErr done (λ fault. fault ≡ CannotWrite)
    → IsServed setup was left held holds done
served_on (Ok x) setup name old new was left held begun mid holds view next same opening first all end fault = served_all setup name old new was left held begun mid holds view next same opening first all end
served_on (Err f) setup name old new was left held begun mid holds view next same opening first all end fault =
    subst (λ (e : ServeFault). ServesUntil setup was left held holds e) (sym fault) (all.input.input, all.input.given)

pub served_until : (setup : Setup) (name : List ℕ) (old new : State) (was left held begun holds : Option (List ℕ)) (view : LinesView) (fault : ServeFault)
    → name ≡ setup.name → IsBegun setup old → Appends held begun (first_said setup) → AnswersUntil name old new was left begun holds view fault
    → ServesUntil setup was left held holds fault
served_until setup name old new was left held begun holds view CannotRead same opening first part = served_part setup name old new was left held begun holds view same opening first part
served_until setup name old new was left held begun holds view CannotWrite same opening first read = read
served_until setup name old new was left held begun holds view NoMemory same opening first none = absurd none
served_until setup name old new was left held begun holds view (Open f) same opening first none = absurd none
