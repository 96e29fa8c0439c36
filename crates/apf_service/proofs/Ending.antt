-- The book is told behind what was answered.
use Rattle.std.proofs.Common.{ℕ, List, Option, Result, Ok, Err, OnOk, refl}
use Rattle.std.specs.Io.KnownBytes.{Keeps, Appends}
use Rattle.apf_lines.specs.Lines.{LinesView}
use Rattle.apf_service.specs.Kept.{State}
use Rattle.apf_texts.specs.Texts.{totals_text}
use Rattle.apf_service.specs.Lines.{TellsBook, WritesIfOk, book_of}
use Rattle.apf_service.specs.Rounds.{TellsRestOf, TellsEnd}
use Rattle.apf_service.proofs.Answering.{Keeps-refl, Appends-Keeps}

-- where the book was written
pub book_on : {T E : Type 0} (done : Result T E) (old new : State) (a b : Option (List ℕ)) → TellsBook old (WritesIfOk done a b) new → OnOk done (TellsBook old (Appends a b) new)
book_on (Ok x) old new a b is = is
book_on (Err e) old new a b is = tt

pub told_end : {T E : Type 0} (done : Result T E) (number : ℕ) (old new : State) (view : LinesView) (held between behind holds : Option (List ℕ)) → TellsRestOf number view held between → TellsBook old (Appends between behind) new → OnOk done (Keeps behind holds) → OnOk done (TellsEnd number old view held holds)
told_end (Err e) number old new view held between behind holds rest book kept = tt
told_end (Ok x) number old new view held between behind holds rest book kept = λ bytes u. record {
  last = new;
  book = totals_text (book_of book.word old.tally book.stats);
  tells = record { word = book.word; stats = book.stats; does = book.does; stats_are = book.stats_are; told = refl };
  written = (between, rest bytes u, (holds, Appends-Keeps between behind holds (totals_text (book_of book.word old.tally book.stats)) book.told kept, Keeps-refl holds));
}
