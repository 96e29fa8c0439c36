-- A line that was cut off was taken.
use Rattle.std.proofs.Common.{◌≡◌, ℕ, ◌<◌, List, length, Option, ◌∙◌, subst}
use Rattle.std.specs.Io.KnownBytes.{Appends}
use Rattle.apf_lines.specs.declared.lines.Cut.TheVariants.{Line, TooLong}
use Rattle.apf_lines.specs.Lines.{LinesView, CutsOff, CutsTooLong, CutsLine}
use Rattle.apf_service.specs.Kept.{State}
use Rattle.apf_traces.specs.TraceFile.{max_bytes}
use Rattle.apf_service.specs.Lines.{Serves}
use Rattle.apf_service.specs.Rounds.{TakesNext}
use Rattle.apf_service.proofs.Stating.{too_long, long_text}

-- one that is short enough
pub takes_line : (name : List ℕ) (number : ℕ) (old new : State) (held holds : Option (List ℕ)) (before after : LinesView) → CutsOff before Line after → Serves name number after.line old (Appends held holds) new → TakesNext name number old new held holds before after
takes_line name number old new held holds before after cut serves = record {
  of_each = λ bytes u.
      let cuts : CutsLine bytes after.line after = (cut.of_each bytes u).1 in
      record { line = after.line; later = cuts.later; first = cuts.first; whole = cuts.whole; left = cuts.left; serves = serves };
  shorter = cut.shorter (λ e. cc);
}

-- one that is too long
pub takes_long : (name : List ℕ) (number : ℕ) (old : State) (held holds : Option (List ℕ)) (before after : LinesView) → before.longest ≡ max_bytes → CutsOff before TooLong after → Appends held holds (long_text number) → TakesNext name number old old held holds before after
takes_long name number old held holds before after most cut told = record {
  of_each = λ bytes u.
      let cuts : CutsTooLong bytes after = cut.of_each bytes u in
      let same : after.longest ≡ max_bytes = cut.longest ∙ most in
      let long : max_bytes < length cuts.line = subst (λ (n : ℕ). n < length cuts.line) same cuts.long in
      record { line = cuts.line; later = cuts.cuts.later; first = cuts.cuts.first; whole = cuts.cuts.whole; left = cuts.cuts.left; serves = too_long name number cuts.line old (Appends held holds) long told };
  shorter = cut.shorter (λ e. cc);
}
