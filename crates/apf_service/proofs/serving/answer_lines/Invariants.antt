-- The lines so far were answered, and fewer bytes are kept with each.
use Rattle.std.proofs.Common.{◌≡◌, length, string_bytes}
use Rattle.apf_service.specs.Kept.{state_of}
use Rattle.apf_service.specs.Rounds.{AnswersEach}
use Rattle.apf_service.proofs.serving.answer_lines.Given as goal

abbrev pub invariant-lines : goal.invariant-lines
invariant-lines g l = record {
  longest : l.lines.longest ≡ l.initial.lines.longest;
  same : (l.service.config ≡ l.initial.service.config) × (l.service.name ≡ l.initial.service.name) × (length l.service.level.places ≡ length l.initial.service.level.places);
  answered : AnswersEach (string_bytes l.initial.service.name) l.first (state_of l.initial.service.level l.initial.service.notes) (state_of l.service.level l.service.notes) (g.O.Write.contents l.initial.out) (g.O.Write.contents l.out) l.initial.lines l.lines l.number;
}

abbrev pub decreases-lines : goal.decreases-lines
decreases-lines g l = length l.lines.kept
