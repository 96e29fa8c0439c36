-- All lines of what was read so far were answered.
use Rattle.std.proofs.Common.{◌≡◌, length, string_bytes}
use Rattle.apf_lines.specs.Lines.{HasNoLf}
use Rattle.apf_service.specs.Kept.{state_of}
use Rattle.apf_service.specs.Rounds.{AnswersInput}
use Rattle.apf_service.proofs.serving.answer_input.Given as goal

abbrev pub invariant-rounds : goal.invariant-rounds
invariant-rounds g l = record {
  longest : l.lines.longest ≡ l.initial.lines.longest;
  none : HasNoLf l.lines.kept;
  same : (l.service.config ≡ l.initial.service.config) × (l.service.name ≡ l.initial.service.name) × (length l.service.level.places ≡ length l.initial.service.level.places);
  input : AnswersInput (string_bytes l.initial.service.name) (state_of l.initial.service.level l.initial.service.notes) (state_of l.service.level l.service.notes) (g.I.Read.remaining l.initial.input) (g.I.Read.remaining l.input) (g.O.Write.contents l.initial.out) (g.O.Write.contents l.out) l.lines l.number;
}
