use Rattle.std.proofs.Common.{◌≡◌, ℕ, List, ◌++◌}
use Rattle.std.specs.Io.KnownBytes.{Consumes}
use Rattle.apf_audit.specs.AuditEvent.{Event}
use Rattle.apf_audit_reader.specs.Reading.{HasRead}
use Rattle.apf_audit_reader.proofs.reader.AuditReader.turns.Given as goal

abbrev pub invariant-turns : goal.invariant-turns
invariant-turns g l = record {
  goes : (bytes : List ℕ) (told : List Event) → HasRead l.choice bytes told (g.R.Read.remaining l.initial.input) l.initial.self
      → (more : List ℕ) × Consumes (g.R.Read.remaining l.initial.input) (g.R.Read.remaining l.input) more × HasRead l.choice (bytes ++ more) told (g.R.Read.remaining l.input) l.self;
  size : l.self.window.size ≡ l.initial.self.window.size;
}
