-- The line of the id was looked for.
use Rattle.std.proofs.Common.{◌≡◌, ℕ, List, Option, Some, sym, subst, rules}
use Rattle.std.specs.Prelude.{string_bytes}
use Rattle.apf_request_halves.specs.Reading.{AnswersMore}
use Rattle.apf_audit.specs.AuditEvent.{event}
use Rattle.apf_joined_reader.specs.Looking.{LooksUp}
use Rattle.apf_joined_reader.proofs.joining.look_up.Goals as goal

pub returns-in-Some : goal.returns-in-Some
returns-in-Some g c =
    let was = g.S.Read.remaining c.args.lines.now in
    let left = g.S.Read.remaining c.find.new.input in
    let id : (event c.args.taken.now).audit_id ≡ Some (string_bytes c.in-Some.id) = search rules in
    let asked : AnswersMore (string_bytes c.in-Some.id) was left c.args.halves.now c.find.result c.find.new.self = subst (λ (b : List ℕ). AnswersMore b was left c.args.halves.now c.find.result c.find.new.self) c.as_bytes.ensures.value c.find.ensures in
    subst (λ (o : Option (List ℕ)). LooksUp o was left c.args.halves.now c.find.result c.find.new.self) (sym id) asked
