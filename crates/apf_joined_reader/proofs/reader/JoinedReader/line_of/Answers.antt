-- A line was looked for.
use Rattle.std.proofs.Common.{◌≡◌, Option, Some, Result, Ok, Err, subst, rules}
use Rattle.apf_request_halves.specs.declared.fault.HalvesFault.{HalvesFault}
use Rattle.apf_request_lines.specs.declared.line.RequestLine.{RequestLine}
use Rattle.apf_audit.specs.AuditEvent.{event}
use Rattle.apf_joined_reader.specs.Looking.{LooksUp}
use Rattle.apf_joined_reader.proofs.Lines.{found, unread}
use Rattle.apf_joined_reader.proofs.reader.JoinedReader.line_of.Goals as goal

pub returns-in-Ok-clause-found : goal.returns-in-Ok-clause-found
returns-in-Ok-clause-found g c =
    let e = event c.args.taken.now in
    let was = g.S.Read.remaining c.args.lines.now in
    let left = g.S.Read.remaining c.look_up.new.lines in
    let there : c.args.self.now.halves ≡ Some c.in-Some.halves = search rules in
    let looks : LooksUp e.audit_id was left c.in-Some.halves (Ok c.in-Ok.line) c.look_up.new.halves =
    subst (λ (r : Result (Option RequestLine) HalvesFault). LooksUp e.audit_id was left c.in-Some.halves r c.look_up.new.halves) c.in-Ok.is c.look_up.ensures in
    found e was left c.args.self.now.halves c.in-Some.halves c.look_up.new.halves c.in-Ok.line there looks

pub returns-in-Err-clause-found : goal.returns-in-Err-clause-found
returns-in-Err-clause-found g c =
    let e = event c.args.taken.now in
    let was = g.S.Read.remaining c.args.lines.now in
    let left = g.S.Read.remaining c.look_up.new.lines in
    let there : c.args.self.now.halves ≡ Some c.in-Some.halves = search rules in
    let looks : LooksUp e.audit_id was left c.in-Some.halves (Err c.in-Err.fault) c.look_up.new.halves =
    subst (λ (r : Result (Option RequestLine) HalvesFault). LooksUp e.audit_id was left c.in-Some.halves r c.look_up.new.halves) c.in-Err.is c.look_up.ensures in
    unread e was left c.args.self.now.halves c.in-Some.halves c.look_up.new.halves c.in-Err.fault there looks
