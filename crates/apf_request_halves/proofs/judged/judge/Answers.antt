-- A line is answered, held, or none of a request.
use Rattle.std.proofs.Common.{◌≡◌, ◌∙◌, ℕ, List, false, Option, Some, None, Ok, ap, sym, subst, map, option_map}
use Rattle.std.specs.Prelude.{bytes_eq}
use Rattle.std.specs.Cmp.Lexicographic.{bytes_decides}
use Rattle.apf_request_lines.specs.declared.line.RequestLine.{RequestLine}
use Rattle.apf_request_lines.specs.Lines.{line_read, request}
use Rattle.apf_request_halves.specs.Held.{placed}
use Rattle.apf_request_halves.specs.Reading.{Judges}
use Rattle.apf_request_halves.specs.declared.held.Held.{Held}
use Rattle.apf_request_halves.specs.declared.judged.Judged.{Judged}
use Rattle.apf_request_halves.proofs.Judging.{judged_answered, judged_held, judged_none, other}
use Rattle.apf_request_halves.proofs.judged.judge.Goals as goal
use Rattle.apf_request_halves.proofs.judged.judge.Goals.{in-Ok, in-Err-hold}

-- what was read of the line
read_is : (line : List ℕ) (o : Option RequestLine) {found : Option RequestLine} → line_read line ≡ Ok (option_map request found) → found ≡ o → line_read line ≡ Ok (option_map request o)
read_is line o {found} is same = is ∙ ap (λ (x : Option RequestLine). Ok (option_map request x)) same

pub returns-in-Ok-None-clause-ok : goal.returns-in-Ok-None-clause-ok
returns-in-Ok-None-clause-ok c =
    let old = map placed c.args.store.now.entries in
    subst (λ (j : Judged). Judges c.args.number c.args.line.now c.args.id.now old j.found j.is_gone old) (sym c.without.ensures)
    (judged_none c.args.number c.args.line.now c.args.id.now old (read_is c.args.line.now None c.in-Ok-None.ensures.value c.in-Ok-None.field-0-is))

pub returns-then-are_same-clause-ok : goal.returns-then-are_same-clause-ok
returns-then-are_same-clause-ok c =
    let same : c.in-Ok-Some.request.audit_id.items ≡ c.args.id.now =
    (bytes_decides c.in-Ok-Some.request.audit_id.items c.args.id.now).0 (ap (λ id. bytes_eq id c.args.id.now) (sym c.deref.ensures.value) ∙ sym c.are_same.ensures ∙ c.if-are_same.true) in
    judged_answered c.args.number c.args.line.now c.args.id.now (map placed c.args.store.now.entries) c.in-Ok-Some.request (read_is c.args.line.now (Some c.in-Ok-Some.request) c.in-Ok-Some.ensures.value c.in-Ok-Some.field-0-is) same

pub returns-clause-ok : goal.returns-clause-ok
returns-clause-ok c =
    let r = c.in-Ok-Some.request in
    let id = c.args.id.now in
    let old = map placed c.args.store.now.entries in
    let new = map placed c.hold.new.store.entries in
    let held : Held = record { number = c.args.number; schema = r.schema; level = r.level; seats = r.seats; runs_for = r.runs_for } in
    let fails : bytes_eq r.audit_id.items id ≡ false = ap (λ x. bytes_eq x id) (sym c.deref.ensures.value) ∙ sym c.are_same.ensures ∙ c.if-are_same.false in
    elim c.match-hold.branch [
      | in-Ok w ↦ rw (w.result-is, w.without-in-Ok.ensures)
          (judged_held c.args.line.now id old new (placed (r.audit_id, held)) w.in-Ok.is_gone (read_is c.args.line.now (Some r) c.in-Ok-Some.ensures.value c.in-Ok-Some.field-0-is) (other r.audit_id.items id fails) w.in-Ok.ensures.held)
      | in-Err-hold w ↦ rw w.result-is tt
    ]
