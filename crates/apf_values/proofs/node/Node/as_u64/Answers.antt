-- The whole number on a tape.
use Rattle.std.proofs.Common.{◌≡◌, Some, None, true, subst, sym, ◌∙◌}
use Rattle.apf_files.specs.JsonFile.{whole_of}
use Rattle.apf_values.specs.Held.{held_data, is_held}
use Rattle.apf_values.proofs.Lookups.{got_number}
use Rattle.apf_values.proofs.node.Node.as_u64.Goals as goal

pub returns-in-Some : goal.returns-in-Some
returns-in-Some c =
    let some = subst (λ h. is_held h ≡ true) c.in-Tape.is c.args.self.now.is_held in
    let n = c.whole_number.result in
    subst (λ h. n ≡ whole_of (held_data h)) (sym c.in-Tape.is) (c.whole_number.ensures ∙ got_number c.in-Tape.element (Some c.in-Some.text.now) some c.in-Some.ensures)

pub returns-in-None : goal.returns-in-None
returns-in-None c =
    let some = subst (λ h. is_held h ≡ true) c.in-Tape.is c.args.self.now.is_held in
    subst (λ h. None ≡ whole_of (held_data h)) (sym c.in-Tape.is) (got_number c.in-Tape.element None some c.in-None.ensures)
