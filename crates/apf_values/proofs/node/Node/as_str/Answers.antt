-- The text on a tape.
use Rattle.std.proofs.Common.{◌≡◌, true, subst, sym, option_map}
use Rattle.serde_json.specs.Find.{as_str}
use Rattle.apf_values.specs.Held.{held_data, is_held}
use Rattle.apf_values.proofs.Lookups.{got_text}
use Rattle.apf_values.proofs.node.Node.as_str.Goals as goal

pub returns-in-Tape : goal.returns-in-Tape
returns-in-Tape c =
    let read = option_map (λ s. s.now) c.as_str-in-Tape.result in
    let some = subst (λ h. is_held h ≡ true) c.in-Tape.is c.args.self.now.is_held in
    subst (λ h. read ≡ as_str (held_data h)) (sym c.in-Tape.is) (got_text c.in-Tape.element read some c.as_str-in-Tape.ensures)
