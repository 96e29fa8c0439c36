-- The texts on a tape.
use Rattle.std.proofs.Common.{◌≡◌, Some, None, IfOk, true, subst, sym, ap, ◌∙◌}
use Rattle.serde_json.specs.Find.{as_array}
use Rattle.apf_values.specs.Held.{held_data, is_held}
use Rattle.apf_values.specs.Texts.{texts_in, texts_read}
use Rattle.apf_values.proofs.Listed.{if_ok}
use Rattle.apf_values.proofs.Lookups.{got_items}
use Rattle.apf_values.proofs.texts.texts_in.Goals as goal

pub returns-in-Some-items : goal.returns-in-Some-items
returns-in-Some-items c =
    let some = subst (λ h. is_held h ≡ true) c.in-Tape.is c.args.array.now.is_held in
    let has = got_items c.in-Tape.element (Some c.in-Some-items.items) some c.in-Some-items.ensures in
    let r = c.on_tape.result in
    subst (λ h. IfOk r (λ texts. texts_read texts.items ≡ texts_in (as_array (held_data h)))) (sym c.in-Tape.is)
    (if_ok r (λ texts read. read has.0 has.1 has.2 has.3 ∙ sym (ap texts_in has.4)) c.on_tape.ensures)

pub returns-in-None-items : goal.returns-in-None-items
returns-in-None-items c =
    let some = subst (λ h. is_held h ≡ true) c.in-Tape.is c.args.array.now.is_held in
    let none = got_items c.in-Tape.element None some c.in-None-items.ensures in
    let all = texts_read c.new-in-None-items.result.items in
    subst (λ h. all ≡ texts_in (as_array (held_data h))) (sym c.in-Tape.is) (ap texts_read c.new-in-None-items.ensures.items ∙ sym (ap texts_in none))
