-- With a sign and without.
use Rattle.std.proofs.Common.{◌≡◌, false, None, subst, sym, ap, ◌∙◌}
use Rattle.std.specs.Prelude.{option_and_then}
use Rattle.serde_json.specs.Find.{as_u64}
use Rattle.serde_json.specs.Read.{number_from}
use Rattle.apf_values.specs.Usual.{whole_of_text}
use Rattle.apf_values.proofs.Numbers.{signed, not_signed, whole_unsigned}
use Rattle.apf_values.proofs.usual.whole_number.Goals as goal

pub returns-then-starts_with : goal.returns-then-starts_with
returns-then-starts_with c = subst (λ s. None ≡ whole_of_text s) c.as_bytes-bytes.ensures.value (signed c.as_bytes-bytes.result.now (sym c.starts_with.ensures.value ∙ c.if-starts_with.true))

pub returns : goal.returns
returns c =
    whole_unsigned c.scan.result c.to_u64.result c.to_u64.ensures
    ∙ ap (λ p. option_and_then as_u64 (number_from false p)) c.scan.ensures.parts
    ∙ sym (not_signed c.as_bytes-bytes.result.now (sym c.starts_with.ensures.value ∙ c.if-starts_with.false))
    ∙ ap whole_of_text c.as_bytes-bytes.ensures.value
