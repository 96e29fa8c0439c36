-- A numeral without a sign.
use Rattle.std.proofs.Common.{◌≡◌, ◌==◌, ℕ, List, false, Some, IfSome, get_or, ap, refl, subst, ne_eqb, ◌∙◌}
use Rattle.fast_float.specs.Text.{scan}
use Rattle.serde_json.specs.Data.{unsigned}
use Rattle.serde_json.specs.Read.{number_from, number_of}
use Rattle.apf_traces.proofs.Members.{unsigned_of}
use Rattle.apf_traces.proofs.flat.whole_number.Goals as goal

pub returns : goal.returns
unfolding number_of
returns c =
    let s : List ℕ = c.as_bytes-bytes.result.now in
    let unsigned_first : (get_or s 0 0 == 45) ≡ false = ne_eqb (get_or s 0 0) 45 c.if-bytes-eq45.false in
    let read : number_from false (scan s) ≡ number_of s = rw unsigned_first refl in
    let whole : number_from false c.scan.result ≡ number_of c.args.text.now = ap (number_from false) c.scan.ensures.parts ∙ read ∙ ap number_of c.as_bytes-bytes.ensures.value in
    subst (λ m. IfSome c.to_u64.result (λ n. m ≡ Some (unsigned n))) whole (unsigned_of c.scan.result c.to_u64.result c.to_u64.ensures)
