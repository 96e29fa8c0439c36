use Rattle.std.proofs.Common.{◌≡◌, None, rules}
use Rattle.apf_matching.proofs.first.schema_for.Goals as goal

pub unreachable-requires : goal.unreachable-requires
unreachable-requires c =
    let nowhere : c.schema_among.result ≡ None = search rules in
    c.schema_among.ensures.some (rw c.as_slice.ensures.value c.requires) nowhere
