use Rattle.std.proofs.Common.{◌≡◌, drop, map, string_bytes}
use Rattle.apf_matching.specs.Matches.{is_among}
use Rattle.apf_matching.proofs.texts.is_among.Given as goal

abbrev pub invariant-loop-one : goal.invariant-loop-one
invariant-loop-one l =
    is_among (map string_bytes l.texts) l.text ≡ is_among (map string_bytes (drop l.one-index l.texts)) l.text
