use Rattle.std.proofs.Common.{◌≡◌, ◌∷◌, ◌++◌, get_or, rules, arith}
use Rattle.apf_flows.specs.Json.{obeyed_by, shown_by}
use Rattle.apf_flows.proofs.Written.{appends_more, one_further}
use Rattle.apf_flows.proofs.json.write_bytes.Goals as goal

pub loop-byte-preserved : goal.loop-byte-preserved
loop-byte-preserved g c =
    let inv = c.loop-byte.invariant in
    let byte = c.in-Some.byte.now in
    let further = c.in-Some.further.now in
    let shown = shown_by (obeyed_by byte (get_or further 0 0) (get_or further 1 0)) byte in
    let is : c.loop-byte.rest.now ≡ byte ∷ further = search rules in
    let none : c.loop-byte.passed ≡ 0 = omega arith in (
      inv.0 ++ shown,
      appends_more _ _ _ inv.0 shown inv.1 c.in_ok-passed.ensures.text,
      one_further byte further c.loop-byte.rest.now c.loop-byte.passed c.in_ok-passed.passed inv.0 _ is none c.in_ok-passed.ensures.more inv.2,
    )
