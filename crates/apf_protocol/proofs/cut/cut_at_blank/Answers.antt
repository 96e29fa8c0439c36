use Rattle.std.proofs.Common.{◌≡◌, ◌+◌, ◌-◌, None, arith, rules, sym, length, drop, length-drop}
use Rattle.std.proofs.lemmas.List.{take_all}
use Rattle.apf_protocol.proofs.Cuts.{cut_at, uncut}
use Rattle.apf_protocol.proofs.cut.cut_at_blank.Goals as goal

pub returns-in_err-end : goal.returns-in_err-end
returns-in_err-end c =
    let none : c.from_residual.result ≡ None = search rules in
    rw none (sym (uncut c.args.bytes.now c.in_err-end.ensures.found))

pub returns : goal.returns
returns c =
    let found = c.in_ok-end.ensures.found in
    let rest = drop (c.in_ok-end.end + 1) c.args.bytes.now in
    rw (take_all (length c.args.bytes.now - (c.in_ok-end.end + 1)) rest (omega (arith, length-drop (c.in_ok-end.end + 1) c.args.bytes.now)))
    (sym (cut_at c.args.bytes.now c.in_ok-end.end found.0 found.1 found.2))
