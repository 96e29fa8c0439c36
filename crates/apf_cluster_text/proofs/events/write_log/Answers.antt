-- One line more, or the first fault.
use Rattle.std.proofs.Common.{◌≡◌, Err, sym, ◌∙◌, subst, rules}
use Rattle.apf_cluster_text.specs.Log.{IsRefused, IsToldAt, short_fault}
use Rattle.apf_cluster_text.specs.LogLines.{held}
use Rattle.apf_cluster_text.specs.declared.events.LogFault.TheVariants.{TooLong}
use Rattle.apf_cluster_text.proofs.Judging.{held_fault, matched_more, refused_held, refused_long, told_at}
use Rattle.apf_cluster_text.proofs.events.write_log.Goals as goal

pub returns-in_err-write_line-in-Ok-Some-Held-clause-err : goal.returns-in_err-write_line-in-Ok-Some-Held-clause-err
returns-in_err-write_line-in-Ok-Some-Held-clause-err g c =
    let fault = c.in_err-write_line-in-Ok-Some-Held.field-0.0 in
    let failed : c.from_residual.result ≡ Err fault = search (c.from_residual.ensures, rules) in
    let answers = rw (c.in-Ok-Some-Held.field-0-is, c.in-Ok-Some-Held.field-0-0-is) at c.in-Ok-Some-Held.ensures in
    let same = held_fault c.next.new.self c.number.result c.line.result.now c.is_ended.result c.number.ensures c.line.ensures c.is_ended.ensures in
    rw failed (λ read.
    told_at (g.R.Read.remaining c.args.input.now) (g.R.Read.remaining c.next.new.input) fault (short_fault c.next.new.self.number (held c.next.new.self))
    (subst (IsToldAt fault) same c.in_err-write_line-in-Ok-Some-Held.ensures.err)
    (λ is. refused_held (g.R.Read.remaining c.args.input.now) (g.R.Read.remaining c.lines.input) (g.R.Read.remaining c.next.new.input) c.lines.log c.next.new.self (c.lines.invariant read) fault answers is))

pub returns-in-Ok-Some-TooLong-clause-err : goal.returns-in-Ok-Some-TooLong-clause-err
returns-in-Ok-Some-TooLong-clause-err g c =
    let answers = rw (c.in-Ok-Some-TooLong.field-0-is, c.in-Ok-Some-TooLong.field-0-0-is) at c.in-Ok-Some-TooLong.ensures in
    λ read.
    subst (λ n. IsRefused (g.R.Read.remaining c.args.input.now) (g.R.Read.remaining c.next.new.input) (TooLong n)) (sym c.number-in-Ok-Some-TooLong.ensures)
    (refused_long (g.R.Read.remaining c.args.input.now) (g.R.Read.remaining c.lines.input) (g.R.Read.remaining c.next.new.input) c.lines.log c.next.new.self (c.lines.invariant read) answers)

pub lines-preserved : goal.lines-preserved
lines-preserved g c =
    let answers = rw (c.in-Ok-Some-Held.field-0-is, c.in-Ok-Some-Held.field-0-0-is) at c.in-Ok-Some-Held.ensures in
    let same = held_fault c.next.new.self c.number.result c.line.result.now c.is_ended.result c.number.ensures c.line.ensures c.is_ended.ensures in
    λ read.
    matched_more (g.R.Read.remaining c.args.input.now) (g.R.Read.remaining c.lines.input) (g.R.Read.remaining c.next.new.input) c.lines.log c.next.new.self (c.lines.invariant read) answers
    (sym same ∙ c.in_ok-write_line-in-Ok-Some-Held.ensures.ok)
