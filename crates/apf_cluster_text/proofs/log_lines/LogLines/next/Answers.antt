-- One turn after the other, up to a line.
use Rattle.std.proofs.Common.{◌≡◌, Err, rules}
use Rattle.apf_cluster_text.proofs.Finding.{turned_on}
use Rattle.apf_cluster_text.proofs.log_lines.LogLines.next.Goals as goal

pub returns-in_err-found : goal.returns-in_err-found
returns-in_err-found g c =
    let failed : c.from_residual.result ≡ Err c.in_err-found.field-0.0 = search (c.from_residual.ensures, rules) in
    rw failed (λ bytes before h.
    turned_on (g.R.Read.remaining c.args.input.now) (g.R.Read.remaining c.turns.input) (g.R.Read.remaining c.turn.new.input) bytes before c.turns.self c.turn.new.self
    (c.turns.invariant bytes before h) c.in_err-found.ensures)
