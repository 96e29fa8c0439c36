use Rattle.apf_strips.specs.declared.strip.Strip.{Strip}
use Rattle.apf_cluster.proofs.Spans.{one_more}
use Rattle.apf_cluster.proofs.drawn.add.Goals as goal

pub returns-clause-told : goal.returns-clause-told
returns-clause-told c =
    λ told are.
    let s : Strip = c.args.strip.now in
    let s' : Strip = record s { seats = c.add_seats.new.series; waiting = c.add_wait.new.series; rejected = c.add_rejection.new.series } in
    one_more told c.args.ended.now s s' c.in_ok-add_seats.ensures c.in_ok-add_wait.ensures c.in_ok-add_rejection.ensures are
