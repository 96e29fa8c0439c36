-- The sum at the place of the last change until the time.
use Rattle.std.proofs.Common.{◌≤◌, List, length, sym, ◌∙◌, ap, arith}
use Rattle.apf_picture.specs.declared.totals.Change.{Change}
use Rattle.apf_picture.specs.Changes.{sum_until, sum_of_first}
use Rattle.apf_picture.proofs.Counts.{sum_at, sums_count}
use Rattle.apf_picture.proofs.totals.Totals.until.Goals as goal

pub index-requires : goal.index-requires
index-requires c = omega (arith, sums_count c.self.inside.changes.items c.self.inside.sums.items c.self.invariant.1, c.count_until.ensures.within, c.as_slice.ensures.len)

pub returns : goal.returns
returns c =
    let changes = c.self.inside.changes.items in
    let within : c.count_until.result ≤ length changes = omega (arith, c.count_until.ensures.within, c.as_slice.ensures.len) in
    c.index.ensures
    ∙ sum_at changes c.self.inside.sums.items c.count_until.result c.index.result.now c.self.invariant.1 within
    ∙ ap (λ (cs : List Change). sum_of_first cs c.count_until.result) (sym c.as_slice.ensures.value)
    ∙ c.count_until.ensures.count
    ∙ ap (sum_until c.args.time) (c.as_slice.ensures.value ∙ c.self.view_is)
