-- The percentiles of what is kept.
use Rattle.std.proofs.Common.{◌≡◌, ℕ, ◌<◌, Bool, List, length, sym, ap, ◌∙◌, subst, arith}
use Rattle.apf_times.specs.Waits.{IsKeptPercentile, is_exact}
use Rattle.apf_rows.specs.Accounts.{IsAccount, IsRank, waits_of}
use Rattle.apf_rows.proofs.Keeping.{kept_exact, kept_number, rank_of}
use Rattle.apf_rows.proofs.account.Account.figures.Goals as goal

pub invariant_of-self : goal.invariant_of-self
invariant_of-self c =
    let i = c.self.invariant in
    record { bounded = i.bounded; waits = i.waits; kept = c.percentile-high.ensures.kept i.waits (c.percentile-median.ensures.kept i.waits i.kept); many = i.many }

pub returns-clause-figures : goal.returns-clause-figures
returns-clause-figures c told is =
    let was = subst (IsAccount told) (sym c.self.view_is) is in
    let waits = waits_of told in
    let m = c.percentile-median.ensures in
    let h = c.percentile-high.ensures in
    let after = m.kept waits was.waits in
    let last = h.kept waits after in
    let exact_high : c.is_exact.result ≡ is_exact c.percentile-median.new.self = c.is_exact.ensures ∙ h.exact in
    let exact_median : c.is_exact.result ≡ is_exact c.self.inside.waits = exact_high ∙ m.exact in
    record {
      sums = was.sums;
      exact = c.is_exact.ensures ∙ kept_exact waits c.percentile-high.new.self last;
      median = subst (λ (b : Bool). IsRank b 50 waits c.percentile-median.result) (sym exact_median)
          (rank_of (is_exact c.self.inside.waits) 50 c.percentile-median.result waits (λ z. m.none (kept_number waits c.self.inside.waits was.waits ∙ z)) (λ low. m.nearest waits was.waits low));
      high = subst (λ (b : Bool). IsRank b 99 waits c.percentile-high.result) (sym exact_high)
          (rank_of (is_exact c.percentile-median.new.self) 99 c.percentile-high.result waits (λ z. h.none (kept_number waits c.percentile-median.new.self after ∙ z)) (λ low. h.nearest waits after low));
    }

pub returns-clause-same : goal.returns-clause-same
returns-clause-same c told is =
    let was = subst (IsAccount told) (sym c.self.view_is) is in
    record { sums = was.sums; waits = c.percentile-high.ensures.kept (waits_of told) (c.percentile-median.ensures.kept (waits_of told) was.waits) }
