-- The numbers sum up.
use Rattle.std.proofs.Common.{sym, subst}
use Rattle.apf_book.specs.RecentEvents.{RecentEventsView, AreRecentEventsOf}
use Rattle.apf_book.proofs.Noting.{summed}
use Rattle.apf_book.proofs.recent_events.RecentEvents.count.Goals as goal

pub returns : goal.returns
returns g c h is few = summed h _ (subst (λ (n : RecentEventsView). AreRecentEventsOf h n) (sym c.self.view_is) is) few
