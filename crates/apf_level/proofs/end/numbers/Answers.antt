use Rattle.std.proofs.Common.{◌≡◌, ℕ, zero, suc, refl, sym, subst, [], arith}
use Rattle.apf_history.specs.Tally.{tally}
use Rattle.apf_model.specs.Outcome.{stats_of}
use Rattle.apf_book.specs.declared.stats.Stats.{Stats}
use Rattle.apf_book.specs.LedgerKept.{AreStats}
use Rattle.apf_level.specs.declared.hearing.UnderLock.{UnderLock}
use Rattle.apf_level.specs.UnderLock.{log_in}
use Rattle.apf_level.proofs.end.numbers.Goals as goal

none_wait : (n : ℕ) → tally (λ q. 0) n ≡ 0
none_wait zero = refl
none_wait (suc n) = let h = none_wait n in omega arith

abbrev no_numbers : Stats
no_numbers = record { entered = 0; dispatched = 0; struck = 0; full = 0; waiting = 0 }

of_nothing : (deck : ℕ) → AreStats no_numbers (stats_of deck [])
of_nothing deck = record { entered = refl; dispatched = refl; struck = refl; full = refl; waiting = sym (none_wait deck) }

pub returns-in-Desk : goal.returns-in-Desk
returns-in-Desk g c =
    subst (λ (k : UnderLock). AreStats no_numbers (stats_of g.K.Naming.level.opening.sizes.deck (log_in k))) (sym c.in-Desk.is) (of_nothing g.K.Naming.level.opening.sizes.deck)
