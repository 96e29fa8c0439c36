-- What the calls under the lock tell of a history that the level may have had.
use Rattle.std.specs.Prelude.{◌≡◌, ℕ, ◌*◌, ◌^◌, ◌<◌, List, length, All}
use Rattle.apf_gate.specs.declared.record.Entry.{Entry}
use Rattle.apf_gate.specs.declared.ticket.Ticket.{Ticket}
use Rattle.apf_gate.specs.Slots.{IsTicket}
use Rattle.apf_book.specs.declared.life_event.LifeEvent.{LifeEvent}
use Rattle.apf_book.specs.declared.life_stats.LifeStats.{LifeStats}
use Rattle.apf_book.specs.declared.recent_events.Copied.{Copied}
use Rattle.apf_book.specs.Life.{LifeView}
use Rattle.apf_book.specs.RecentEvents.{AreLifeStats, CopiesLate}
use Rattle.apf_line.specs.Levels.{LifeId, IsHistoryOf}

-- events of a history that the level may have had, of fewer than 2^64 that there ever were; the newest are kept, two for each slot
pub record IsCopied (k : LifeId) (from : ℕ) (into : List LifeEvent) (answer : Copied) (into' : List LifeEvent) : Type 0 where
  pub view : LifeView
  pub trace : List Entry
  pub of_level : IsHistoryOf k trace view
  pub copies : length view.history < 2 ^ 64 → CopiesLate (2 * k.gate.shape.slots) view.history from into answer into'

-- the numbers of a history that the level may have had, of fewer than 2^64 events
pub record AreStatsOf (k : LifeId) (stats : LifeStats) : Type 0 where
  pub view : LifeView
  pub trace : List Entry
  pub of_level : IsHistoryOf k trace view
  pub stats_are : length view.history < 2 ^ 64 → AreLifeStats stats view.history

-- for each slot the ticket of a request that somebody sleeps for, or slept for
pub record AreSleepers (k : LifeId) (sleepers : List Ticket) : Type 0 where
  pub count : length sleepers ≡ k.gate.shape.slots
  pub tickets : All (λ (t : Ticket). IsTicket k.gate.shape t.number) sleepers
