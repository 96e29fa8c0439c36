-- What stands under a level's lock while it is held, and what each call of the lock does to it.
use Rattle.std.specs.Prelude.{◌≡◌, ℕ, ◌*◌, ◌^◌, ◌<◌, Bool, false, List, [], length, Option, Some, None}
use Rattle.apf_model.specs.declared.response.Response.TheVariants.{Queue, Reject}
use Rattle.apf_book.specs.declared.life_event.LifeEvent.{LifeEvent}
use Rattle.apf_book.specs.declared.life_stats.LifeStats.{LifeStats}
use Rattle.apf_book.specs.declared.recent_events.Copied.{Copied}
use Rattle.apf_book.specs.Life.{LifeView}
use Rattle.apf_book.specs.LifeBook.{LifeBookView, IsLifeKept, ServesLife, StrikesLife, SettlesLife}
use Rattle.apf_book.specs.LifeCalls.{SameLifeBook}
use Rattle.apf_book.specs.RecentEvents.{AreLifeStats, CopiesLate}
use Rattle.apf_line.specs.Levels.{LifeId, IsBookOf}
use Rattle.apf_line.specs.Stopped.{IsStopped}

-- the level's book, or nothing on a level without queues
abbrev pub IsUnder : LifeId → Option LifeBookView → Type 0
IsUnder k None = k.gate.shape.response ≡ Reject
IsUnder k (Some book) = (k.gate.shape.response ≡ Queue) × IsBookOf k book × (book.notes.capacity ≡ 2 * k.gate.shape.slots) × IsStopped book

-- this many were dispatched from the queues of this very book, whichever history it is of
abbrev pub DispatchesUnder : Option LifeBookView → ℕ → Option LifeBookView → Type 0
DispatchesUnder None count under' = (count ≡ 0) × (under' ≡ None)
DispatchesUnder (Some book) count under' = (book' : LifeBookView) × (under' ≡ Some book') × SameLifeBook book book' × ((v : LifeView) → IsLifeKept v book → ServesLife v book count book')

-- the request left its queue, if it waited and was seen cancelled, and then others were dispatched
pub record StrikesAndServes (book : LifeBookView) (r : ℕ) (struck : Bool) (book' : LifeBookView) : Type 0 where
  pub between : LifeBookView
  pub count : ℕ
  pub same : SameLifeBook book between
  pub strikes : (v : LifeView) → IsLifeKept v book → StrikesLife v book r struck between
  pub same_then : SameLifeBook between book'
  pub serves : (v : LifeView) → IsLifeKept v between → ServesLife v between count book'

-- what a queue was charged for the request is settled with this, if that is kept, and then others were dispatched
pub record SettlesAndServes (book : LifeBookView) (r : ℕ) (m : ℕ) (book' : LifeBookView) : Type 0 where
  pub between : LifeBookView
  pub settled : Bool
  pub count : ℕ
  pub same : SameLifeBook book between
  pub settles : (v : LifeView) → IsLifeKept v book → SettlesLife v book r m settled between
  pub same_then : SameLifeBook between book'
  pub serves : (v : LifeView) → IsLifeKept v between → ServesLife v between count book'

-- the same, of this very book. A level without queues has none
abbrev pub SettlesUnder : Option LifeBookView → ℕ → ℕ → Option LifeBookView → Type 0
SettlesUnder None r m under' = under' ≡ None
SettlesUnder (Some book) r m under' = (book' : LifeBookView) × (under' ≡ Some book') × SettlesAndServes book r m book'

-- whether the request was struck out of a queue of this very book
abbrev pub StrikesUnder : Option LifeBookView → ℕ → Bool → Option LifeBookView → Type 0
StrikesUnder None r struck under' = (struck ≡ false) × (under' ≡ None)
StrikesUnder (Some book) r struck under' = (book' : LifeBookView) × (under' ≡ Some book') × StrikesAndServes book r struck book'

-- events of this very book, of whichever history it is, of fewer than 2^64 that there ever were. A level without queues has none
abbrev pub CopiesUnder : Option LifeBookView → ℕ → List LifeEvent → Copied → List LifeEvent → Type 0
CopiesUnder None from into answer into' = (answer.from ≡ from) × (answer.count ≡ 0) × (into' ≡ into)
CopiesUnder (Some book) from into answer into' = (v : LifeView) → IsLifeKept v book → length v.history < 2 ^ 64 → CopiesLate book.notes.capacity v.history from into answer into'

-- the numbers of this very book, of whichever history it is, of fewer than 2^64 events
abbrev pub AreStatsUnder : Option LifeBookView → LifeStats → Type 0
AreStatsUnder None stats = AreLifeStats stats []
AreStatsUnder (Some book) stats = (v : LifeView) → IsLifeKept v book → length v.history < 2 ^ 64 → AreLifeStats stats v.history
