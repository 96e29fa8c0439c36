-- What stands under a level's lock while it is held, and what each call of the lock does to it.
use Rattle.std.specs.Prelude.{◌≡◌, ℕ, Bool, false, MatchBool, List, [], Option, Some, None}
use Rattle.apf_history.specs.declared.events.Event.{Event}
use Rattle.apf_model.specs.declared.response.Response.TheVariants.{Queue}
use Rattle.apf_book.specs.BookView.{BookView}
use Rattle.apf_book.specs.BookCalls.{Dispatches, StrikesOut}
use Rattle.apf_book.specs.BookResults.{SameBook, AfterStrike}
use Rattle.apf_book.specs.Stopped.{IsStopped}
use Rattle.apf_level.specs.Levels.{LevelId, IsBookOf, HasNoQueues}

-- the level's book, or nothing on a level without queues
abbrev pub IsUnder : LevelId → Option BookView → Type 0
IsUnder k None = HasNoQueues k
IsUnder k (Some book) = (k.gate.shape.response ≡ Queue) × IsBookOf k book × IsStopped book.ledger book.desk.desk.knows

-- the log of what stands there, the newest event first. A level without queues has none
abbrev pub log_under : Option BookView → List Event
log_under None = []
log_under (Some book) = book.ledger.history

-- this many were dispatched from the queues of this very book
abbrev pub DispatchesUnder : Option BookView → ℕ → Option BookView → Type 0
DispatchesUnder None count under' = (count ≡ 0) × (under' ≡ None)
DispatchesUnder (Some book) count under' = (book' : BookView) × (under' ≡ Some book') × SameBook book book' × Dispatches book count book'

-- the request left its queue, if it waited and was seen cancelled, and others were dispatched then; else the log stays
pub record StrikesAndServes (book : BookView) (r : ℕ) (struck : Bool) (book' : BookView) : Type 0 where
  pub between : BookView
  pub same : SameBook book between
  pub strikes : StrikesOut book r struck between
  pub after : AfterStrike book r struck between
  pub serves : MatchBool struck ((count : ℕ) × SameBook between book' × Dispatches between count book') (book' ≡ between)

-- whether the request was struck out of a queue of this very book
abbrev pub StrikesUnder : Option BookView → ℕ → Bool → Option BookView → Type 0
StrikesUnder None r struck under' = (struck ≡ false) × (under' ≡ None)
StrikesUnder (Some book) r struck under' = (book' : BookView) × (under' ≡ Some book') × StrikesAndServes book r struck book'
