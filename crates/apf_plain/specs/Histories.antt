-- What the plain program's values mean.
use Rattle.std.specs.Prelude.{◌≡◌, ◌≢◌, ℕ, ◌*◌, ◌<◌, ◌≤◌, ◌==◌, ◌||◌, Bool, List, [], ◌∷◌, length, take, drop, slice_index, slice_index_or, false, Option, Some, None}
use Rattle.apf_words.specs.declared.decision.Decision.{Decision}
use Rattle.apf_words.specs.declared.decision.Decision.TheVariants.{Execute, QueueFull, Cancelled}
use Rattle.apf_history.specs.declared.events.Event.{Event}
use Rattle.apf_history.specs.declared.events.Event.TheVariants.{Enter, Full, Dispatch, Strike}
use Rattle.apf_plain.specs.declared.virtual_time.Numbers.{Numbers as PlainNumbers}
use Rattle.apf_plain.specs.declared.heads.Head.{Head}
use Rattle.apf_plain.specs.declared.stats.Stats.{Stats as PlainStats}
use Rattle.apf_history.specs.Outcome.{Stats}
use Rattle.apf_history.specs.Fair.{Numbers, finish, steps_round}

-- the hand of a request, where hands of this size stand one after another
abbrev pub hand_in : List ℕ → ℕ → ℕ → List ℕ
hand_in hands size r = take size (drop (size * r) hands)

-- the decisions that a list says, in the order of the requests
abbrev pub decision_in : List (Option Decision) → ℕ → Option Decision
decision_in decisions r = slice_index_or decisions r None

-- the requests that took their seats on arrival
abbrev pub took_in : List Bool → ℕ → Bool
took_in took r = slice_index_or took r false

-- the request of an event is decided as the event asks
abbrev pub IsDecidedSo : (ℕ → Option Decision) → Event → Type 0
IsDecidedSo decision (Enter r q) = Unit {0}
IsDecidedSo decision (Full r q) = decision r ≡ Some QueueFull
IsDecidedSo decision (Dispatch r q) = decision r ≡ Some Execute
IsDecidedSo decision (Strike r q) = decision r ≡ Some Cancelled

abbrev pub AreDecided : (ℕ → Option Decision) → List Event → Type 0
AreDecided decision [] = Unit {0}
AreDecided decision (e ∷ h) = IsDecidedSo decision e × AreDecided decision h

-- r was refused, as its queue was full
abbrev pub has_full : List Event → ℕ → Bool
has_full [] r = false
has_full (Full j q ∷ h) r = (j == r) || has_full h r
has_full (_ ∷ h) r = has_full h r

-- r was dispatched
abbrev pub has_dispatch : List Event → ℕ → Bool
has_dispatch [] r = false
has_dispatch (Dispatch j q ∷ h) r = (j == r) || has_dispatch h r
has_dispatch (_ ∷ h) r = has_dispatch h r

-- these are the stats of a history
pub record AreStats (of : Stats) (s : PlainStats) : Type 0 where
  pub entered : s.entered ≡ of.entered
  pub dispatched : s.dispatched ≡ of.dispatched
  pub struck : s.struck ≡ of.struck
  pub full : s.full ≡ of.full
  pub waiting : s.waiting ≡ of.waiting

-- the plain numbers of this many queues are these
pub record AreNumbers (queues : ℕ) (v : Numbers) (p : PlainNumbers) : Type 0 where
  pub one_for_each : length p.next.items ≡ queues
  pub next : (q : ℕ) → q < queues → slice_index p.next.items q ≡ v.next q
  pub virtual_time : p.virtual_time ≡ v.virtual_time
  pub robin : p.robin ≡ v.robin

-- this is the choice among the first i queues, or they are all empty
pub record IsBestHead (queues : ℕ) (widths : List ℕ) (queue : ℕ → List ℕ) (v : Numbers) (i : ℕ) (b : Head) : Type 0 where
  pub is_queue : b.queue < i
  pub is_waited_in : queue b.queue ≢ []
  pub finish_is : b.finish ≡ finish widths queue v b.queue
  pub steps_is : b.steps ≡ steps_round queues v.robin b.queue
  pub has_least_finish : (p : ℕ) → p < i → queue p ≢ [] → b.finish ≤ finish widths queue v p
  pub is_reached_first : (p : ℕ) → p < i → queue p ≢ [] → finish widths queue v p ≡ b.finish → b.steps ≤ steps_round queues v.robin p

abbrev pub IsBestBelow : ℕ → List ℕ → (ℕ → List ℕ) → Numbers → ℕ → Option Head → Type 0
IsBestBelow queues widths queue v i None = (p : ℕ) → p < i → queue p ≡ []
IsBestBelow queues widths queue v i (Some b) = IsBestHead queues widths queue v i b
