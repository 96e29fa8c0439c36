-- The rule of the table: one account explains the words and what every token knows.
use Rattle.std.specs.Prelude.{◌≡◌, ◌≢◌, ℕ, zero, suc, ◌+◌, ◌*◌, ◌-◌, ◌<◌, List, [], ◌∷◌, length, slice_index}
use mathlib.Core.Option.{some}
use lib.ListN.{get_elem?}
use Rattle.apf_words.specs.Level.{packed}
use Rattle.apf_model.specs.World.{World}
use Rattle.apf_model.specs.declared.response.Response.TheVariants.{Queue}
use Rattle.apf_gate.specs.declared.record.Shape.{Shape}
use Rattle.apf_gate.specs.declared.record.PassRecord.{PassRecord}
use Rattle.apf_gate.specs.declared.record.DeskRecord.{DeskRecord}
use Rattle.apf_gate.specs.declared.record.StationRecord.{StationRecord}
use Rattle.apf_gate.specs.declared.record.Record.{Record}
use Rattle.apf_gate.specs.declared.record.Record.TheVariants.{Pass, Desk, Station}
use Rattle.apf_words.specs.Codes.{marked}
use Rattle.apf_gate.specs.Slots.{slot_of, mark_of}
use Rattle.apf_gate.specs.Records.{level_of, new_pass, new_desk, new_station}
use Rattle.apf_gate.specs.Traces.{world_of}
use Rattle.apf_gate.specs.Account.{Account, IsSound, AreSlots, HoldsSlot}
use Rattle.atomic_table.specs.Table.{State}

-- P holds of each
abbrev pub Every : {A : Type 0} → (A → Type 0) → List A → Type 0
Every P [] = Unit {0}
Every P (x ∷ xs) = P x × Every P xs

-- the words: the level word, then the word of each slot, which has the mark and the decision of the request that holds it
pub record Packs (s : Shape) (current : ℕ → ℕ) (words : List ℕ) (w : World) : Type 0 where
  pub count : length words ≡ s.slots + 1
  pub level : slice_index words 0 ≡ packed (level_of s.widths w)
  pub decisions : (i : ℕ) → i < s.slots → slice_index words (i + 1) ≡ marked (mark_of (current i)) (w.decision (current i))

-- each token has a number of its own, a Pass by its slot
abbrev pub token_of : Record → ℕ
token_of (Desk d) = 0
token_of (Pass p) = 2 * slot_of p.number + 1
token_of (Station t) = 2 * t.number + 2

-- the record of a token is that of the account
abbrev pub IsRecord : Shape → Account → Record → Type 0
IsRecord s g (Desk d) = g.desk ≡ d
IsRecord s g (Pass p) = (p.number < length s.widths) × (g.pass p.number ≡ p) × HoldsSlot g p.number
IsRecord s g (Station t) = (t.number < s.stations) × (g.station t.number ≡ t)

-- the record is kept at this seat
abbrev pub IsKeptAt : Shape → Account → ℕ → Record → Type 0
IsKeptAt s g i x = (g.seat (token_of x) ≡ i) × IsRecord s g x

-- no two records are of one token
abbrev pub AreApart : List Record → Type 0
AreApart [] = Unit {0}
AreApart (x ∷ xs) = Every (λ y. token_of y ≢ token_of x) xs × AreApart xs

-- what a seat's view has is the records of its tokens
abbrev pub IsView : Shape → Account → ℕ → List Record → Type 0
IsView s g i v = Every (IsKeptAt s g i) v × AreApart v

pub record IsRuled (s : Shape) (t : State (Unit {0}) (List Record)) : Type 0 where
  pub account : Account
  pub sound : IsSound s account
  pub slots : AreSlots s account
  pub packs : Packs s account.current t.words (world_of s account.trace)
  pub views : (i : ℕ) (v : List Record) → get_elem? t.views i ≡ some v → IsView s account i v

-- k new Passes, from the request r on, and then the records of these
abbrev pub passes_from : Shape → ℕ → ℕ → List Record → List Record
passes_from s zero r rest = rest
passes_from s (suc k) r rest = Pass (new_pass s r) ∷ passes_from s k (r + 1) rest

abbrev pub stations_from : Shape → ℕ → ℕ → List Record → List Record
stations_from s zero k rest = rest
stations_from s (suc n) k rest = Station (new_station s k) ∷ stations_from s n (k + 1) rest

-- the stations from k on, and the Desk
abbrev pub opening_stations : Shape → ℕ → List Record
opening_stations s k = stations_from s (s.stations - k) k (Desk (new_desk s) ∷ [])

-- the first seat keeps the records of all tokens: the Passes from the request r on, the Stations, and the Desk
abbrev pub opening_records : Shape → ℕ → List Record
opening_records s r = passes_from s (s.slots - r) r (opening_stations s 0)

-- a view's first record goes to a seat of its own, and a record is joined in front
abbrev pub without_first : List Record → List Record
without_first [] = []
without_first (x ∷ xs) = xs

abbrev pub first_alone : List Record → List Record
first_alone [] = []
first_alone (x ∷ xs) = x ∷ []

-- or the last one's does
abbrev pub without_last : List Record → List Record
without_last [] = []
without_last (x ∷ []) = []
without_last (x ∷ y ∷ ys) = x ∷ without_last (y ∷ ys)

abbrev pub last_alone : List Record → List Record
last_alone [] = []
last_alone (x ∷ []) = x ∷ []
last_alone (x ∷ y ∷ ys) = last_alone (y ∷ ys)

-- the records of a seat that has one token's
abbrev pub no_shape : Shape
no_shape = record { limit = 0; response = Queue; widths = []; slots = 0; stations = 0 }

abbrev pub pass_of : List Record → PassRecord
pass_of (Pass p ∷ xs) = p
pass_of _ = new_pass no_shape 0

abbrev pub desk_of : List Record → DeskRecord
desk_of (Desk d ∷ xs) = d
desk_of _ = new_desk no_shape

abbrev pub station_of : List Record → StationRecord
station_of (Station t ∷ xs) = t
station_of _ = new_station no_shape 0
