-- What is drawn of a level over time: its seats in use, who waits, who was rejected, and its limit.
use Rattle.std.specs.Prelude.{◌≡◌, ℕ, suc, Bool, true, false, List, [], ◌∷◌, ◌++◌, Option, Some, None}
use Rattle.std.specs.List.{flat_map}
use Rattle.apf_words.specs.declared.decision.Decision.{Decision}
use Rattle.apf_words.specs.declared.decision.Decision.TheVariants.{Execute, QueueFull, ConcurrencyLimit, Closed, Cancelled}
use Rattle.apf_stream.specs.declared.deed.NewLimit.{NewLimit}
use Rattle.apf_stream.specs.declared.ended.Ended.{Ended}
use Rattle.apf_strips.specs.Spans.{AreBins, Span}
use Rattle.apf_strips.specs.declared.strip.Strip.{Strip}
use Rattle.apf_cluster.specs.declared.drawn.Drawn.{Drawn}

-- this much of an amount from one time until another
abbrev pub span : (amount from to : ℕ) → Span
span amount from to = record { amount = amount; from = from; to = to }

-- the seats of a request that was told, from when it was given them until it was over; none if it was given none
abbrev pub seats_by : (width over_at : ℕ) → Option ℕ → List Span
seats_by width over_at None = []
seats_by width over_at (Some since) = span width since over_at ∷ []

abbrev pub seats_of : Ended → List Span
seats_of e = seats_by e.hold.asked.width e.over_at e.since

-- one that waits, from its arrival until it was given its seats, or was over
abbrev pub waits_until : (over_at : ℕ) → Option ℕ → ℕ
waits_until over_at None = over_at
waits_until over_at (Some since) = since

abbrev pub waits_of : Ended → List Span
waits_of e = span 1 e.hold.asked.times.arrives_at (waits_until e.over_at e.since) ∷ []

-- one that was rejected, in the microsecond in which it was
abbrev pub rejected_by : Decision → ℕ → List Span
rejected_by Execute at = []
rejected_by QueueFull at = span 1 at (suc at) ∷ []
rejected_by ConcurrencyLimit at = span 1 at (suc at) ∷ []
rejected_by Closed at = span 1 at (suc at) ∷ []
rejected_by Cancelled at = []

abbrev pub rejected_of : Ended → List Span
rejected_of e = rejected_by e.decision e.over_at

-- the limits that were in force one after another, of which the first one was this from that time on, and each until the next one was set
abbrev pub limits_of : (limit since : ℕ) → List NewLimit → List Span
limits_of limit since [] = []
limits_of limit since (n ∷ under) = span limit since n.at ∷ limits_of n.limit n.at under

-- the last of them
abbrev pub last_limit : ℕ → List NewLimit → ℕ
last_limit limit [] = limit
last_limit limit (n ∷ under) = last_limit n.limit under

-- and from when on it is in force
abbrev pub last_since : ℕ → List NewLimit → ℕ
last_since since [] = since
last_since since (n ∷ under) = last_since n.at under

-- these were told
pub record AreToldIn (told : List Ended) (s : Strip) : Type 0 where
  pub seats : AreBins (flat_map seats_of told) s.seats
  pub waiting : AreBins (flat_map waits_of told) s.waiting
  pub rejected : AreBins (flat_map rejected_of told) s.rejected

-- these were told, and the limit, which was this one at first, was set so, if a strip is drawn
abbrev pub AreInStrip : ℕ → List NewLimit → List Ended → Option Strip → Type 0
AreInStrip first under told None = Unit {0}
AreInStrip first under told (Some s) = AreToldIn told s × AreBins (limits_of first 0 under) s.limit

-- the same, and which limit is in force
pub record AreDrawn (first : ℕ) (under : List NewLimit) (told : List Ended) (d : Drawn) : Type 0 where
  pub limit : d.limit ≡ last_limit first under
  pub since : d.since ≡ last_since 0 under
  pub strip : AreInStrip first under told d.strip

-- a strip is drawn exactly if it is asked for
abbrev pub HasStrip : Bool → Option Strip → Type 0
HasStrip true None = ⊥
HasStrip true (Some s) = Unit {0}
HasStrip false None = Unit {0}
HasStrip false (Some s) = ⊥

-- there is a strip where there was one, and only there
abbrev pub StillHas : Option Strip → Option Strip → Type 0
StillHas strip strip' = (draws : Bool) → HasStrip draws strip → HasStrip draws strip'

abbrev pub DrawsStill : Drawn → Drawn → Type 0
DrawsStill d d' = StillHas d.strip d'.strip

-- whatever was told before: these were told too
abbrev pub DrawsTold : List Ended → Drawn → Drawn → Type 0
DrawsTold ends d d' = (first : ℕ) (under : List NewLimit) (told : List Ended) → AreDrawn first under told d → AreDrawn first under (told ++ ends) d'

-- whatever was set before: this limit was set too
abbrev pub DrawsLimit : NewLimit → Drawn → Drawn → Type 0
DrawsLimit new d d' = (first : ℕ) (under : List NewLimit) (told : List Ended) → AreDrawn first under told d → AreDrawn first (under ++ new ∷ []) told d'

-- The strip of what was told and set, where the last limit was in force until this time. None where none is drawn
abbrev pub IsStripBy : ℕ → ℕ → List NewLimit → List Ended → Option Strip → Type 0
IsStripBy end first under told None = Unit {0}
IsStripBy end first under told (Some s) = AreToldIn told s × AreBins (limits_of first 0 under ++ span (last_limit first under) (last_since 0 under) end ∷ []) s.limit
