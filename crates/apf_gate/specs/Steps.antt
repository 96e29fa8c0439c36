-- What a step tells the token that makes it.
use Rattle.std.specs.Prelude.{◌≡◌, ◌≢◌, ◌⊎◌, ℕ, ◌≤◌, ◌/◌, ◌==◌, MatchBool, true, List, [], ◌∷◌, ◌++◌, length, Option, Some, None}
use Rattle.apf_words.specs.Codes.{marked}
use Rattle.apf_words.specs.Level.{Level, packed}
use Rattle.apf_words.specs.Limits.{max_limit, max_requests, max_width}
use Rattle.apf_words.specs.declared.decision.Decision.{Decision}
use Rattle.apf_model.specs.declared.moves.Move.{Move}
use Rattle.apf_model.specs.declared.response.Response.TheVariants.{Reject}
use Rattle.apf_model.specs.declared.moves.Stage.TheVariants.{Away}
use Rattle.apf_model.specs.World.{World}
use Rattle.apf_model.specs.Schedule.{IsSchedule}
use Rattle.apf_gate.specs.declared.record.Actor.{Actor}
use Rattle.apf_gate.specs.declared.record.Entry.{Entry}
use Rattle.apf_gate.specs.declared.record.Knowledge.{Knowledge}
use Rattle.apf_gate.specs.declared.record.PassRecord.{PassRecord}
use Rattle.apf_gate.specs.declared.record.DeskRecord.{DeskRecord}
use Rattle.apf_gate.specs.declared.record.StationRecord.{StationRecord}
use Rattle.apf_gate.specs.declared.record.Record.{Record}
use Rattle.apf_gate.specs.declared.record.Record.TheVariants.{Pass, Desk, Station}
use Rattle.apf_gate.specs.Records.{level_of, told_of, saw_level, saw_decision, KnowsMore}
use Rattle.apf_gate.specs.Slots.{mark_of}
use Rattle.apf_gate.specs.Traces.{opening_of, entry, moves, NoneOf, world_of}
use Rattle.apf_gate.specs.Account.{IsIdle}
use Rattle.apf_gate.specs.Rule.{pass_of, desk_of, station_of, without_first}
use Rattle.atomic_table.specs.Table.{Me}

-- the numbers of a level word
pub record IsInRange (level : Level) : Type 0 where
  pub waiters : level.waiters ≤ max_requests
  pub seats : level.seats ≤ max_width
  pub some_limit : 1 ≤ level.limit
  pub limit : level.limit ≤ max_limit

-- a step of this token on the level word: since its last step others made these, and then the word said this. Its own step stands in front of them
pub record SawLevel (who : Actor) (known : Knowledge) (level : Level) (own : Option Move) (known' : Knowledge) : Type 0 where
  pub between : List Entry
  pub of_others : NoneOf who between
  pub found : level_of known.shape.widths (world_of known.shape (between ++ known.trace)) ≡ level
  pub is_after : known' ≡ saw_level known level (entry who own ∷ (between ++ known.trace))
  pub is_schedule : IsSchedule (opening_of known.shape) (moves known'.trace)
  pub in_range : IsInRange level
  -- nobody waits on a level without queues
  pub no_queues : known.shape.response ≡ Reject → level.waiters ≡ 0
  -- a level that was seen closed is found closed
  pub stays_closed : known.saw_closed ≡ true → level.closed ≡ true
  pub more : KnowsMore known known'

-- a step of this token on the word of the request r: it stood at found, and then at left
pub record SawDecision (who : Actor) (known : Knowledge) (r : ℕ) (found left : Option Decision) (own : Option Move) (known' : Knowledge) : Type 0 where
  pub between : List Entry
  pub of_others : NoneOf who between
  pub found_is : (world_of known.shape (between ++ known.trace)).decision r ≡ found
  pub is_after : known' ≡ saw_decision known r left (entry who own ∷ (between ++ known.trace))
  pub is_schedule : IsSchedule (opening_of known.shape) (moves known'.trace)
  -- a decision that was told is found again
  pub stays : told_of known.told r ≢ None → found ≡ told_of known.told r
  pub more : KnowsMore known known'

-- the request is over: it is decided, or it never began
abbrev pub IsOver : World → ℕ → Type 0
IsOver w r = (w.decision r ≢ None) ⊎ (w.stage r ≡ Away)

-- a step of this token on the word of the slot of r, which another request holds: a load, which tells no decision. The request r is over: it neither waits nor stands. In a batch no other request holds it
pub record FindsOther (who : Actor) (known : Knowledge) (r : ℕ) (known' : Knowledge) : Type 0 where
  pub between : List Entry
  pub of_others : NoneOf who between
  pub is_idle : IsIdle (world_of known.shape (between ++ known.trace)) r
  pub is_over : IsOver (world_of known.shape (between ++ known.trace)) r
  pub no_batch : length known.shape.widths ≢ known.shape.slots
  pub is_after : known' ≡ record known { trace = entry who None ∷ (between ++ known.trace) }
  pub is_schedule : IsSchedule (opening_of known.shape) (moves known'.trace)
  pub more : KnowsMore known known'

-- while a Pass is joined to the Desk, the step is the Desk's, and both records stand for it
pub record Both : Type 0 where
  pub pass : PassRecord
  pub desk : DeskRecord

-- what a step tells, by its token's record before, the number that it found in the word, and the record afterwards
abbrev pub Tells : Type 0 → Type 1
Tells Token = Token → ℕ → Token → Type 0

abbrev pub ByPass : Tells PassRecord → Me (Unit {0}) (List Record) → ℕ → Me (Unit {0}) (List Record) → Type 0
ByPass Does me number me' = (me'.1 ≡ me.1) × ((pass' : PassRecord) × (me'.0 ≡ Pass pass' ∷ []) × Does (pass_of me.0) number pass')

abbrev pub ByDesk : Tells DeskRecord → Me (Unit {0}) (List Record) → ℕ → Me (Unit {0}) (List Record) → Type 0
ByDesk Does me number me' = (me'.1 ≡ me.1) × ((desk' : DeskRecord) × (me'.0 ≡ Desk desk' ∷ []) × Does (desk_of me.0) number desk')

abbrev pub ByStation : Tells StationRecord → Me (Unit {0}) (List Record) → ℕ → Me (Unit {0}) (List Record) → Type 0
ByStation Does me number me' = (me'.1 ≡ me.1) × ((station' : StationRecord) × (me'.0 ≡ Station station' ∷ []) × Does (station_of me.0) number station')

-- both records stand at one seat, the Pass's first
abbrev pub both_of : List Record → Both
both_of view = record { pass = pass_of view; desk = desk_of (without_first view) }

abbrev pub ByBoth : Tells Both → Me (Unit {0}) (List Record) → ℕ → Me (Unit {0}) (List Record) → Type 0
ByBoth Does me number me' = (me'.1 ≡ me.1) × ((both' : Both) × (me'.0 ≡ Pass both'.pass ∷ Desk both'.desk ∷ []) × Does (both_of me.0) number both')

-- the number of a level word, and what the step says of what that said
abbrev pub OfLevel : (Level → Type 0) → ℕ → Type 0
OfLevel Says number = (level : Level) × (number ≡ packed level) × Says level

-- the number of a word that has this mark, and what the step says of the decision in it
abbrev pub OfDecision : ℕ → (Option Decision → Type 0) → ℕ → Type 0
OfDecision mark Says number = (found : Option Decision) × (number ≡ marked mark found) × Says found

-- a step that finds the level word so
abbrev pub OnLevel : {Token : Type 0} → (Token → Level → Token → Type 0) → Tells Token
OnLevel {Token} Does token number token' = OfLevel (λ level. Does token level token') number

-- an exchange of the level word, which is made if it finds the number that it expects
abbrev pub OnLevelIf : {Token : Type 0} → ℕ → (Token → Level → Token → Type 0) → (Token → Level → Token → Type 0) → Tells Token
OnLevelIf {Token} expected Exchanges Misses token number token' = OfLevel (λ level. MatchBool (number == expected) (Exchanges token level token') (Misses token level token')) number

-- a step that finds the word of its request so, whose mark is this
abbrev pub OnDecision : {Token : Type 0} → (Token → ℕ) → (Token → Option Decision → Token → Type 0) → Tells Token
OnDecision {Token} mark Does token number token' = OfDecision (mark token) (λ found. Does token found token') number

-- an exchange of the word of its request, which is made if it finds that undecided
abbrev pub OnDecisionIf : {Token : Type 0} → (Token → ℕ) → (Token → Token → Type 0) → (Token → Option Decision → Token → Type 0) → Tells Token
OnDecisionIf {Token} mark Exchanges Misses token number token' = OfDecision (mark token) (λ found. MatchBool (number == marked (mark token) None) (Exchanges token token') (Misses token found token')) number

-- an exchange that writes some decision
abbrev pub Writing : {Token : Type 0} → (Token → ℕ) → ℕ → (Decision → Tells Token) → Tells Token
Writing {Token} mark word Does token number token' = (decision : Decision) → word ≡ marked (mark token) (Some decision) → Does decision token number token'

-- a step on the word of the slot of r: it finds the decision of r where r holds the slot, and else that another does
abbrev pub OnTicket : {Token : Type 0} → ℕ → (Token → Option Decision → Token → Type 0) → (Token → Token → Type 0) → Tells Token
OnTicket {Token} r Does Passes token number token' = OfDecision (mark_of r) (λ found. Does token found token') number ⊎ ((number / 8 ≢ mark_of r) × Passes token token')

-- an exchange of that word, which is made if it finds r undecided
abbrev pub OnTicketIf : {Token : Type 0} → ℕ → (Token → Token → Type 0) → (Token → Option Decision → Token → Type 0) → (Token → Token → Type 0) → Tells Token
OnTicketIf {Token} r Exchanges Misses Passes token number token' = OfDecision (mark_of r) (λ found. MatchBool (number == marked (mark_of r) None) (Exchanges token token') (Misses token found token')) number ⊎ ((number / 8 ≢ mark_of r) × Passes token token')

-- an exchange that sets some limit in the level word
abbrev pub Setting : {Token : Type 0} → ℕ → (ℕ → Tells Token) → Tells Token
Setting {Token} new Does token number token' = (level : Level) → new ≡ packed level → IsInRange level → Does level.limit token number token'
