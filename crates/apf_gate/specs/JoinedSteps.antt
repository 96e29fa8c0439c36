-- The steps of the Desk with a Pass joined to it, each by its operation and its word.
use Rattle.std.specs.Prelude.{◌≡◌, ◌≢◌, ◌||◌, ℕ, Bool, true, false, Option, Some, None}
use Rattle.apf_words.specs.Level.{Level}
use Rattle.apf_words.specs.declared.decision.Decision.{Decision}
use Rattle.apf_words.specs.declared.decision.Decision.TheVariants.{Execute, QueueFull, Closed, Cancelled, ConcurrencyLimit}
use Rattle.apf_model.specs.declared.moves.Move.TheVariants.{Enter, Decide}
use Rattle.apf_gate.specs.declared.record.Actor.TheVariants.{OfPass, OfDesk}
use Rattle.apf_gate.specs.declared.record.Knowledge.{Knowledge}
use Rattle.apf_gate.specs.declared.record.Service.{Service}
use Rattle.apf_gate.specs.declared.record.Service.TheVariants.{NotHanded, Handed, RefusedFull, RefusedClosed, Waiting, Held, Settled, Left}
use Rattle.apf_gate.specs.declared.record.PassRecord.{PassRecord}
use Rattle.apf_gate.specs.Records.{told_own, saw_decision, service}
use Rattle.apf_gate.specs.Traces.{GoesOn}
use Rattle.apf_gate.specs.Requests.{AreTied, WaitsAlone}
use Rattle.apf_gate.specs.Steps.{Both, SawLevel, SawDecision}
use Rattle.apf_gate.specs.PassSteps.{own_mark, GrantStands}
use Rattle.apf_gate.specs.DeskSteps.{served, DeskMayFind}

-- the mark of the joined Pass's request
abbrev pub both_mark : Both → ℕ
both_mark both = own_mark both.pass

-- what the Pass knows after the Desk's step: the Desk's trace
abbrev pub along : PassRecord → Knowledge → Knowledge
along pass known' = record pass.knows { trace = known'.trace }

-- and, where the step read the request's word, what that holds
abbrev pub along_told : PassRecord → Option Decision → Knowledge → Knowledge
along_told pass decision known' = saw_decision pass.knows pass.number decision known'.trace

-- what two joined tokens tell each other: the Desk's trace goes on from the Pass's by steps of others, and the Pass has that it was handed over, and that it entered, exactly if the Desk did that. No other request of the Pass's slot waits
pub record Agree (both : Both) (known' : Knowledge) : Type 0 where
  pub trace : GoesOn known'.trace (OfPass both.pass.number) both.pass.knows.trace
  pub tied : AreTied both.pass.number both.pass (service both.desk both.pass.number)
  pub not_handed : both.pass.handed ≡ false → service both.desk both.pass.number ≡ NotHanded
  pub alone : WaitsAlone both.pass.knows.shape both.desk both.pass.number

-- a request that was refused as closed stays so when it is handed over again
abbrev pub handed_over : Service → Service
handed_over NotHanded = Handed
handed_over Handed = Handed
handed_over RefusedFull = RefusedFull
handed_over RefusedClosed = RefusedClosed
handed_over Waiting = Waiting
handed_over Held = Held
handed_over Settled = Settled
handed_over Left = Left

-- what the Desk did with the joined Pass's request
abbrev pub joined_service : Both → Service
joined_service both = service both.desk both.pass.number

-- the Pass's record after a step that handed its request over
abbrev pub handed_by : PassRecord → Knowledge → PassRecord
handed_by pass known = record pass { handed = true; no_room = false; knows = known }

-- they load the level word, and the request is handed over
abbrev pub JoinedLoadsLevel : Both → Level → Both → Type 0
JoinedLoadsLevel both level both' = (known' : Knowledge) × SawLevel OfDesk both.desk.knows level None known' × Agree both known'
    × (both' ≡ record { pass = handed_by both.pass (along both.pass known'); desk = served both.desk both.pass.number (handed_over (joined_service both)) known' })

-- their exchange of the level word entered the request
abbrev pub JoinedExchangesLevel : Both → Level → Both → Type 0
JoinedExchangesLevel both level both' = (known' : Knowledge) × SawLevel OfDesk both.desk.knows level (Some (Enter both.pass.number)) known' × Agree both known'
    × (both' ≡ record { pass = record both.pass { handed = true; entered = true; no_room = false; knows = along both.pass known' }; desk = served both.desk both.pass.number Waiting known' })

-- what a refusal with this decision leaves
abbrev pub refusing : Decision → Service
refusing Execute = Handed
refusing QueueFull = RefusedFull
refusing Closed = RefusedClosed
refusing Cancelled = Handed
refusing ConcurrencyLimit = Handed

-- their exchange wrote the refusal
abbrev pub JoinedExchangesDecision : Decision → Both → Both → Type 0
JoinedExchangesDecision decision both both' = (known' : Knowledge) × SawDecision OfDesk both.desk.knows both.pass.number None (Some decision) (Some (Decide both.pass.number decision)) known' × Agree both known'
    × (both' ≡ record { pass = handed_by both.pass (along_told both.pass (Some decision) known'); desk = served both.desk both.pass.number (refusing decision) known' })

-- their exchange found another decision, and the request is handed over: a load
abbrev pub JoinedMissesDecision : Both → Option Decision → Both → Type 0
JoinedMissesDecision both found both' = (known' : Knowledge) × SawDecision OfDesk both.desk.knows both.pass.number found found None known' × DeskMayFind (handed_over (joined_service both)) found × Agree both known'
    × (both' ≡ record { pass = handed_by both.pass (along_told both.pass found known'); desk = served both.desk both.pass.number (handed_over (joined_service both)) known' })

-- the Desk let the request leave
abbrev pub has_left : Service → Bool
has_left NotHanded = false
has_left Handed = false
has_left RefusedFull = false
has_left RefusedClosed = false
has_left Waiting = false
has_left Held = false
has_left Settled = false
has_left Left = true

-- they load the decision word, which holds what the Pass was told, if it was. Nothing is handed over, and the Pass hears whether its request left. Where it holds execute, of a Pass that is not over, its seats stand
abbrev pub JoinedLoadsDecision : Both → Option Decision → Both → Type 0
JoinedLoadsDecision both found both' = (known' : Knowledge) × SawDecision OfDesk both.desk.knows both.pass.number found found None known' × DeskMayFind (joined_service both) found × Agree both known' × (told_own both.pass ≢ None → found ≡ told_own both.pass)
    × (both' ≡ record { pass = record both.pass { no_room = false; left = both.pass.left || has_left (joined_service both); knows = along_told both.pass found known' }; desk = record both.desk { knows = known' } }) × GrantStands both.pass found known'
