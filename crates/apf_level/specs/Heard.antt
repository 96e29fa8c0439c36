-- What a Desk heard of the Passes that came back.
use Rattle.std.specs.Prelude.{◌≡◌, ◌≢◌, ℕ, ◌<◌, Bool, List, [], ◌∷◌, length, Option, None}
use Rattle.apf_words.specs.declared.decision.Decision.{Decision}
use Rattle.apf_gate.specs.declared.record.Actor.TheVariants.{OfPass}
use Rattle.apf_gate.specs.declared.record.DeskRecord.{DeskRecord}
use Rattle.apf_gate.specs.declared.record.Service.TheVariants.{Waiting}
use Rattle.apf_gate.specs.Records.{told_of, told_own, service}
use Rattle.apf_gate.specs.Traces.{GoesOn}
use Rattle.apf_gate.specs.Tokens.{GateId, PassToken, pass_gate}

-- the Desk was told of the Pass's request what the Pass was told, and does not have it waiting
pub record IsHeard (desk : DeskRecord) (token : PassToken) : Type 0 where
  pub told : told_of desk.knows.told token.pass.number ≡ told_own token.pass
  pub gone : service desk token.pass.number ≢ Waiting
  pub inside : token.pass.number < length token.pass.knows.shape.widths

-- what was heard stays heard
abbrev pub StaysHeard : DeskRecord → DeskRecord → Type 0
StaysHeard desk desk' = (token : PassToken) → told_own token.pass ≢ None → IsHeard desk token → IsHeard desk' token

-- what a Pass says of its request's end: which request it is, what it was told, and whether it took its seats on arrival
pub record Outcome : Type 0 where
  pub gate : GateId
  pub number : ℕ
  pub told : Option Decision
  pub took : Bool
  pub entered : Bool

abbrev pub outcome_of : PassToken → Outcome
outcome_of token = record { gate = pass_gate token; number = token.pass.number; told = told_own token.pass; took = token.pass.took; entered = token.pass.entered }

-- the Pass is of the same request, and what it knows goes on from what it knew, by steps of others
pub record GoesOnFrom (token token' : PassToken) : Type 0 where
  pub number : token'.pass.number ≡ token.pass.number
  pub trace : GoesOn token'.pass.knows.trace (OfPass token.pass.number) token.pass.knows.trace

-- the Passes go on from as many of the Dones, in their order, and the rest of the Dones is this
abbrev pub GoOnFrom : List PassToken → List PassToken → List PassToken → Type 0
GoOnFrom dones [] rest = dones ≡ rest
GoOnFrom [] (pass ∷ passes) rest = ⊥
GoOnFrom (done ∷ dones) (pass ∷ passes) rest = GoesOnFrom done pass × GoOnFrom dones passes rest
