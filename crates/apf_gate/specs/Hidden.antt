-- Two states of a gate of which the second comes by a step of one token.
use Rattle.std.specs.Prelude.{◌≡◌, ◌≢◌, ◌⊎◌, ◌≤◌, List, [], ◌∷◌, ◌++◌, length}
use Rattle.apf_gate.specs.declared.record.Shape.{Shape}
use Rattle.apf_gate.specs.declared.record.Actor.{Actor}
use Rattle.apf_gate.specs.declared.record.Actor.TheVariants.{OfPass, OfDesk, OfStation}
use Rattle.apf_gate.specs.declared.record.Entry.{Entry}
use Rattle.apf_gate.specs.Traces.{NoneOf, GoesOn, IsToken}
use Rattle.apf_gate.specs.Account.{Account, IsSound}

-- the trace in a token's record
abbrev pub trace_of : Account → Actor → List Entry
trace_of account (OfPass r) = (account.pass r).knows.trace
trace_of account OfDesk = account.desk.knows.trace
trace_of account (OfStation k) = (account.station k).knows.trace

-- the records of the tokens but this one stay as they were
abbrev pub OthersStay : Shape → Actor → Account → Account → Type 0
OthersStay shape who before after = (other : Actor) → IsToken shape other → other ≢ who → trace_of after other ≡ trace_of before other

-- the records of the tokens but the Desk and this one stay as they were
abbrev pub AllButJoinedStay : Shape → Actor → Account → Account → Type 0
AllButJoinedStay shape who before after = (other : Actor) → IsToken shape other → other ≢ OfDesk → other ≢ who → trace_of after other ≡ trace_of before other

-- the record of the token that made this step says that it made that one since
pub record SaysOneStep (step : Entry) (before after : List Entry) : Type 0 where
  pub between : List Entry
  pub of_others : NoneOf step.by between
  pub is_after : after ≡ step ∷ (between ++ before)

pub record NothingIsHidden : Type 0 where
  -- where every record stays, the trace does
  pub none : (shape : Shape) (before after : Account) → IsSound shape before → IsSound shape after → ((who : Actor) → IsToken shape who → trace_of after who ≡ trace_of before who) → after.trace ≡ before.trace
  -- where one says that its token made one step, that is the one step that was made, and it saw all that came before. The step may be a move, a load, or one that begins a request and says what that asks for
  pub one : (shape : Shape) (before after : Account) (step : Entry) → IsSound shape before → IsSound shape after → IsToken shape step.by → OthersStay shape step.by before after
      → SaysOneStep step (trace_of before step.by) (trace_of after step.by) → after.trace ≡ step ∷ before.trace
  -- the same of a step of the Desk with a Pass or a Station joined to it, whose record has the Desk's trace afterwards
  pub joined : (shape : Shape) (before after : Account) (who : Actor) (step : Entry) → IsSound shape before → IsSound shape after → IsToken shape who → step.by ≡ OfDesk → AllButJoinedStay shape who before after
      → SaysOneStep step (trace_of before OfDesk) (trace_of after OfDesk) → GoesOn (trace_of after OfDesk) who (trace_of before who) → trace_of after who ≡ trace_of after OfDesk
      → after.trace ≡ step ∷ before.trace

-- each token but this one made none of these steps, or has seen no more than there are in this trace
abbrev pub CameNot : Shape → Actor → Account → List Entry → List Entry → Type 0
CameNot shape who account between trace = (other : Actor) → IsToken shape other → other ≢ who → NoneOf other between ⊎ (length (trace_of account other) ≤ length trace)

-- where no other token has seen more than this one had before its last step, nobody came between
abbrev pub NobodyCame : Type 0
NobodyCame = (shape : Shape) (account : Account) (who : Actor) (step : Entry) (between trace : List Entry) → IsSound shape account → IsToken shape who
    → trace_of account who ≡ step ∷ (between ++ trace) → NoneOf who between → CameNot shape who account between trace → between ≡ []
