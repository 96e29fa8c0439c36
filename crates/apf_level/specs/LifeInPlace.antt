-- What the calls of a Level answer where the slot's Pass stays in its place.
use Rattle.std.specs.Prelude.{◌≡◌, Bool}
use Rattle.apf_gate.specs.Tokens.{PassToken}
use Rattle.apf_level.specs.declared.answers.Begun.{Begun}
use Rattle.apf_level.specs.declared.answers.Begun.TheVariants as begins
use Rattle.apf_level.specs.declared.life.answers.Begin.{Begin}
use Rattle.apf_level.specs.declared.life.answers.Begin.TheVariants as begun
use Rattle.apf_level.specs.declared.life.answers.Poll.{Poll}
use Rattle.apf_level.specs.declared.life.answers.Poll.TheVariants as polled
use Rattle.apf_line.specs.Tokens.{IsInLine, IsRunning, IsDone}

-- what an arrival answers, with the Pass that it left in its place
abbrev pub begin_of : Begun → PassToken → Begin
begin_of begins.Run token = begun.Run token
begin_of (begins.Over decision) token = begun.Over token decision
begin_of begins.Waits token = begun.Waiting token

-- what a reading of a decision answers, with the Pass that it left in its place
abbrev pub poll_of : Begun → PassToken → Poll
poll_of begins.Run token = polled.Run token
poll_of (begins.Over decision) token = polled.Over token decision
poll_of begins.Waits token = polled.Still token

-- the Pass that was left is what the answer says: of a request that executes, is over or waits
abbrev pub IsLeftBy : Begun → PassToken → Type 0
IsLeftBy begins.Run token = IsRunning token
IsLeftBy (begins.Over decision) token = IsDone token
IsLeftBy begins.Waits token = IsInLine token

-- the request that executes entered a queue, if this is true, and else took its seats on arrival
abbrev pub HasEnteredIf : Begun → Bool → PassToken → Type 0
HasEnteredIf begins.Run entered token = token.pass.entered ≡ entered
HasEnteredIf (begins.Over decision) entered token = Unit {0}
HasEnteredIf begins.Waits entered token = Unit {0}
