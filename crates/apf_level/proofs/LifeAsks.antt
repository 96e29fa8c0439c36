-- What a request asked for stays as its Pass knows more.
use Rattle.std.proofs.Common.{◌≡◌, ℕ, List, [], ◌∷◌, ◌++◌, Option, Some, None, refl, ap, ◌∙◌, subst, sym}
use Rattle.std.proofs.lemmas.List.{append_assoc}
use Rattle.apf_flow.specs.Sizes.{Sizes}
use Rattle.apf_flow.specs.Deal.{hand_of}
use Rattle.apf_history.specs.declared.events.Event.{Event}
use Rattle.apf_gate.specs.declared.record.Asked.{Asked}
use Rattle.apf_gate.specs.declared.record.Entry.{Entry}
use Rattle.apf_gate.specs.declared.record.Knowledge.{Knowledge}
use Rattle.apf_gate.specs.Records.{KnowsMore}
use Rattle.apf_gate.specs.Traces.{ask_by, first_ask, asked_in}
use Rattle.apf_book.specs.declared.life_event.LifeEvent.{LifeEvent}
use Rattle.apf_book.specs.declared.life_event.LifeEvent.TheVariants as life
use Rattle.apf_history.specs.declared.events.Event.TheVariants.{Enter}
use Rattle.apf_gate.specs.Tokens.{PassToken}
use Rattle.apf_level.specs.declared.life.answers.Begin.TheVariants as begun
use Rattle.apf_book.specs.RecentEvents.{event_of}
use Rattle.apf_book.specs.Life.{IsAskedBy}
use Rattle.apf_level.specs.declared.life.answers.Begin.{Begin}
use Rattle.apf_line.specs.Levels.{LifeId}
use Rattle.apf_level.specs.LifeAdmission.{begun_pass}
use Rattle.apf_level.specs.declared.answers.Begun.{Begun}
use Rattle.apf_level.specs.declared.answers.Begun.TheVariants as begins
use Rattle.apf_line.specs.declared.attempts.Tried.{Tried}
use Rattle.apf_line.specs.declared.attempts.Tried.TheVariants as tries
use Rattle.apf_line.specs.Tries.{FoundNoSeatsSince}
use Rattle.apf_line.specs.Attempts.{FoundIfBlocked}
use Rattle.apf_level.specs.LifeInPlace.{begin_of}
use Rattle.apf_level.specs.LifeArrivals.{Came, HasEntered, Logs, LogsInLine, TraceGoesOn}

ask_stays : (newer older : List Entry) (r : ℕ) (ask : Asked) → asked_in older r ≡ Some ask → asked_in (newer ++ older) r ≡ Some ask
ask_stays [] older r ask is = is
ask_stays (e ∷ newer) older r ask is = ap (λ (x : Option Asked). first_ask x (ask_by e.by e.ask r)) (ask_stays newer older r ask is)

pub asked_more : (known known' : Knowledge) (r r' : ℕ) (ask : Asked) → KnowsMore known known' → r' ≡ r → asked_in known.trace r ≡ Some ask → asked_in known'.trace r' ≡ Some ask
asked_more known known' r r' ask more same is = ap (asked_in known'.trace) same ∙ (ap (λ (es : List Entry). asked_in es r) more.trace.1 ∙ ask_stays more.trace.0 known.trace r ask is)

pub came_more : (k : LifeId) (known known' : Knowledge) (r : ℕ) (hand : List ℕ) (cost : ℕ) (e : Event) (last : List Entry) → KnowsMore known known' → Came k known'.trace r hand cost e last → Came k known.trace r hand cost e last
came_more k known known' r hand cost e last more came = record {
  older = came.older;
  trace = came.trace;
  goes_on = (came.goes_on.0 ++ more.trace.0, append_assoc came.goes_on.0 more.trace.0 known.trace ∙ (ap (λ (es : List Entry). came.goes_on.0 ++ es) (sym more.trace.1) ∙ came.goes_on.1));
  heard = came.heard;
  of_level = came.of_level;
  says = came.says;
  is_new = came.is_new;
}

-- its Pass knows of more steps since
pub came_since : (k : LifeId) (known : List Entry) (r : ℕ) (hand : List ℕ) (cost : ℕ) (e : Event) (last last' : List Entry) → (later : List Entry) × (later ++ last ≡ last') → Came k known r hand cost e last → Came k known r hand cost e last'
came_since k known r hand cost e last last' on came = record {
  older = came.older;
  trace = came.trace;
  goes_on = came.goes_on;
  heard = (on.0 ++ came.heard.0, append_assoc on.0 came.heard.0 came.trace ∙ (ap (λ (es : List Entry). on.0 ++ es) came.heard.1 ∙ on.1));
  of_level = came.of_level;
  says = came.says;
  is_new = came.is_new;
}

-- first these steps, and then those
pub on_then : (a b c : List Entry) → (later : List Entry) × (later ++ a ≡ b) → (newer : List Entry) × (newer ++ b ≡ c) → (later : List Entry) × (later ++ a ≡ c)
on_then a b c first then = (then.0 ++ first.0, append_assoc then.0 first.0 a ∙ (ap (λ (es : List Entry). then.0 ++ es) first.1 ∙ then.1))

pub on_of : (known known' : Knowledge) → KnowsMore known known' → (later : List Entry) × (later ++ known.trace ≡ known'.trace)
on_of known known' more = (more.trace.0, sym more.trace.1)

-- the Pass of what is answered is the one that is left
pub keeps : (begun : Begun) (token : PassToken) (last : List Entry) → (later : List Entry) × (later ++ last ≡ token.pass.knows.trace) → (later : List Entry) × (later ++ last ≡ (begun_pass (begin_of begun token)).pass.knows.trace)
keeps begins.Run token last on = on
keeps (begins.Over decision) token last on = on
keeps begins.Waits token last on = on

-- it found no seats since it knew of these steps, so also since it knew of fewer
found_more : (known known' : Knowledge) (r : ℕ) (last : List Entry) → KnowsMore known known' → FoundNoSeatsSince known'.trace r last → FoundNoSeatsSince known.trace r last
found_more known known' r last more found = record {
  before = found.before;
  after = found.after;
  number = found.number;
  since = on_then known.trace known'.trace found.before.knows.trace (on_of known known' more) found.since;
  finds = found.finds;
  goes_on = found.goes_on;
}

pub found_since : (known : List Entry) (r r' : ℕ) (last last' : List Entry) → r ≡ r' → (later : List Entry) × (later ++ last ≡ last') → FoundNoSeatsSince known r last → FoundNoSeatsSince known r' last'
found_since known r r' last last' same on found = record {
  before = found.before;
  after = found.after;
  number = found.number ∙ same;
  since = found.since;
  finds = found.finds;
  goes_on = on_then found.after.knows.trace last last' found.goes_on on;
}

pub blocked_more : (known known' : Knowledge) (tried : Tried) (left : PassToken) → KnowsMore known known' → FoundIfBlocked known'.trace tried left → FoundIfBlocked known.trace tried left
blocked_more known known' tries.Run left more found = tt
blocked_more known known' (tries.Over decision waiters) left more found = tt
blocked_more known known' tries.Blocked left more found = found_more known known' left.pass.number left.pass.knows.trace more found
blocked_more known known' tries.Raced left more found = tt

-- a request that found no seats came to its queues
pub logs_found : (k : LifeId) (known : List Entry) (r : ℕ) (hand : List ℕ) (cost : ℕ) (answer : Begin) (event : Option LifeEvent) → FoundNoSeatsSince known r (begun_pass answer).pass.knows.trace → LogsInLine k known r hand cost answer event → Logs k known r hand cost answer event
logs_found k known r hand cost answer None found logs = logs
logs_found k known r hand cost answer (Some event) found logs = (logs.0, logs.1, found)

-- a request that waited has its event still, once it is told where it is
pub logs_since : (k : LifeId) (known : List Entry) (r : ℕ) (hand : List ℕ) (cost : ℕ) (old : PassToken) (answer : Begin) (event : Option LifeEvent) → TraceGoesOn old (begun_pass answer) → HasEntered answer → Logs k known r hand cost (begun.Waiting old) event → Logs k known r hand cost answer event
logs_since k known r hand cost old answer None on entered logs = absurd logs
logs_since k known r hand cost old answer (Some (life.Enter t q)) on entered logs = (
  (logs.0.0, entered),
  came_since k known r hand cost (Enter t.number q) old.pass.knows.trace (begun_pass answer).pass.knows.trace on logs.1,
  found_since known r r old.pass.knows.trace (begun_pass answer).pass.knows.trace refl on logs.2,
)
logs_since k known r hand cost old answer (Some (life.Full t q)) on entered logs = absurd logs.0.1
logs_since k known r hand cost old answer (Some (life.Dispatch t q)) on entered logs = absurd logs.0
logs_since k known r hand cost old answer (Some (life.Strike t q)) on entered logs = absurd logs.0

pub logs_more : (k : LifeId) (known known' : Knowledge) (r r' : ℕ) (hand : List ℕ) (cost : ℕ) (answer : Begin) (event : Option LifeEvent) → KnowsMore known known' → r' ≡ r → LogsInLine k known'.trace r' hand cost answer event → LogsInLine k known.trace r hand cost answer event
logs_more k known known' r r' hand cost answer None more same logs = logs
logs_more k known known' r r' hand cost answer (Some event) more same logs =
    let here = subst (λ (i : ℕ). LogsInLine k known'.trace i hand cost answer (Some event)) same logs in
    (here.0, came_more k known known' r hand cost (event_of event) (begun_pass answer).pass.knows.trace more here.1)

-- the hand and the cost are those that the request asked for
pub is_asked : (sizes : Sizes) (trace : List Entry) (r hash cost : ℕ) → asked_in trace r ≡ Some (record { hash = hash; cost = cost }) → IsAskedBy sizes trace (hand_of sizes hash) cost r
is_asked sizes trace r hash cost is = record { ask = record { hash = hash; cost = cost }; said = is; hand_is = refl; cost_is = refl }

-- what its Pass knew when the request came to be late, it knew of more than when it arrived
pub logs_before : (k : LifeId) (known known' : Knowledge) (r r' : ℕ) (hand : List ℕ) (cost : ℕ) (answer : Begin) (event : Option LifeEvent) → KnowsMore known known' → r' ≡ r → Logs k known'.trace r' hand cost answer event → Logs k known.trace r hand cost answer event
logs_before k known known' r r' hand cost answer None more same logs = logs
logs_before k known known' r r' hand cost answer (Some event) more same logs =
    let here = subst (λ (i : ℕ). Logs k known'.trace i hand cost answer (Some event)) same logs in (
      here.0,
      came_more k known known' r hand cost (event_of event) (begun_pass answer).pass.knows.trace more here.1,
      found_more known known' r (begun_pass answer).pass.knows.trace more here.2,
    )
