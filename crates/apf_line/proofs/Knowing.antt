-- What a Pass knows as its steps go on.
use Rattle.std.proofs.Common.{List, ◌++◌, ◌≡◌, sym, ap, ◌∙◌}
use Rattle.std.proofs.lemmas.List.{append_assoc}
use Rattle.apf_gate.specs.declared.record.Entry.{Entry}
use Rattle.apf_gate.specs.declared.record.Knowledge.{Knowledge}
use Rattle.apf_gate.specs.Records.{KnowsMore}
use Rattle.apf_gate.specs.Tokens.{PassToken}
use Rattle.apf_line.specs.declared.attempts.Tried.{Tried}
use Rattle.apf_line.specs.declared.attempts.Tried.TheVariants as tries
use Rattle.apf_line.specs.Attempts.{FoundIfBlocked}

pub more_then : (a b c : Knowledge) → KnowsMore a b → KnowsMore b c → KnowsMore a c
more_then a b c first then = record {
  shape = then.shape ∙ first.shape;
  closed = λ e. then.closed (first.closed e);
  told = λ r e. let kept = first.told r e in then.told r (λ none. e (sym kept ∙ none)) ∙ kept;
  trace = (then.trace.0 ++ first.trace.0, then.trace.1 ∙ (ap (λ (xs : List Entry). then.trace.0 ++ xs) first.trace.1 ∙ sym (append_assoc then.trace.0 first.trace.0 a.trace)));
}

-- first these steps, and then those
on_then : (a b c : List Entry) → (later : List Entry) × (later ++ a ≡ b) → (newer : List Entry) × (newer ++ b ≡ c) → (later : List Entry) × (later ++ a ≡ c)
on_then a b c first then = (then.0 ++ first.0, append_assoc then.0 first.0 a ∙ (ap (λ (es : List Entry). then.0 ++ es) first.1 ∙ then.1))

-- a request that is blocked found no seats since it knew of these steps, so also since it knew of fewer
pub blocked_more : (known known' : Knowledge) (tried : Tried) (left : PassToken) → KnowsMore known known' → FoundIfBlocked known'.trace tried left → FoundIfBlocked known.trace tried left
blocked_more known known' tries.Run left more found = tt
blocked_more known known' (tries.Over decision waiters) left more found = tt
blocked_more known known' tries.Blocked left more found = record {
  before = found.before;
  after = found.after;
  number = found.number;
  since = on_then known.trace known'.trace found.before.knows.trace (more.trace.0, sym more.trace.1) found.since;
  finds = found.finds;
  goes_on = found.goes_on;
}
blocked_more known known' tries.Raced left more found = tt
