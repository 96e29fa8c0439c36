-- What a token knows as its steps go on.
use Rattle.std.proofs.Common.{List, ◌++◌, sym, ap, ◌∙◌}
use Rattle.std.proofs.lemmas.List.{append_assoc}
use Rattle.apf_gate.specs.declared.record.Entry.{Entry}
use Rattle.apf_gate.specs.declared.record.Knowledge.{Knowledge}
use Rattle.apf_gate.specs.PassResults.{SamePass}
use Rattle.apf_gate.specs.Records.{KnowsMore}
use Rattle.apf_gate.specs.Tokens.{PassToken}
use Rattle.apf_book.specs.LifeBook.{LifeBookView}
use Rattle.apf_book.specs.LifeCalls.{SameLifeBook}

pub more_then : (a b c : Knowledge) → KnowsMore a b → KnowsMore b c → KnowsMore a c
more_then a b c first then = record {
  shape = then.shape ∙ first.shape;
  closed = λ e. then.closed (first.closed e);
  told = λ r e. let kept = first.told r e in then.told r (λ none. e (sym kept ∙ none)) ∙ kept;
  trace = (then.trace.0 ++ first.trace.0, then.trace.1 ∙ (ap (λ (xs : List Entry). then.trace.0 ++ xs) first.trace.1 ∙ sym (append_assoc then.trace.0 first.trace.0 a.trace)));
}

pub pass_then : (a b c : PassToken) → SamePass a b → SamePass b c → SamePass a c
pass_then a b c first then = record {
  gate = then.gate ∙ first.gate;
  number = then.number ∙ first.number;
  more = more_then a.pass.knows b.pass.knows c.pass.knows first.more then.more;
}

pub book_then : (a b c : LifeBookView) → SameLifeBook a b → SameLifeBook b c → SameLifeBook a c
book_then a b c first then = record {
  gate = then.gate ∙ first.gate;
  more = more_then a.desk.desk.knows b.desk.desk.knows c.desk.desk.knows first.more then.more;
  queues = then.queues ∙ first.queues;
  room = then.room ∙ first.room;
  hand = then.hand ∙ first.hand;
  known = then.known ∙ first.known;
  places = then.places ∙ first.places;
}
