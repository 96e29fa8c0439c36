-- Tries of which an exchange was lost, and what comes after them.
use Rattle.std.proofs.Common.{◌≡◌, ℕ, false, List, [], ◌++◌, Some, refl, sym, ap, ◌∙◌, subst}
use Rattle.std.proofs.lemmas.List.{append_assoc}
use Rattle.apf_words.specs.declared.decision.Decision.TheVariants.{QueueFull, Closed, Cancelled}
use Rattle.apf_gate.specs.declared.record.Entry.{Entry}
use Rattle.apf_gate.specs.declared.record.Knowledge.{Knowledge}
use Rattle.apf_gate.specs.declared.record.PassRecord.{PassRecord}
use Rattle.apf_gate.specs.Records.{told_own, KnowsMore}
use Rattle.apf_gate.specs.Tokens.{PassToken}
use Rattle.apf_model.specs.History.{has_arrived}
use Rattle.apf_queue.specs.View.{queue_count}
use Rattle.apf_book.specs.declared.arrived.Arrived.{Arrived}
use Rattle.apf_book.specs.declared.arrived.Arrived.TheVariants as arrived
use Rattle.apf_book.specs.Arrivals.{IsTold}
use Rattle.apf_book.specs.BookResults.{SameRequest}
use Rattle.apf_book.specs.Life.{LifeView, IsAskedBy, sizes_of}
use Rattle.apf_book.specs.LifeBook.{LifeBookView, IsLifeKept, arrived_in}
use Rattle.apf_book.specs.LifeCalls.{SameLifeBook, AnswersLifeArrival, AfterLifeArrival, HeardAll}
use Rattle.apf_book.specs.Tries.{IsNewTo, RacesArrival}
use Rattle.apf_book.proofs.Knowing.{more_same, told_then}
use Rattle.apf_book.proofs.LifeAsks.{asked_still}
use Rattle.apf_book.proofs.LifeTurning.{same_book_then}

-- nothing became of the request by the tries so far
pub record RacedSoFar (book : LifeBookView) (token : PassToken) (book' : LifeBookView) (token' : PassToken) : Type 0 where
  pub same : SameLifeBook book book'
  pub request : SameRequest token token'
  pub history : (v : LifeView) → IsLifeKept v book → IsLifeKept v book'
  pub is_new : IsNewTo book' token'
  pub not_cancelled : told_own token.pass ≡ Some Cancelled → told_own token'.pass ≡ Some Cancelled
  pub trace : (newer : List Entry) × (newer ++ token.pass.knows.trace ≡ token'.pass.knows.trace)

pub none_yet : (book : LifeBookView) (token : PassToken) → IsNewTo book token → RacedSoFar book token book token
none_yet book token new = record {
  same = record { gate = refl; more = more_same book.desk.desk.knows; queues = refl; room = refl; hand = refl; known = refl; places = refl };
  request = record { pass = refl; number = refl };
  history = λ v is. is;
  is_new = new;
  not_cancelled = λ e. e;
  trace = ([], refl);
}

pub raced_then : (a : LifeBookView) (s : PassToken) (b : LifeBookView) (t : PassToken) (c : LifeBookView) (u : PassToken) → RacedSoFar a s b t → SameLifeBook b c → SameRequest t u → HeardAll t c → RacesArrival b t c u → RacedSoFar a s c u
raced_then a s b t c u far same request heard raced = record {
  same = same_book_then a b c far.same same;
  request = record { pass = request.pass ∙ far.request.pass; number = request.number ∙ far.request.number };
  history = λ v is. raced.history v (far.history v is);
  is_new = raced.is_new;
  not_cancelled = λ e. absurd (raced.not_cancelled (far.not_cancelled e));
  trace = (heard.0 ++ far.trace.0, append_assoc heard.0 far.trace.0 s.pass.knows.trace ∙ (ap (λ (es : List Entry). heard.0 ++ es) far.trace.1 ∙ (heard.1 ∙ sym raced.follows)));
}

-- what it asked for it asks for still
pub asked_again : (a : LifeBookView) (s : PassToken) (b : LifeBookView) (t : PassToken) (hand : List ℕ) (cost : ℕ) → RacedSoFar a s b t → (a.queues.known ≡ false → IsAskedBy (sizes_of a.queues) s.pass.knows.trace hand cost s.pass.number) → b.queues.known ≡ false → IsAskedBy (sizes_of b.queues) t.pass.knows.trace hand cost t.pass.number
asked_again a s b t hand cost far by none =
    let there = asked_still (sizes_of a.queues) far.trace.0 s.pass.knows.trace t.pass.knows.trace hand cost s.pass.number far.trace.1 (by (sym far.same.known ∙ none)) in
    subst (λ (r : ℕ). IsAskedBy (sizes_of b.queues) t.pass.knows.trace hand cost r) (sym far.request.number)
    (subst (λ (n : ℕ). IsAskedBy (record { deck = n; hand = b.queues.hand }) t.pass.knows.trace hand cost s.pass.number) (sym far.same.queues)
    (subst (λ (n : ℕ). IsAskedBy (record { deck = queue_count a.queues.queues; hand = n }) t.pass.knows.trace hand cost s.pass.number) (sym far.same.hand) there))

is_told_then : (answer : Arrived) (pass : PassRecord) (a b c : Knowledge) → KnowsMore a b → IsTold answer pass b c → IsTold answer pass a c
is_told_then (arrived.Queued q) pass a b c more told = told
is_told_then (arrived.Full q) pass a b c more told = (told_then a b c pass.number QueueFull more told.0, told.1)
is_told_then arrived.Closed pass a b c more told = (told_then a b c pass.number Closed more told.0, told.1)
is_told_then arrived.Cancelled pass a b c more told = (told_then a b c pass.number Cancelled more told.0, told.1)
is_told_then arrived.Again pass a b c more told = told

-- the answer of the last try is that of all
pub answers_then : (a : LifeBookView) (s : PassToken) (b : LifeBookView) (t : PassToken) (hand : List ℕ) (cost : ℕ) (answer : Arrived) (c : LifeBookView) (u : PassToken) → RacedSoFar a s b t → AnswersLifeArrival b t hand cost answer c u → AnswersLifeArrival a s hand cost answer c u
answers_then a s b t hand cost answer c u far last = record {
  history = λ v is. subst (λ (r : ℕ). IsLifeKept (arrived_in v r hand cost answer) c) far.request.number (last.history v (far.history v is));
  is_new = λ v is. subst (λ (r : ℕ). has_arrived v.history r ≡ false) far.request.number (last.is_new v (far.history v is));
  told = is_told_then answer u.pass a.desk.desk.knows b.desk.desk.knows c.desk.desk.knows far.same.more last.told;
  first = last.first;
}

pub after_then : (a : LifeBookView) (s : PassToken) (b : LifeBookView) (t : PassToken) (answer : Arrived) (u : PassToken) → RacedSoFar a s b t → AfterLifeArrival b t answer u → AfterLifeArrival a s answer u
after_then a s b t answer u far last = record {
  in_line = last.in_line;
  entered = last.entered;
  stays_closed = λ closed. last.stays_closed (far.same.more.closed closed);
  cancelled_first = λ cancelled. last.cancelled_first (far.not_cancelled cancelled);
  cancelled_seen = last.cancelled_seen;
}

pub heard_all_then : (a : LifeBookView) (s : PassToken) (b : LifeBookView) (t : PassToken) (c : LifeBookView) → RacedSoFar a s b t → HeardAll t c → HeardAll s c
heard_all_then a s b t c far heard = (heard.0 ++ far.trace.0, append_assoc heard.0 far.trace.0 s.pass.knows.trace ∙ (ap (λ (es : List Entry). heard.0 ++ es) far.trace.1 ∙ heard.1))
