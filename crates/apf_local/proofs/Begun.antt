-- Where a request is after its try and a hearing.
use Rattle.std.proofs.Common.{◌≡◌, ◌≢◌, inl, inr, Some, None, refl, sym, ap, ◌∙◌}
use Rattle.std.proofs.lemmas.List.{append-nil}
use Rattle.apf_words.specs.declared.decision.Decision.{Decision}
use Rattle.apf_gate.specs.declared.record.State.TheVariants as states
use Rattle.apf_gate.specs.Records.{told_own}
use Rattle.apf_gate.specs.Tokens.{GateId, PassToken}
use Rattle.apf_gate.specs.Traces.{asked_in}
use Rattle.apf_book.specs.BookResults.{SameRequest}
use Rattle.apf_book.specs.LifeBook.{LifeBookView}
use Rattle.apf_book.specs.LifeCalls.{HearsLife}
use Rattle.apf_line.specs.Tokens.{IsDone}
use Rattle.apf_local.specs.declared.answer.Ask.{Ask}
use Rattle.apf_line.specs.declared.attempts.Tried.{Tried}
use Rattle.apf_line.specs.declared.attempts.Tried.TheVariants as tries
use Rattle.apf_line.specs.Attempts.{Takes, Refuses}
use Rattle.apf_local.specs.Owners.{IsRefusal, IsBegun}
use Rattle.apf_local.proofs.Hearing.{hears_running, hears_told, hears_trace, goes_on_then, asked_then}

-- a Pass that is over, and was told its decision
pub over_is_done : (p : PassToken) (d : Decision) → p.pass.state ≡ states.Over → told_own p.pass ≡ Some d → IsDone p
over_is_done p d over told =
    let is_told : told_own p.pass ≢ None = (λ none. let z = sym told ∙ none in cc) in
    record { back = inr (is_told, record { back = inl over }); may = inr (is_told, inl over) }

module _ (ask : Ask) (b b' : LifeBookView) (old p p' : PassToken) (same : SameRequest p p') (hears : HearsLife b p b' p') where
  -- what it found before it was refused it found before the hearing
  refused : (d : Decision) → Refuses old.pass d p.pass → IsRefusal p' d
  refused d (inl closed) = inl closed
  refused d (inr (inl cancelled)) = inr (inl cancelled)
  refused d (inr (inr no_room)) = inr (inr (
    no_room.0,
    ap (λ (g : GateId). g.shape.response) same.pass ∙ no_room.1.no_queues,
    record {
      before = old.pass;
      after = no_room.1.found;
      number = sym (same.number ∙ no_room.1.number);
      since = (old.pass.knows.trace, append-nil old.pass.knows.trace);
      finds = no_room.1.finds;
      goes_on = goes_on_then no_room.1.found.knows.trace p.pass.knows.trace p'.pass.knows.trace no_room.1.goes_on (hears_trace b b' p p' same hears);
    },
  ))

  pub begun : (t : Tried) → t ≢ tries.Raced → Takes old.pass t p.pass → asked_in p.pass.knows.trace p.pass.number ≡ Some (record { hash = ask.hash; cost = ask.cost }) → IsBegun ask t p'
  begun tries.Run not takes asked = hears_running b b' p p' same hears (inl takes.0) takes.1
  begun (tries.Over d w) not takes asked =
      let told = hears_told b b' p p' same hears d takes.1 in
      (over_is_done p' d (hears.state ∙ takes.0) told, told, refused d takes.2)
  begun tries.Blocked not takes asked = (hears.state ∙ takes.0, ap (λ (g : GateId). g.shape.response) same.pass ∙ takes.1, asked_then p.pass.knows.trace p'.pass.knows.trace p.pass.number p'.pass.number (record { hash = ask.hash; cost = ask.cost }) (hears_trace b b' p p' same hears) same.number asked, record { before = old.pass; after = p.pass; number = sym same.number; since = (old.pass.knows.trace, append-nil old.pass.knows.trace); finds = takes.2; goes_on = hears_trace b b' p p' same hears })
  begun tries.Raced not takes asked = absurd (not refl)
