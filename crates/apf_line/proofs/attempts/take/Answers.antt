-- The Pass after all of its steps.
use Rattle.std.proofs.Common.{rules, Bool, true, false, ◌≡◌, ◌≢◌, ◌⊎◌, [], refl, sym, ap, ◌∙◌, inl, inr}
use Rattle.apf_line.specs.Attempts.{HasQueuesIf, Refuses, FindsNoSeatsAndDecides}
use Rattle.apf_words.specs.declared.decision.Decision.{Decision}
use Rattle.apf_words.specs.declared.decision.Decision.TheVariants.{Execute, Closed, Cancelled, ConcurrencyLimit}
use Rattle.apf_model.specs.declared.response.Response.{Response}
use Rattle.apf_model.specs.declared.response.Response.TheVariants.{Queue, Reject}
use Rattle.apf_gate.specs.declared.record.PassRecord.{PassRecord}
use Rattle.apf_gate.specs.declared.record.Shape.{Shape}
use Rattle.apf_gate.specs.Tokens.{GateId}
use Rattle.apf_line.proofs.Knowing.{more_then}
use Rattle.apf_line.proofs.attempts.take.Goals as goal

pub returns-else-eq-clause-steps : goal.returns-else-eq-clause-steps
returns-else-eq-clause-steps c = λ pass same reads.
    let released = c.release-waiting.ensures.answer in
    inr (inr (inr (
      released.0,
      released.2,
      record {
        read = c.args.pass.now.pass;
        took = c.try_take.new.pass.pass;
        lost = c.decide-decision.new.pass.pass;
        reads = reads;
        takes = c.in-Taken.ensures.answer;
        decides = c.decide-decision.ensures.answer;
        is_lost = search rules;
        gives_back = released.1;
      },
    )))

-- the response of the gate is that of a Pass whose shape is its gate's
responds : (own : GateId) (shape : Shape) (r : Response) → shape ≡ own.shape → own.shape.response ≡ r → shape.response ≡ r
responds own shape r same response = ap (λ (s : Shape). s.response) same ∙ response

has_queues : (r : Response) → r ≢ Reject → r ≡ Queue
has_queues Queue other = refl
has_queues Reject other = absurd (other refl)

pub returns-in-Waiters-clause-steps : goal.returns-in-Waiters-clause-steps
returns-in-Waiters-clause-steps c = λ pass same reads. record {
  read = c.args.pass.now.pass;
  reads = reads;
  takes = inr (has_queues _ (λ rejects. c.in-Waiters.ensures.after.no_queues (ap (λ (s : Shape). s.response) (sym same) ∙ rejects) refl), inl c.in-Waiters.ensures.answer);
}

-- whoever has queues has them by its response
queues : (has : Bool) (r : Response) → has ≡ true → HasQueuesIf has r → r ≡ Queue
queues true r is has = has
queues false r is has = absurd (cc)

pub returns-in-NoRoom-clause-steps : goal.returns-in-NoRoom-clause-steps
returns-in-NoRoom-clause-steps c = λ pass same reads. record {
  read = c.args.pass.now.pass;
  reads = reads;
  takes = inr (responds c.args.gate.now pass.knows.shape Queue (same ∙ ap (λ (x : GateId). x.shape) c.requires.fresh.own) (queues c.args.has_queues _ c.if-has_queues.true c.requires.queues), inr c.in-NoRoom.ensures.answer);
}

pub returns-in-Raced-clause-steps : goal.returns-in-Raced-clause-steps
returns-in-Raced-clause-steps c = λ pass same reads. record {
  read = c.args.pass.now.pass;
  reads = reads;
  takes = inl c.in-Raced.ensures.answer;
}

pub returns-then-eq-clause-more : goal.returns-then-eq-clause-more
returns-then-eq-clause-more c = more_then c.args.pass.now.pass.knows c.try_take.new.pass.pass.knows c.decide-decision.new.pass.pass.knows c.try_take.ensures.same.more c.decide-decision.ensures.same.more

pub returns-in-Closed-clause-more : goal.returns-in-Closed-clause-more
returns-in-Closed-clause-more c = more_then c.args.pass.now.pass.knows c.try_take.new.pass.pass.knows c.decide-decision-in-Closed.new.pass.pass.knows c.try_take.ensures.same.more c.decide-decision-in-Closed.ensures.same.more

pub returns-in-NoRoom-2-clause-more : goal.returns-in-NoRoom-2-clause-more
returns-in-NoRoom-2-clause-more c = more_then c.args.pass.now.pass.knows c.try_take.new.pass.pass.knows c.decide-decision-in-NoRoom-2.new.pass.pass.knows c.try_take.ensures.same.more c.decide-decision-in-NoRoom-2.ensures.same.more

pub returns-else-eq-clause-more : goal.returns-else-eq-clause-more
returns-else-eq-clause-more c = more_then c.args.pass.now.pass.knows c.decide-decision.new.pass.pass.knows c.release-waiting.new.pass.pass.knows (more_then c.args.pass.now.pass.knows c.try_take.new.pass.pass.knows c.decide-decision.new.pass.pass.knows c.try_take.ensures.same.more c.decide-decision.ensures.same.more) c.release-waiting.ensures.same.more

pub returns-in-Waiters-clause-after : goal.returns-in-Waiters-clause-after
returns-in-Waiters-clause-after c = record {
  same = search rules;
  told = search rules;
  stays_closed = search rules;
  outside = search rules;
  found =
      record {
        before = c.args.pass.now.pass;
        after = c.try_take.new.pass.pass;
        number = refl;
        since = ([], refl);
        finds = inl c.in-Waiters.ensures.answer;
        goes_on = ([], refl);
      };
}

pub returns-in-NoRoom-clause-after : goal.returns-in-NoRoom-clause-after
returns-in-NoRoom-clause-after c = record {
  same = search rules;
  told = search rules;
  stays_closed = search rules;
  outside = search rules;
  found =
      record {
        before = c.args.pass.now.pass;
        after = c.try_take.new.pass.pass;
        number = refl;
        since = ([], refl);
        finds = inr c.in-NoRoom.ensures.answer;
        goes_on = ([], refl);
      };
}

refuses : (pass pass' : PassRecord) (d : Decision) → (d ≡ Execute) ⊎ (d ≡ Cancelled) → d ≢ Execute → Refuses pass d pass'
refuses pass pass' d (inl is) not = absurd (not is)
refuses pass pass' d (inr is) not = inr (inl is)

closes : (pass pass' : PassRecord) (d : Decision) → (d ≡ Closed) ⊎ (d ≡ Cancelled) → Refuses pass d pass'
closes pass pass' d (inl is) = inl is
closes pass pass' d (inr is) = inr (inl is)

limits : (pass pass' : PassRecord) (d : Decision) → (d ≡ ConcurrencyLimit) ⊎ (d ≡ Cancelled) → FindsNoSeatsAndDecides pass pass' → Refuses pass d pass'
limits pass pass' d (inl is) finds = inr (inr (is, finds))
limits pass pass' d (inr is) finds = inr (inl is)

-- whoever has no queues rejects
rejects : (has : Bool) (r : Response) → has ≡ false → HasQueuesIf has r → r ≡ Reject
rejects true r is has = absurd (cc)
rejects false r is has = has

pub returns-else-eq-clause-takes : goal.returns-else-eq-clause-takes
returns-else-eq-clause-takes c =
    let not : c.decide-decision.result ≢ Execute = (search rules) in
    (c.release-waiting.ensures.after.state, search rules, refuses _ _ c.decide-decision.result c.decide-decision.ensures.after.answers not)

pub returns-in-Closed-clause-takes : goal.returns-in-Closed-clause-takes
returns-in-Closed-clause-takes c = (search rules, search rules, closes _ _ c.decide-decision-in-Closed.result c.decide-decision-in-Closed.ensures.after.answers)

pub returns-in-Waiters-clause-takes : goal.returns-in-Waiters-clause-takes
returns-in-Waiters-clause-takes c = (
  search rules,
  has_queues _ (λ rejects. c.in-Waiters.ensures.after.no_queues (ap (λ (g : GateId). g.shape.response) (sym c.try_take.ensures.same.gate) ∙ rejects) refl),
  inl c.in-Waiters.ensures.answer,
)

pub returns-in-NoRoom-clause-takes : goal.returns-in-NoRoom-clause-takes
returns-in-NoRoom-clause-takes c = (
  search rules,
  ap (λ (g : GateId). g.shape.response) (c.try_take.ensures.same.gate ∙ c.requires.fresh.own) ∙ queues c.args.has_queues _ c.if-has_queues.true c.requires.queues,
  inr c.in-NoRoom.ensures.answer,
)

pub returns-in-NoRoom-2-clause-takes : goal.returns-in-NoRoom-2-clause-takes
returns-in-NoRoom-2-clause-takes c = (
  search rules,
  search rules,
  limits _ _ c.decide-decision-in-NoRoom-2.result c.decide-decision-in-NoRoom-2.ensures.after.answers (record {
    no_queues = ap (λ (g : GateId). g.shape.response) (c.decide-decision-in-NoRoom-2.ensures.same.gate ∙ (c.try_take.ensures.same.gate ∙ c.requires.fresh.own)) ∙ rejects c.args.has_queues _ c.if-has_queues.false c.requires.queues;
    found = c.try_take.new.pass.pass;
    number = c.decide-decision-in-NoRoom-2.ensures.same.number;
    finds = inr c.in-NoRoom-2.ensures.answer;
    goes_on = (c.decide-decision-in-NoRoom-2.ensures.same.more.trace.0, sym c.decide-decision-in-NoRoom-2.ensures.same.more.trace.1);
  }),
)
