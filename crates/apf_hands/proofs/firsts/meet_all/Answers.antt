-- One request more, and all of them.
use Rattle.std.proofs.Common.{List, Option, Ok, refl, sym, ◌∙◌, subst}
use Rattle.apf_trace_reader.specs.Reading.{AnswersEach}
use Rattle.apf_hands.specs.Firsts.{HasMet}
use Rattle.apf_hands.proofs.Meeting.{Came, all_met, met_more, met_none}
use Rattle.apf_hands.proofs.firsts.meet_all.Goals as goal

pub requests-init : goal.requests-init
requests-init g c = record {
  met = λ read. subst (λ (firsts : List Came). HasMet (g.R.Read.remaining c.args.input.now) (g.R.Read.remaining c.args.input.now) firsts c.args.reader.now) (sym c.new-meeting.ensures)
      (met_none (g.R.Read.remaining c.args.input.now) c.args.reader.now read);
  size = refl;
}

pub requests-preserved : goal.requests-preserved
requests-preserved g c = record {
  met = λ read. met_more (g.R.Read.remaining c.args.input.now) (g.R.Read.remaining c.requests.input) (g.R.Read.remaining c.next.new.input) c.requests.meeting.firsts c.take.new.meeting.firsts c.in-Some.came c.requests.reader c.next.new.self
      (subst (λ (o : Option Came). AnswersEach (g.R.Read.remaining c.requests.input) (g.R.Read.remaining c.next.new.input) c.requests.reader (Ok o) c.next.new.self) c.in-Some.is c.in_ok-next.ensures.answers.of_each)
      c.in_ok-take-in-Some.ensures (c.requests.invariant.met read);
  size = c.in_ok-next.ensures.size ∙ c.requests.invariant.size;
}

pub returns-in-None : goal.returns-in-None
returns-in-None g c = λ read.
    all_met c.args.reader.now.window.size (g.R.Read.remaining c.args.input.now) (g.R.Read.remaining c.requests.input) (g.R.Read.remaining c.next.new.input) c.requests.meeting.firsts c.requests.reader c.next.new.self
    (subst (λ (o : Option Came). AnswersEach (g.R.Read.remaining c.requests.input) (g.R.Read.remaining c.next.new.input) c.requests.reader (Ok o) c.next.new.self) c.in-None.is c.in_ok-next.ensures.answers.of_each)
    (c.in_ok-next.ensures.size ∙ c.requests.invariant.size) (c.requests.invariant.met read)
