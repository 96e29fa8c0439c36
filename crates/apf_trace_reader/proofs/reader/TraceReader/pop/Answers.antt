-- The first of what is held leaves the window.
use Rattle.std.proofs.Common.{Ok, sym, ap, ◌∙◌, subst}
use Rattle.apf_trace_reader.specs.Reading.{Follows}
use Rattle.apf_trace_reader.specs.Views.{ReaderView}
use Rattle.apf_trace_reader.proofs.Ends.{handed_out}
use Rattle.apf_trace_reader.proofs.Holding.{leads_held, leads_on, popped_leads}
use Rattle.apf_trace_reader.proofs.reader.TraceReader.pop.Goals as goal

pub invariant_of-self : goal.invariant_of-self
invariant_of-self c =
    let w = c.self.inside.window in
    record {
      most = c.self.invariant.most;
      few = c.self.invariant.few;
      held = leads_held w.last c.pop.result c.pop.new.self (popped_leads w c.pop.new.self c.pop.result c.self.invariant.held c.pop.ensures.popped);
    }

pub returns-clause-goes : goal.returns-clause-goes
returns-clause-goes c =
    rw (← c.self.view_is) (λ bytes told left h.
    handed_out c.every_window_is_in_order.ensures.same c.every_window_is_in_order.ensures.order c.every_window_is_in_order.ensures.whole bytes told left
    (record { lines = c.self.inside.lines; window = c.self.inside.window; number = c.self.inside.number; stage = c.self.inside.stage; has_cost = c.self.inside.has_cost }) c.pop.new.self c.pop.result h
    (ap (λ v. v.stage) c.self.view_is ∙ c.requires) c.pop.ensures.popped c.pop.ensures.size)

pub returns-clause-next : goal.returns-clause-next
returns-clause-next c =
    let w = c.self.inside.window in
    subst (λ (v : ReaderView). Follows v.window.last (Ok c.pop.result) c.pop.new.self.last) c.self.view_is
    (leads_on w.last c.pop.result c.pop.new.self (popped_leads w c.pop.new.self c.pop.result c.self.invariant.held c.pop.ensures.popped))
