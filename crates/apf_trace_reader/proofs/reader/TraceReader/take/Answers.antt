-- The line that is held is taken, or it is not.
use Rattle.std.proofs.Common.{◌+◌, Ok, sym, ap, ◌∙◌, subst}
use Rattle.apf_times.specs.declared.window.Arrival.{Arrival}
use Rattle.apf_traces.specs.declared.request.TraceRequest.{TraceRequest}
use Rattle.apf_trace_reader.specs.Reading.{Follows, IsRefused, ended}
use Rattle.apf_trace_reader.specs.Turns.{IsNotTaken, IsTaken}
use Rattle.apf_trace_reader.specs.Views.{ReaderView}
use Rattle.apf_trace_reader.proofs.Holding.{leads_held, leads_on, taken_leads}
use Rattle.apf_trace_reader.proofs.Steps.{line_refused, line_taken}
use Rattle.apf_trace_reader.proofs.reader.TraceReader.take.Goals as goal

pub invariant_of-self : goal.invariant_of-self
invariant_of-self c =
    let w = c.self.inside.window in
    let taken = c.in-Ok.ensures.ok in
    record {
      most = c.self.invariant.most;
      few = taken.few;
      held = leads_held w.last c.in-Ok.out c.take_line.new.window (taken_leads (c.self.inside.number + 1) (ended c.line.result.now) w c.take_line.new.window c.in-Ok.out c.in-Ok.has_cost taken c.self.invariant.held);
    }

pub returns-in-Ok-clause-goes : goal.returns-in-Ok-clause-goes
returns-in-Ok-clause-goes c =
    let v : ReaderView = record { lines = c.self.inside.lines; window = c.self.inside.window; number = c.self.inside.number; stage = c.self.inside.stage; has_cost = c.self.inside.has_cost } in
    let taken : IsTaken (v.number + 1) (ended v.lines.line) v.window c.in-Ok.out c.take_line.new.window c.in-Ok.has_cost = subst (λ l. IsTaken (v.number + 1) (ended l) v.window c.in-Ok.out c.take_line.new.window c.in-Ok.has_cost) c.line.ensures c.in-Ok.ensures.ok in
    rw (← c.self.view_is) (λ bytes told left h.
    line_taken c.every_window_is_in_order.ensures.in_time c.every_window_is_in_order.ensures.late bytes told left v h (ap (λ u. u.stage) c.self.view_is ∙ c.requires) c.take_line.new.window c.in-Ok.out c.in-Ok.has_cost taken)

pub returns-in-Ok-clause-next : goal.returns-in-Ok-clause-next
returns-in-Ok-clause-next c =
    let w = c.self.inside.window in
    subst (λ (v : ReaderView). Follows v.window.last (Ok c.in-Ok.out) c.take_line.new.window.last) c.self.view_is
    (leads_on w.last c.in-Ok.out c.take_line.new.window (taken_leads (c.self.inside.number + 1) (ended c.line.result.now) w c.take_line.new.window c.in-Ok.out c.in-Ok.has_cost c.in-Ok.ensures.ok c.self.invariant.held))

pub returns-in-Err-clause-goes : goal.returns-in-Err-clause-goes
returns-in-Err-clause-goes c =
    let v : ReaderView = record { lines = c.self.inside.lines; window = c.self.inside.window; number = c.self.inside.number; stage = c.self.inside.stage; has_cost = c.self.inside.has_cost } in
    let not : IsNotTaken (v.number + 1) (ended v.lines.line) v.window c.in-Err.fault c.take_line.new.window = subst (λ l. IsNotTaken (v.number + 1) (ended l) v.window c.in-Err.fault c.take_line.new.window) c.line.ensures c.in-Err.ensures.err in
    rw (← c.self.view_is, c.refuse.ensures.told) (λ bytes told left h.
    subst (IsRefused bytes told left c.in-Err.fault) (sym c.refuse.ensures.same)
    (line_refused c.every_window_is_in_order.ensures.in_time c.every_window_is_in_order.ensures.late bytes told left v h (ap (λ u. u.stage) c.self.view_is ∙ c.requires) c.take_line.new.window c.in-Err.fault c.refuse.new.self.stage not c.refuse.ensures.stage))
