-- A line that is too long, or no line yet.
use Rattle.std.proofs.Common.{◌≡◌, Err, sym, subst}
use Rattle.apf_trace_reader.specs.declared.fault.ReadFault.TheVariants.{Trace}
use Rattle.apf_trace_reader.specs.declared.stage.Stage.TheVariants.{Reading}
use Rattle.apf_trace_reader.specs.Reading.{IsRefused}
use Rattle.apf_trace_reader.specs.Views.{ReaderView}
use Rattle.apf_trace_reader.proofs.Steps.{long_refused, nothing_cut, nothing_more}
use Rattle.apf_trace_reader.proofs.reader.TraceReader.turn.Goals as goal

pub returns-in-TooLong-clause-goes : goal.returns-in-TooLong-clause-goes
returns-in-TooLong-clause-goes g c =
    let v : ReaderView = record { lines = c.self.inside.lines; window = c.self.inside.window; number = c.self.inside.number; stage = c.self.inside.stage; has_cost = c.self.inside.has_cost } in
    let reading : v.stage ≡ Reading = c.in-Reading.is in
    let fault = c.too_long-fault.result in
    rw (← c.self.view_is, c.refuse.ensures.told) (λ bytes told h.
    nothing_more bytes told (g.R.Read.remaining c.args.input.now) (Err (Trace fault)) c.refuse.new.self
    (subst (IsRefused bytes told (g.R.Read.remaining c.args.input.now) fault) (sym c.refuse.ensures.same)
    (long_refused bytes told (g.R.Read.remaining c.args.input.now) v c.cut.new.self fault c.refuse.new.self.stage h reading c.self.invariant.most c.in-TooLong.ensures c.too_long-fault.ensures.fault c.too_long-fault.ensures.memory c.refuse.ensures.stage)))

pub returns-in-Nothing-clause-goes : goal.returns-in-Nothing-clause-goes
returns-in-Nothing-clause-goes g c =
    let v : ReaderView = record { lines = c.self.inside.lines; window = c.self.inside.window; number = c.self.inside.number; stage = c.self.inside.stage; has_cost = c.self.inside.has_cost } in
    let reading : v.stage ≡ Reading = c.in-Reading.is in
    rw (← c.self.view_is) (λ bytes told h.
    let without = nothing_cut bytes told (g.R.Read.remaining c.args.input.now) v c.cut.new.self h reading c.in-Nothing.ensures in
    c.fill.ensures.goes bytes told without.read without.whole)
