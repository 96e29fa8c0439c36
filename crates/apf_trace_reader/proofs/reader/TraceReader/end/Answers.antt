-- What stands behind the last LF has a fault.
use Rattle.std.proofs.Common.{◌≡◌, List, ℕ, true, sym, ap, ◌∙◌, subst, rules}
use Rattle.apf_lines.specs.Lines.{TellsRest}
use Rattle.apf_trace_reader.specs.Reading.{AreUntaken, IsRefused}
use Rattle.apf_trace_reader.specs.declared.stage.Stage.TheVariants.{Reading}
use Rattle.apf_trace_reader.specs.Views.{ReaderView}
use Rattle.apf_trace_reader.proofs.Ends.{rest_refused}
use Rattle.apf_trace_reader.proofs.reader.TraceReader.end.Goals as goal

pub returns-clause-goes : goal.returns-clause-goes
returns-clause-goes c =
    let v : ReaderView = record { lines = c.self.inside.lines; window = c.self.inside.window; number = c.self.inside.number; stage = c.self.inside.stage; has_cost = c.self.inside.has_cost } in
    let reading : v.stage ≡ Reading = ap (λ (u : ReaderView). u.stage) c.self.view_is ∙ c.requires in
    let some : TellsRest v.lines true = let there : c.has_rest.result ≡ true = search (c.if-not-has_rest.false, rules) in subst (TellsRest v.lines) there c.has_rest.ensures in
    rw (← c.self.view_is, c.refuse.ensures.told) (λ bytes told left end h whole.
    subst (IsRefused bytes told left c.unended_fault-fault.result) (sym c.refuse.ensures.same)
    (rest_refused bytes told left v c.unended_fault-fault.result c.refuse.new.self.stage end h whole reading some
    (λ other. c.unended_fault-fault.ensures other h.rest (subst (λ s. AreUntaken s h.rest v.lines) reading h.untaken)) c.refuse.ensures.stage))
