-- The line was taken, or it has a fault.
use Rattle.std.proofs.Common.{◌≡◌, ◌<◌, ◌+◌, ◌-◌, ◌^◌, cond, List, [], ◌∷◌, ◌++◌, ℕ, Err, sym, ap, ◌∙◌, subst, rules}
use Rattle.std.specs.Prelude.{◌||◌}
use Rattle.apf_traces.specs.TraceFile.{Line}
use Rattle.apf_audit.specs.declared.fault.AuditFault.{AuditFault}
use Rattle.apf_audit_reader.specs.declared.fault.ReadFault.TheVariants.{Log}
use Rattle.apf_audit_reader.specs.declared.stage.Stage.TheVariants.{Reading}
use Rattle.apf_audit_reader.specs.Giving.{Gives, IsRefusal}
use Rattle.apf_audit_reader.specs.Log.{read_from}
use Rattle.apf_audit_reader.specs.Turns.{Takes, line_held}
use Rattle.apf_audit_reader.specs.Views.{ReaderView}
use Rattle.apf_audit_reader.proofs.Steps.{counted_more, cut_more, line_refused, line_taken}
use Rattle.apf_audit_reader.proofs.reader.AuditReader.take.Goals as goal

pub returns-in-Ok-clause-takes : goal.returns-in-Ok-clause-takes
returns-in-Ok-clause-takes c =
    let v : ReaderView = record { lines = c.self.inside.lines; window = c.self.inside.window; estimates = c.self.inside.estimates; number = c.self.inside.number; unnamed = c.self.inside.unnamed; is_cut = c.self.inside.is_cut; stage = c.self.inside.stage } in
    let window = c.every_window_is_in_order.ensures in
    let line : Line = record { bytes = line_held c.args.is_ended v.lines; is_ended = c.args.is_ended } in
    let reading : v.stage ≡ Reading = ap (λ (u : ReaderView). u.stage) c.self.view_is ∙ c.requires.stage in
    let short : v.number < 2 ^ 64 - 1 = subst (λ (u : ReaderView). u.number < 2 ^ 64 - 1) (sym c.self.view_is) c.requires.room in
    let gives : Gives c.args.choice.now (v.number + 1) line v.window v.estimates c.in-Ok.given c.take_line.new.window c.take_line.new.estimates =
    subst (λ bytes. Gives c.args.choice.now (v.number + 1) (record { bytes = bytes; is_ended = c.args.is_ended }) v.window v.estimates c.in-Ok.given c.take_line.new.window c.take_line.new.estimates) c.line_of.ensures c.in-Ok.ensures.ok in
    rw (← c.self.view_is, c.one_if.ensures.value, c.either-is_cut.ensures) (λ lines told h.
    line_taken window.same window.few window.in_time window.late c.args.choice.now lines told v h reading short line c.take_line.new.window c.take_line.new.estimates (v.unnamed + cond c.in-Ok.given.is_unnamed 1 0) (v.is_cut || c.in-Ok.given.is_unfinished)
    (counted_more lines line c.in-Ok.given.is_unnamed v.unnamed gives.unnamed h.unnamed) (cut_more lines line c.in-Ok.given.is_unfinished v.is_cut gives.unfinished h.is_cut) c.in-Ok.given gives)

pub returns-in-Err-clause-takes : goal.returns-in-Err-clause-takes
returns-in-Err-clause-takes c =
    let v : ReaderView = record { lines = c.self.inside.lines; window = c.self.inside.window; estimates = c.self.inside.estimates; number = c.self.inside.number; unnamed = c.self.inside.unnamed; is_cut = c.self.inside.is_cut; stage = c.self.inside.stage } in
    let window = c.every_window_is_in_order.ensures in
    let fault : AuditFault = c.in-Err.fault in
    let line : Line = record { bytes = line_held c.args.is_ended v.lines; is_ended = c.args.is_ended } in
    let reading : v.stage ≡ Reading = ap (λ (u : ReaderView). u.stage) c.self.view_is ∙ c.requires.stage in
    let short : v.number < 2 ^ 64 - 1 = subst (λ (u : ReaderView). u.number < 2 ^ 64 - 1) (sym c.self.view_is) c.requires.room in
    let size = ap (λ (u : ReaderView). u.window.size) c.refuse.ensures.same ∙ c.in-Err.ensures.size in
    let went : Takes c.args.choice.now line v (Err (Log fault)) c.refuse.new.self = λ lines told h. (
      ap (λ (u : ReaderView). u.stage) c.refuse.ensures.same,
      λ other later.
          subst (λ n. read_from c.args.choice.now n [] 1 (lines ++ line ∷ later) ≡ Err fault) (sym size)
          (line_refused window.same window.few window.in_time window.late c.args.choice.now lines told v h reading short line fault
          (subst (λ bytes. IsRefusal c.args.choice.now (v.number + 1) (record { bytes = bytes; is_ended = c.args.is_ended }) v.window fault) c.line_of.ensures (c.in-Err.ensures.err other)) later),
    ) in
    rw c.refuse.ensures.told
    (subst (λ (u : ReaderView). Takes c.args.choice.now (record { bytes = line_held c.args.is_ended u.lines; is_ended = c.args.is_ended }) u (Err (Log fault)) c.refuse.new.self) c.self.view_is went)
