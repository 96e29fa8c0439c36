-- The first of what is held leaves the window.
use Rattle.std.proofs.Common.{ap, ◌∙◌}
use Rattle.apf_audit_reader.specs.Views.{ReaderView}
use Rattle.apf_audit_reader.proofs.Ends.{popped}
use Rattle.apf_audit_reader.proofs.reader.AuditReader.pop.Goals as goal

pub returns-clause-goes : goal.returns-clause-goes
returns-clause-goes c =
    let v : ReaderView = record { lines = c.self.inside.lines; window = c.self.inside.window; estimates = c.self.inside.estimates; number = c.self.inside.number; unnamed = c.self.inside.unnamed; is_cut = c.self.inside.is_cut; stage = c.self.inside.stage } in
    let window = c.every_window_is_in_order.ensures in
    rw (← c.self.view_is) (λ choice bytes told left h.
    popped window.same window.few window.order window.whole choice bytes told left v h (ap (λ u. u.stage) c.self.view_is ∙ c.requires) c.pop-out.new.self c.hand.new.estimates c.pop-out.result c.hand.result c.pop-out.ensures.popped c.pop-out.ensures.size c.hand.ensures)
