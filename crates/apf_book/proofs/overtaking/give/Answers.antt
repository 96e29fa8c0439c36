-- A Dispatch gives its width.
use Rattle.std.proofs.Common.{◌≡◌, ◌+◌, ◌<◌, ◌∷◌, sym, ap, ◌∙◌, subst}
use Rattle.apf_model.specs.History.{queue_of}
use Rattle.apf_model.specs.Waits.{granted}
use Rattle.apf_book.proofs.Givings.{granted_dispatch}
use Rattle.apf_book.proofs.overtaking.give.Goals as goal

pub returns-in-Dispatch-clause-all : goal.returns-in-Dispatch-clause-all
returns-in-Dispatch-clause-all c = λ stretch queues.
    let widths = c.args.widths.now in
    subst (λ e. queue_of e < queues → granted queues widths (e ∷ stretch) ≡ granted queues widths stretch + c.from-width.result) (sym c.in-Dispatch.is)
    (λ low. granted_dispatch widths stretch c.in-Dispatch.request c.in-Dispatch.queue queues low ∙ ap (λ n. granted queues widths stretch + n) (sym c.from-width.ensures))
