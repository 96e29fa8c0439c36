-- What the Desk did with a request, read in the log.
use Rattle.std.proofs.Common.{refl}
use Rattle.apf_history.specs.declared.events.Status.TheVariants as status_is
use Rattle.apf_gate.specs.declared.record.Service.TheVariants.{RefusedFull, Waiting, Settled}
use Rattle.apf_book.proofs.Opened.{opened}
use Rattle.apf_book.proofs.Agreeing.{is_waiting, is_settled, is_full}
use Rattle.apf_book.proofs.Keeping.{statuses, says}
use Rattle.apf_book.proofs.laws.every_book_is_kept.Goals as goal

pub returns : goal.returns
returns c = λ desk v kept.
    let law = statuses (opened c.legal_histories_are_in_order.ensures).statuses desk v kept in
    record {
      fair = kept.of_log.fair;
      waiting_is = λ r. (let same = says desk v kept r Waiting status_is.Waits refl is_waiting in ((λ is. (law.waits r).0 (same.0 is)), (λ stands. same.1 ((law.waits r).1 stands))));
      holds_none = kept.holds_none;
      dispatched_is = λ r. (let same = says desk v kept r Settled status_is.Dispatched refl is_settled in ((λ is. (law.dispatched r).0 (same.0 is)), (λ here. same.1 ((law.dispatched r).1 here))));
      struck_is_told = λ r q here. kept.struck r ((law.struck r).1 (q, here));
      full_is = λ r. (let same = says desk v kept r RefusedFull status_is.Full refl is_full in ((λ is. (law.full r).0 (same.0 is)), (λ here. same.1 ((law.full r).1 here))));
    }
