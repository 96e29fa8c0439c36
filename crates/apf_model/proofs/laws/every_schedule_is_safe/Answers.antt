use Rattle.std.proofs.Common.{◌≡◌, ◌≤◌, List, sym, subst}
use Rattle.std.specs.Prelude.{count_by}
use Rattle.apf_model.specs.declared.moves.Move.{Move}
use Rattle.apf_model.specs.declared.moves.Move.TheVariants.{Take, Grant}
use Rattle.apf_model.specs.Schedule.{IsSchedule, leaves}
use Rattle.apf_model.proofs.Places.{IsSchedule-append, allowed_at}
use Rattle.apf_model.proofs.Counts.{few_steps, one_arrival, one_grant, grant_after_enter, left_never_stood}
use Rattle.apf_model.proofs.Decided.{one_decide, executed_stood, waiting_undecided_or_cancelled, no_arrival_after_close}
use Rattle.apf_model.proofs.Seats.{is_alone, seats_bounded}
use Rattle.apf_model.proofs.laws.every_schedule_is_safe.Goals as goal

pub returns : goal.returns
returns c = λ o ms s.
    let at = λ (split : List Move) (e : split ≡ ms). subst (IsSchedule o) (sym e) s in record {
      beginnings = λ later earlier e. IsSchedule-append o later earlier (at _ e);
      one_decide = λ r. one_decide o ms r s;
      one_release = λ r. (few_steps o ms r s).2;
      one_arrival = λ r. one_arrival o ms r s;
      one_grant = λ r. one_grant o ms r s;
      grant_after_enter = λ later earlier r e. grant_after_enter o later earlier r (at _ e);
      executed_stood = λ r is. let h = executed_stood o ms r s is in (h.0, (h.1.0, h.1.1, h.1.2));
      left_never_stood = λ later earlier r e some. left_never_stood o later earlier r (at _ e) (subst (λ (l : List Move). 1 ≤ count_by (leaves r) l) (sym e) some);
      waiting_undecided_or_cancelled = λ r. waiting_undecided_or_cancelled o ms r s;
      no_arrival_after_close = λ later earlier r e. no_arrival_after_close o later earlier r (at _ e);
      take_fits_its_limit = λ later earlier r e. (allowed_at o later (Take r) earlier (at _ e)).fits;
      grant_fits_its_limit = λ later earlier r e. (allowed_at o later (Grant r) earlier (at _ e)).fits;
      alone = λ widths. is_alone o ms widths s;
      bounded = λ most widths. seats_bounded o ms most widths s;
    }
