-- What windows hand out is in order.
use Rattle.apf_times.proofs.Handings.{run_order, run_same}
use Rattle.apf_times.proofs.Lateness.{run_few, run_in_time, run_late}
use Rattle.apf_times.proofs.Lines.{one_in_place, run_whole}
use Rattle.apf_times.proofs.laws.every_window_is_in_order.Goals as goal

pub returns : goal.returns
returns g c = record {
  same = run_same;
  order = run_order;
  one = one_in_place;
  whole = run_whole;
  few = run_few;
  late = run_late;
  in_time = run_in_time;
}
