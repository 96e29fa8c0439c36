-- Nobody came, and who was over is counted.
use Rattle.std.proofs.Common.{List, [], ◌++◌, length, sym, ap, ◌∙◌, subst, append-nil}
use Rattle.apf_times.specs.declared.window.Arrival.{Arrival}
use Rattle.apf_traces.specs.declared.request.TraceRequest.{TraceRequest}
use Rattle.apf_stream.specs.declared.ended.Ended.{Ended}
use Rattle.apf_stream.specs.States.{state_of}
use Rattle.apf_rows.specs.Rows.{AreRows}
use Rattle.apf_simulator.specs.Lanes.{IsLaneUnder, IsTold, LaneView}
use Rattle.apf_simulator.proofs.Laning.{is_told, lane_goes, none, none_run, still_met}
use Rattle.apf_simulator.proofs.lane.Lane.advance.Goals as goal

pub are_countable-requires : goal.are_countable-requires
are_countable-requires c =
    let l = c.requires.lived in
    let lane = subst (IsLaneUnder l.under l.opening l.came l.told) (sym c.self.view_is) l.lane in
    let v : LaneView = record { state = state_of c.self.inside.stream; rows = c.self.inside.rows; ends = c.self.inside.ends.items; came = c.self.inside.came } in
    subst (λ (ends : List Ended). IsTold (state_of c.advance.new.self) c.self.inside.rows ends) (sym c.as_slice.ensures.value)
    (is_told c.every_run_goes_on.ensures l.under [] l.opening l.came none l.told c.advance.new.ends.items v (state_of c.advance.new.self) lane (none_run [] (state_of c.self.inside.stream) (state_of c.advance.new.self) c.clear.new.self.items c.advance.new.ends.items c.clear.ensures.items c.in_ok-advance.ensures.run) tt c.self.inside.rows (still_met l.came c.self.inside.rows lane.met))

pub returns-clause-goes : goal.returns-clause-goes
returns-clause-goes c under opening came told is =
    let lane = subst (IsLaneUnder under opening came told) (sym c.self.view_is) is in
    let v : LaneView = record { state = state_of c.self.inside.stream; rows = c.self.inside.rows; ends = c.self.inside.ends.items; came = c.self.inside.came } in
    let ends = c.advance.new.ends.items in
    let met = still_met came c.count_all.new.rows (c.in_ok-count_all.ensures.met came lane.met) in
    let are = subst (λ (l : List Ended). AreRows (told ++ l) c.count_all.new.rows) c.as_slice-2.ensures.value (c.in_ok-count_all.ensures.added told lane.are) in (
    lane_goes c.every_run_goes_on.ensures under opening came none told ends v (state_of c.advance.new.self) lane (none_run [] (state_of c.self.inside.stream) (state_of c.advance.new.self) c.clear.new.self.items c.advance.new.ends.items c.clear.ensures.items c.in_ok-advance.ensures.run) tt c.count_all.new.rows c.self.inside.came c.in_ok-advance.ensures.tied met are
    (lane.number ∙ ap (λ (l : List (Arrival TraceRequest)). length l) (sym (append-nil came)))
    )
