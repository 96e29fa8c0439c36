-- The limit was set, and who was over is counted.
use Rattle.std.proofs.Common.{List, [], ◌∷◌, ◌++◌, length, sym, ap, ◌∙◌, subst, append-nil}
use Rattle.apf_times.specs.declared.window.Arrival.{Arrival}
use Rattle.apf_traces.specs.declared.request.TraceRequest.{TraceRequest}
use Rattle.apf_stream.specs.declared.ended.Ended.{Ended}
use Rattle.apf_stream.specs.States.{State, state_of}
use Rattle.apf_rows.specs.Rows.{AreRows}
use Rattle.apf_simulator.specs.Lanes.{IsLaneUnder, IsTold, LaneView}
use Rattle.apf_simulator.proofs.Laning.{is_told, lane_under, none, none_run, still_met}
use Rattle.apf_simulator.proofs.lane.Lane.set_limit.Goals as goal

pub are_countable-requires : goal.are_countable-requires
are_countable-requires c =
    let l = c.requires.lived in
    let lane = subst (IsLaneUnder l.under l.opening l.came l.told) (sym c.self.view_is) l.lane in
    let v : LaneView = record { state = state_of c.self.inside.stream; rows = c.self.inside.rows; ends = c.self.inside.ends.items; came = c.self.inside.came } in
    subst (λ (ends : List Ended). IsTold (state_of c.set_limit.new.self) c.self.inside.rows ends) (sym c.as_slice.ensures.value)
    (is_told c.every_run_goes_on.ensures l.under (c.args.new ∷ []) l.opening l.came none l.told c.set_limit.new.ends.items v (state_of c.set_limit.new.self) lane (none_run (c.args.new ∷ []) (state_of c.self.inside.stream) (state_of c.set_limit.new.self) c.clear.new.self.items c.set_limit.new.ends.items c.clear.ensures.items c.in_ok-set_limit.ensures.run) tt c.self.inside.rows (still_met l.came c.self.inside.rows lane.met))

pub returns-clause-goes : goal.returns-clause-goes
returns-clause-goes c under opening came told is =
    let lane = subst (IsLaneUnder under opening came told) (sym c.self.view_is) is in
    let n = c.args.new in
    let s : State = state_of c.self.inside.stream in
    let s' : State = state_of c.set_limit.new.self in
    let v : LaneView = record { state = s; rows = c.self.inside.rows; ends = c.self.inside.ends.items; came = c.self.inside.came } in
    let rows = c.count_all.new.rows in
    let ends = c.set_limit.new.ends.items in
    let met = still_met came rows (c.in_ok-count_all.ensures.met came lane.met) in
    let are = subst (λ (l : List Ended). AreRows (told ++ l) rows) c.as_slice-2.ensures.value (c.in_ok-count_all.ensures.added told lane.are) in
    let run = none_run (n ∷ []) s s' c.clear.new.self.items ends c.clear.ensures.items c.in_ok-set_limit.ensures.run in
    subst (λ (l : List (Arrival TraceRequest)). IsLaneUnder (under ++ n ∷ []) opening l (told ++ ends) (record { state = s'; rows = rows; ends = ends; came = c.self.inside.came })) (append-nil came)
    (lane_under c.every_run_goes_on.ensures under (n ∷ []) opening came none told ends v s' lane run tt rows c.self.inside.came c.in_ok-set_limit.ensures.tied met are
    (lane.number ∙ ap (λ (l : List (Arrival TraceRequest)). length l) (sym (append-nil came))))
