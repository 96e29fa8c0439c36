-- One more came, and who was over is counted.
use Rattle.std.proofs.Common.{◌+◌, List, [], ◌∷◌, ◌++◌, sym, subst, length-append, arith}
use Rattle.apf_stream.specs.declared.ended.Ended.{Ended}
use Rattle.apf_stream.specs.States.{state_of}
use Rattle.apf_stream.specs.Ties.{AreTied}
use Rattle.apf_rows.specs.Rows.{AreRows}
use Rattle.apf_simulator.specs.Lanes.{IsLaneUnder, IsTold, LaneView}
use Rattle.apf_simulator.proofs.Laning.{is_told, lane_goes, one_asked, one_run}
use Rattle.apf_simulator.proofs.lane.Lane.arrive.Goals as goal

pub arrive-requires-clause-tied : goal.arrive-requires-clause-tied
arrive-requires-clause-tied c = subst (λ (v : LaneView). AreTied v.state) (sym c.self.view_is) c.requires.lived.lane.still

pub are_countable-requires : goal.are_countable-requires
are_countable-requires c =
    let l = c.requires.lived in
    let lane = subst (IsLaneUnder l.under l.opening l.came l.told) (sym c.self.view_is) l.lane in
    let v : LaneView = record { state = state_of c.self.inside.stream; rows = c.self.inside.rows; ends = c.self.inside.ends.items; came = c.self.inside.came } in
    subst (λ (ends : List Ended). IsTold (state_of c.arrive.new.stream) c.meet.new.self ends) (sym c.as_slice.ensures.value)
    (is_told c.every_run_goes_on.ensures l.under [] l.opening l.came (c.args.came.now ∷ []) l.told c.arrive.new.ends.items v (state_of c.arrive.new.stream) lane (one_run c.args.came.now c.asked_of-asked.result (state_of c.self.inside.stream) (state_of c.arrive.new.stream) c.clear.new.self.items c.arrive.new.ends.items c.asked_of-asked.ensures.is c.clear.ensures.items c.in_ok-arrive.ensures.run) (one_asked c.args.came.now c.asked_of-asked.result c.asked_of-asked.ensures.is c.asked_of-asked.ensures.range) c.meet.new.self (c.in_ok-meet.ensures.met l.came lane.met))

pub returns-clause-goes : goal.returns-clause-goes
returns-clause-goes c under opening came told is =
    let lane = subst (IsLaneUnder under opening came told) (sym c.self.view_is) is in
    let v : LaneView = record { state = state_of c.self.inside.stream; rows = c.self.inside.rows; ends = c.self.inside.ends.items; came = c.self.inside.came } in
    let ends = c.arrive.new.ends.items in
    let x = c.args.came.now in
    let n = lane.number in
    let m = length-append came (x ∷ []) in
    let met = c.in_ok-count_all.ensures.met (came ++ x ∷ []) (c.in_ok-meet.ensures.met came lane.met) in
    let are = subst (λ (l : List Ended). AreRows (told ++ l) c.count_all.new.rows) c.as_slice-2.ensures.value (c.in_ok-count_all.ensures.added told (c.in_ok-meet.ensures.rows told lane.are)) in
    (lane_goes c.every_run_goes_on.ensures under opening came (x ∷ []) told ends v (state_of c.arrive.new.stream) lane (one_run c.args.came.now c.asked_of-asked.result (state_of c.self.inside.stream) (state_of c.arrive.new.stream) c.clear.new.self.items c.arrive.new.ends.items c.asked_of-asked.ensures.is c.clear.ensures.items c.in_ok-arrive.ensures.run) (one_asked c.args.came.now c.asked_of-asked.result c.asked_of-asked.ensures.is c.asked_of-asked.ensures.range) c.count_all.new.rows (c.self.inside.came + 1) c.in_ok-arrive.ensures.tied met are (omega arith))
