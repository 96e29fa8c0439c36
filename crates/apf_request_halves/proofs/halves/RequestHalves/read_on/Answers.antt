-- One turn after the other, up to the line that is asked for.
use Rattle.std.proofs.Common.{◌++◌, map, Ok, Err, sym, subst}
use Rattle.apf_request_halves.specs.declared.halves.Turn.{Turn}
use Rattle.apf_request_halves.specs.declared.halves.Turn.TheVariants.{Found, More, Over}
use Rattle.apf_request_halves.specs.Held.{placed}
use Rattle.apf_request_halves.specs.Reading.{Goes, GoesMore, HalvesView}
use Rattle.apf_request_halves.proofs.Turning.{over, turned}
use Rattle.apf_request_halves.proofs.halves.RequestHalves.read_on.Goals as goal

pub returns-in-Ok-Found : goal.returns-in-Ok-Found
returns-in-Ok-Found g c =
    let mid = g.R.Read.remaining c.loop.input in
    let left = g.R.Read.remaining c.turn.new.input in
    let goes = subst (λ (t : Turn). GoesMore c.args.id.now mid left c.loop.self (Ok t) c.turn.new.self) c.in-Ok-Found.field-0-is c.in-Ok-Found.ensures in
    λ without bytes asked h.
    turned c.args.id.now (g.R.Read.remaining c.args.input.now) mid left bytes asked c.loop.self c.turn.new.self (Ok (Found c.in-Ok-Found.line)) (c.loop.invariant bytes asked h without) goes

pub returns-in-Ok-Over : goal.returns-in-Ok-Over
returns-in-Ok-Over g c =
    let mid = g.R.Read.remaining c.loop.input in
    let left = g.R.Read.remaining c.turn.new.input in
    let id = c.args.id.now in
    let v : HalvesView = record { lines = c.self.inside.lines; held = map placed c.self.inside.store.entries; number = c.self.inside.number; dropped = c.self.inside.dropped; limit = c.self.inside.limit; is_ended = c.self.inside.is_ended } in
    let goes = subst (λ (t : Turn). GoesMore id mid left c.loop.self (Ok t) c.turn.new.self) c.in-Ok-Over.field-0-is c.in-Ok-Over.ensures in
    λ without bytes asked h.
    let s = turned id (g.R.Read.remaining c.args.input.now) mid left bytes asked c.loop.self c.turn.new.self (Ok Over) (c.loop.invariant bytes asked h without) goes in
    (s.0, s.1, rw c.limit_further-self-inside.ensures (over id (bytes ++ s.0) asked left v (subst (Goes id (bytes ++ s.0) asked left (Ok Over)) (sym c.self.view_is) s.2)))

pub returns-in-Err : goal.returns-in-Err
returns-in-Err g c =
    let mid = g.R.Read.remaining c.loop.input in
    let left = g.R.Read.remaining c.turn.new.input in
    λ without bytes asked h.
    turned c.args.id.now (g.R.Read.remaining c.args.input.now) mid left bytes asked c.loop.self c.turn.new.self (Err c.in-Err.fault) (c.loop.invariant bytes asked h without) c.in-Err.ensures

pub loop-preserved : goal.loop-preserved
loop-preserved g c =
    let mid = g.R.Read.remaining c.loop.input in
    let left = g.R.Read.remaining c.turn.new.input in
    let goes = subst (λ (t : Turn). GoesMore c.args.id.now mid left c.loop.self (Ok t) c.turn.new.self) c.in-Ok-More.field-0-is c.in-Ok-More.ensures in
    λ bytes asked h without. turned c.args.id.now (g.R.Read.remaining c.args.input.now) mid left bytes asked c.loop.self c.turn.new.self (Ok More) (c.loop.invariant bytes asked h without) goes

pub returns : goal.returns
returns g c = λ without bytes asked h.
    let m = c.loop.invariant bytes asked h without in
    (m.0, m.1, m.2.0)
