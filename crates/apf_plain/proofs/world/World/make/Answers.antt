-- A step that is allowed keeps the seats at most 20,000.
use Rattle.std.proofs.Common.{refl, subst, arith}
use Rattle.apf_model.specs.declared.moves.Move.{Move}
use Rattle.apf_model.specs.declared.moves.Stage.TheVariants.{Away, Waits, Stands, Gone}
use Rattle.apf_model.specs.World.{Allowed, MayTake, MayEnter, MayGrant, MayLeave, MayRelease}
use Rattle.apf_plain.specs.Worlds.{world_of, widths_of}
use Rattle.apf_plain.proofs.Worlds.{seats_written}
use Rattle.apf_plain.proofs.Small.{stands_small, goes_small}
use Rattle.apf_plain.proofs.world.World.make.Goals as goal

pub put_stage-requires-clause-few_seats : goal.put_stage-requires-clause-few_seats
put_stage-requires-clause-few_seats c = let p = c.args.self.now in
    let may : MayTake (widths_of p) (world_of p) c.in-Take.request = subst (λ (m : Move). Allowed (widths_of p) m (world_of p)) c.in-Take.is c.requires.allowed in
    let same = p.as_many_stages in
    let e = seats_written (widths_of p) p.stages.items c.in-Take.request Stands (let l = may.is_request in omega arith) in
    let small = stands_small (widths_of p) (world_of p) (c.every_world_adds_up.ensures (widths_of p) (world_of p)) c.in-Take.request Away p.are_widths p.low may.is_request may.has_not_come refl may.fits in omega arith

pub put_stage-requires-in-Grant-clause-few_seats : goal.put_stage-requires-in-Grant-clause-few_seats
put_stage-requires-in-Grant-clause-few_seats c = let p = c.args.self.now in
    let may : MayGrant (widths_of p) (world_of p) c.in-Grant.request = subst (λ (m : Move). Allowed (widths_of p) m (world_of p)) c.in-Grant.is c.requires.allowed in
    let same = p.as_many_stages in
    let e = seats_written (widths_of p) p.stages.items c.in-Grant.request Stands (let l = may.is_request in omega arith) in
    let small = stands_small (widths_of p) (world_of p) (c.every_world_adds_up.ensures (widths_of p) (world_of p)) c.in-Grant.request Waits p.are_widths p.low may.is_request may.is_waiting refl may.fits in omega arith

pub put_stage-requires-in-Enter-clause-few_seats : goal.put_stage-requires-in-Enter-clause-few_seats
put_stage-requires-in-Enter-clause-few_seats c = let p = c.args.self.now in
    let may : MayEnter (widths_of p) (world_of p) c.in-Enter.request = subst (λ (m : Move). Allowed (widths_of p) m (world_of p)) c.in-Enter.is c.requires.allowed in
    let same = p.as_many_stages in
    let e = seats_written (widths_of p) p.stages.items c.in-Enter.request Waits (let l = may.is_request in omega arith) in
    let small = goes_small (widths_of p) (world_of p) (c.every_world_adds_up.ensures (widths_of p) (world_of p)) c.in-Enter.request Away Waits may.is_request may.has_not_come refl p.few_seats in omega arith

pub put_stage-requires-in-Leave-clause-few_seats : goal.put_stage-requires-in-Leave-clause-few_seats
put_stage-requires-in-Leave-clause-few_seats c = let p = c.args.self.now in
    let may : MayLeave (widths_of p) (world_of p) c.in-Leave.request = subst (λ (m : Move). Allowed (widths_of p) m (world_of p)) c.in-Leave.is c.requires.allowed in
    let same = p.as_many_stages in
    let e = seats_written (widths_of p) p.stages.items c.in-Leave.request Gone (let l = may.is_request in omega arith) in
    let small = goes_small (widths_of p) (world_of p) (c.every_world_adds_up.ensures (widths_of p) (world_of p)) c.in-Leave.request Waits Gone may.is_request may.is_waiting refl p.few_seats in omega arith

pub put_stage-requires-in-Release-clause-few_seats : goal.put_stage-requires-in-Release-clause-few_seats
put_stage-requires-in-Release-clause-few_seats c = let p = c.args.self.now in
    let may : MayRelease (widths_of p) (world_of p) c.in-Release.request = subst (λ (m : Move). Allowed (widths_of p) m (world_of p)) c.in-Release.is c.requires.allowed in
    let same = p.as_many_stages in
    let e = seats_written (widths_of p) p.stages.items c.in-Release.request Gone (let l = may.is_request in omega arith) in
    let small = goes_small (widths_of p) (world_of p) (c.every_world_adds_up.ensures (widths_of p) (world_of p)) c.in-Release.request Stands Gone may.is_request may.is_standing refl p.few_seats in omega arith
