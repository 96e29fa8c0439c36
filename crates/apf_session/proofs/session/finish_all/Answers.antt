-- The one request is told no other decision, and the others stay.
use Rattle.std.proofs.Common.{◌<◌, length, rules, arith}
use Rattle.apf_session.proofs.Finishing.{numbered, told}
use Rattle.apf_session.proofs.session.finish_all.Goals as goal

pub loop-place-preserved : goal.loop-place-preserved
loop-place-preserved g c =
    let low : c.loop-place.place < length c.loop-place.requests = (let t = c.loop-place-test.true in let n = c.loop-place.invariant.count in omega (arith, t, n)) in
    record {
      count = search rules;
      numbers = numbered c.args.requests.now c.loop-place.requests c.loop-place.place c.finish_one.new.request c.index-requests-place.result low c.finish_one.ensures.number c.loop-place.invariant.numbers;
      told = told c.args.requests.now c.loop-place.requests c.loop-place.place c.finish_one.new.request c.index-requests-place.result low c.finish_one.ensures.told c.loop-place.invariant.told;
    }
