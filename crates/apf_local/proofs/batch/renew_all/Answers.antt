-- Each slot goes on to its request.
use Rattle.std.proofs.Common.{rules, ◌≡◌, ◌<◌, ℕ, Bool, true, false, List, length, get_or, subst}
use Rattle.std.proofs.lemmas.Option.{slice_get-get_or}
use Rattle.apf_local.specs.declared.answer.Ask.{Ask}
use Rattle.apf_local.specs.Levels.{LocalView, IsRenewal}
use Rattle.apf_local.proofs.Renewing.{one_more_fresh, never_spent}
use Rattle.apf_local.proofs.batch.renew_all.Goals as goal

pub unreachable-requires : goal.unreachable-requires
unreachable-requires c =
    let asks : List Ask = c.args.asks.now in
    let slot : ℕ = c.loop-slot.slot in
    let now : LocalView = c.loop-slot.level in
    let new : LocalView = c.renew.new.self in
    let none : Ask = record { width = 0; hash = 0; cost = 0 } in
    let ask : Ask = get_or asks slot none in
    let low : slot < length asks = (search rules) in
    let here = slice_get-get_or asks slot none low in
    let failed : c.renew.result ≡ false = (search rules) in
    let renews : IsRenewal slot ask now c.renew.result new = c.renew.ensures.renews in
    never_spent c.args.level.now asks c.requires.opened slot now new c.loop-slot.invariant ask here low (c.requires.widths slot ask here) (subst (λ (b : Bool). IsRenewal slot ask now b new) failed renews)

pub loop-slot-preserved : goal.loop-slot-preserved
loop-slot-preserved c =
    let asks : List Ask = c.args.asks.now in
    let slot : ℕ = c.loop-slot.slot in
    let now : LocalView = c.loop-slot.level in
    let new : LocalView = c.renew.new.self in
    let none : Ask = record { width = 0; hash = 0; cost = 0 } in
    let ask : Ask = get_or asks slot none in
    let low : slot < length asks = (search rules) in
    let here = slice_get-get_or asks slot none low in
    let done : c.renew.result ≡ true = (search rules) in
    let renews : IsRenewal slot ask now c.renew.result new = c.renew.ensures.renews in
    one_more_fresh c.args.level.now asks c.requires.opened slot now new c.loop-slot.invariant ask here low c.renew.ensures.same c.renew.ensures.operators (subst (λ (b : Bool). IsRenewal slot ask now b new) done renews) c.renew.ensures.history
