-- The hand of a request's flow is the one that it asked for.
use Rattle.std.proofs.Common.{rules, ◌≡◌, ℕ, List, sym, subst}
use Rattle.apf_flow.specs.Sizes.{Sizes}
use Rattle.apf_flow.specs.Deal.{hand_of}
use Rattle.apf_book.specs.Life.{IsAskedBy}
use Rattle.apf_book_tests.specs.declared.life.tenant.Stage.TheVariants as stages
use Rattle.apf_book_tests.proofs.Asks.{asked_more, is_asked}
use Rattle.apf_book_tests.proofs.life.tenant.Tenant.arrive.Goals as goal

pub arrive-arrived-requires-clause-asked : goal.arrive-arrived-requires-clause-asked
arrive-arrived-requires-clause-asked g c = λ _.
    let t = c.args.self.now in
    let sizes = c.args.dealer.now in
    let trace = c.ask.new.pass.pass.knows.trace in
    let number = c.ask.new.pass.pass.number in
    let fresh : t.stage ≡ stages.Fresh = search rules in
    let asks = asked_more t.pass.pass.knows c.ask.new.pass.pass.knows t.pass.pass.number number (record { hash = t.hash; cost = t.cost }) c.ask.ensures.same.more c.ask.ensures.same.number (t.asked fresh) in
    let dealt : c.as_slice.result.now ≡ hand_of sizes t.hash = search rules in
    subst (λ (s : Sizes). IsAskedBy s trace c.as_slice.result.now t.cost number) (sym c.requires.sizes)
    (subst (λ (xs : List ℕ). IsAskedBy sizes trace xs t.cost number) (sym dealt) (is_asked sizes trace number t.hash t.cost asks))
