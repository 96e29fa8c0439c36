-- How a level ended whose requests were given up.
use Rattle.std.proofs.Common.{◌≡◌, sym, ◌∙◌, subst}
use Rattle.std.specs.Prelude.{◌==◌, not}
use Rattle.apf_gate.specs.declared.record.DeskRecord.{DeskRecord}
use Rattle.apf_gate.specs.Tokens.{GateId}
use Rattle.apf_book.specs.LifeBook.{IsLifeKept, then_came_all}
use Rattle.apf_line.specs.Levels.{LifeId}
use Rattle.apf_line.specs.Reports.{EndedAs, EndedBy}
use Rattle.apf_line.specs.Seats.{AreSeated}
use Rattle.apf_local.specs.Levels.{LocalView, id_of}
use Rattle.apf_local.proofs.Beginning.{of_each}
use Rattle.apf_local.proofs.Seats.{idle_seated, all_seated_with}
use Rattle.apf_local.proofs.level.LocalLevel.end.Goals as goal

pub returns-clause-ended : goal.returns-clause-ended
returns-clause-ended c = of_each _ _ (λ r ends.
    let old : LocalView = c.args.self in
    let new : LocalView = c.give_up_all.new.self in
    record {
      passes = new.owner.passes;
      stations = new.owner.stations;
      history = λ v kept.
          let on = c.give_up_all.ensures.history v kept in
          let same = c.give_up_all.ensures.same in
          let is : id_of new ≡ id_of old = (λ i. record { gate = same.owner.gate i; sizes = same.sizes i; queue_limit = (on.kept.of_life.limit ∙ sym kept.of_life.limit) i; settles = not (same.owner.book.places i == 0) }) in
          (on.events, on.servings, subst (λ (k : LifeId). EndedAs k (then_came_all on.events v) new.owner.passes new.owner.stations r) is (ends (then_came_all on.events v) on.kept).ended_as);
    }) c.end_idle.result c.end_idle.ensures

pub returns-clause-idle_of_each : goal.returns-clause-idle_of_each
returns-clause-idle_of_each c = λ free. of_each _ _ (λ r ends v kept.
    let was : c.give_up_all.new.self ≡ c.args.self = c.give_up_all.ensures.idle free in
    subst (λ (l : LocalView). EndedAs (id_of l) v l.owner.passes l.owner.stations r) was (ends v (subst (λ (l : LocalView). IsLifeKept v l.owner.book) (sym was) kept)).ended_as) c.end_idle.result c.end_idle.ensures

pub returns-clause-seated : goal.returns-clause-seated
returns-clause-seated c = of_each _ _ (λ r ends v kept seated.
    let old : LocalView = c.args.self in
    let new : LocalView = c.give_up_all.new.self in
    let on = c.give_up_all.ensures.history v kept in
    let same = c.give_up_all.ensures.same in
    let is : id_of new ≡ id_of old = (λ i. record { gate = same.owner.gate i; sizes = same.sizes i; queue_limit = (on.kept.of_life.limit ∙ sym kept.of_life.limit) i; settles = not (same.owner.book.places i == 0) }) in
    let w = then_came_all on.events v in
    let by : EndedBy new.owner.book.desk.desk (id_of old) w new.owner.passes new.owner.stations r = subst (λ (k : LifeId). EndedBy new.owner.book.desk.desk k w new.owner.passes new.owner.stations r) is (ends w on.kept) in
    let idle : AreSeated new.owner.gate.shape new.owner.book.desk.desk.knows.trace v.log = idle_seated new c.give_up_all.ensures.free v.log (c.give_up_all.ensures.seats v kept seated) in
    let all : AreSeated new.owner.gate.shape new.owner.book.desk.desk.knows.trace w.log = all_seated_with new.owner.gate.shape new.owner.book.desk.desk.knows.trace on.events v.log idle in
    record {
      passes = new.owner.passes;
      stations = new.owner.stations;
      events = on.events;
      servings = on.servings;
      ended = by.ended_as;
      seated = subst (λ (g : GateId). AreSeated g.shape by.ended_as.desk.knows.trace w.log) same.owner.gate (subst (λ (d : DeskRecord). AreSeated new.owner.gate.shape d.knows.trace w.log) (sym by.desk_is) all);
    }) c.end_idle.result c.end_idle.ensures
