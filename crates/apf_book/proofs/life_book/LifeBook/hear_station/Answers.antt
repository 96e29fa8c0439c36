-- A hearing changes no history.
use Rattle.std.proofs.Common.{sym, subst}
use Rattle.apf_book.specs.LifeBook.{LifeBookView, IsLifeKept}
use Rattle.apf_book.proofs.Saying.{station_quiet}
use Rattle.apf_book.proofs.LifeKeeping.{life_quiet}
use Rattle.apf_book.proofs.life_book.LifeBook.hear_station.Goals as goal

pub invariant_of-self : goal.invariant_of-self
invariant_of-self g c = record {
  view = c.self.invariant.view;
  kept = life_quiet c.self.invariant.view _ c.hear_station.new.desk c.self.invariant.kept c.hear_station.ensures.after.served c.hear_station.ensures.same.more
      (station_quiet (record { station = c.args.station.now.station; desk = c.self.inside.desk.desk }) (record { station = c.hear_station.new.station.station; desk = c.hear_station.new.desk.desk }) c.hear_station.ensures.answer.0 c.hear_station.ensures.answer.1);
}

pub returns-clause-history : goal.returns-clause-history
returns-clause-history g c = λ v is. life_quiet v _ c.hear_station.new.desk (subst (λ (b : LifeBookView). IsLifeKept v b) (sym c.self.view_is) is) c.hear_station.ensures.after.served c.hear_station.ensures.same.more
    (station_quiet (record { station = c.args.station.now.station; desk = c.self.inside.desk.desk }) (record { station = c.hear_station.new.station.station; desk = c.hear_station.new.desk.desk }) c.hear_station.ensures.answer.0 c.hear_station.ensures.answer.1)
