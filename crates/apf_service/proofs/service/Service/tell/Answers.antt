-- The answer is told, and then who left a queue by the events that were copied, also where it is not written.
use Rattle.std.proofs.Common.{rules, take}
use Rattle.std.proofs.lemmas.Result.{IfOk-weaker}
use Rattle.apf_service.proofs.service.Service.tell.Goals as goal

pub returns-clause-told : goal.returns-clause-told
returns-clause-told g c = record {
  log = take c.follow-count.result c.follow-count.new.self.room.items;
  next = c.follow-count.new.self.notes.seen;
  events = c.follow-count.ensures.events;
  follows = c.follow-count.ensures.follows;
  told = IfOk-weaker c.write_told.result _ _ (λ done appended. search (appended, rules)) c.write_told.ensures;
}
