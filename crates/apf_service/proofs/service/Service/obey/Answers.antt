-- The command was carried out, and what it answered is told.
use Rattle.std.proofs.Common.{rules}
use Rattle.std.specs.Prelude.{string_bytes}
use Rattle.apf_service.specs.Kept.{state_of}
use Rattle.apf_service.specs.Lines.{WritesIfOk}
use Rattle.apf_service.specs.Turns.{Turns}
use Rattle.apf_service.proofs.Obeying.{changes}
use Rattle.apf_service.proofs.service.Service.obey.Goals as goal
use Rattle.apf_service.proofs.service.Service.obey.Goals.{in-Arrive, in-Try, in-Finish, in-Spent, in-Cancel, in-Limit, in-Close}

pub returns-clause-told : goal.returns-clause-told
returns-clause-told g c =
    let turns : Turns c.args.command (state_of c.args.self.now.level c.args.self.now.notes) c.match-command.reply (state_of c.match-command.self.level c.match-command.self.notes) = elim c.match-command.branch [
      | in-Arrive w ↦ search (w.arrive-reply.ensures.turns, w.self-is, w.reply-is, rules)
      | in-Try w ↦ search (w.attempt-reply.ensures.turns, w.self-is, w.reply-is, rules)
      | in-Finish w ↦ search (w.finish-reply.ensures.turns, w.self-is, w.reply-is, rules)
      | in-Spent w ↦ search (w.spend-reply.ensures.turns, w.self-is, w.reply-is, rules)
      | in-Cancel w ↦ search (w.cancel-reply.ensures.turns, w.self-is, w.reply-is, rules)
      | in-Limit w ↦ search (w.set_limit-reply.ensures.turns, w.self-is, w.reply-is, rules)
      | in-Close w ↦ search (w.close-reply.ensures.turns, w.self-is, w.reply-is, rules)
    ] in
    changes (string_bytes c.args.self.now.name) c.args.line c.args.command (state_of c.args.self.now.level c.args.self.now.notes) (state_of c.match-command.self.level c.match-command.self.notes) (state_of c.tell.new.self.level c.tell.new.self.notes) c.match-command.reply
    (WritesIfOk c.tell.result (g.W.Write.contents c.args.out.now) (g.W.Write.contents c.tell.new.out)) turns c.tell.ensures.told
