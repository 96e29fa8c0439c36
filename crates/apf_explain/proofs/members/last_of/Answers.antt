use Rattle.std.proofs.Common.{sym, rules}
use Rattle.apf_explain.proofs.members.last_of.Goals as goal

pub returns-in-Some : goal.returns-in-Some
returns-in-Some c = rw (sym c.in-Some.ensures, c.every_item_is_counted.ensures c.in-Some.items.now.items) (search rules)
