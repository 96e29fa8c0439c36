-- What was settled was told, if anything was.
use Rattle.std.proofs.Common.{rules, ◌≡◌, Option, None, true, refl, sym, subst}
use Rattle.apf_local.specs.declared.answer.Settlement.{Settlement}
use Rattle.apf_watched.specs.Followed.{IsSettled}
use Rattle.apf_watched.proofs.watch.settling.Goals as goal

pub returns-in_default : goal.returns-in_default
returns-in_default c =
    let none : c.args.settlement ≡ None = search rules in
    (c.in_ok-watch.watch, c.in_ok-watch.was, subst (λ (s : Option Settlement). IsSettled c.args.ticket s c.in_ok-watch.watch c.in_ok-watch.watch) (sym none) refl)

pub returns : goal.returns
returns c =
    let yes : c.settle.result ≡ true = search rules in
    (c.in_ok-watch.watch, c.in_ok-watch.was, subst (λ (s : Option Settlement). IsSettled c.args.ticket s c.in_ok-watch.watch c.settle.new.self) (sym c.in-Some.is) (c.settle.ensures yes))
