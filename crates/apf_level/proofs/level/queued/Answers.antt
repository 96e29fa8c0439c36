-- What a new book and a board of which nothing was published have.
use Rattle.std.proofs.Common.{rules, ◌≡◌, [], false, length, replicate, sym, ap, ◌∙◌, subst}
use Rattle.std.specs.Prelude.{Result, IfOk}
use Rattle.std.proofs.lemmas.List.{length-map, length-replicate}
use Rattle.apf_model.specs.declared.config.Ask.{Ask}
use Rattle.apf_book.specs.declared.fault.BookFault.{BookFault}
use Rattle.apf_book.specs.BookView.{BookView}
use Rattle.apf_book.specs.Stopped.{IsStopped}
use Rattle.apf_stats.specs.Traces.{shown}
use Rattle.apf_level.specs.Levels.{IsBookOf}
use Rattle.apf_level.specs.Shown.{shown_of}
use Rattle.apf_level.proofs.level.queued.Goals as goal

pub invariant_of-queued-2 : goal.invariant_of-queued-2
invariant_of-queued-2 g c =
    let new : c.in_ok-book.book.ledger.history ≡ [] = subst (λ (r : Result BookView BookFault). IfOk r (λ (b : BookView). b.ledger.history ≡ [])) c.in_ok-book.was c.requires.new in
    let flags : c.in_ok-vec.field-0.items ≡ replicate (length c.args.asks.now) false = c.in_ok-vec.ensures.items_if_clones_equal (λ y e. search rules) in
    record {
      tied = subst (λ (r : Result BookView BookFault). IfOk r (IsBookOf g.K.Naming.level)) c.in_ok-book.was c.requires.book;
      stopped = subst (λ (r : Result BookView BookFault). IfOk r (λ (b : BookView). IsStopped b.ledger b.desk.desk.knows)) c.in_ok-book.was c.requires.stopped;
      own_cell = ap (λ b. b.cell) c.board.view_is ∙ c.requires.own_cell;
      published = ap (λ b. shown b.trace) c.board.view_is ∙ (ap shown c.requires.nothing_published ∙ sym (ap shown_of new));
      one_flag_each = ap length flags ∙ (length-replicate (length c.args.asks.now) false ∙ (sym (length-map c.args.asks.now (λ (a : Ask). a.width)) ∙ ap length c.requires.widths));
    }
