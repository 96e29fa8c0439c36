-- An empty log over a book in which nothing happened yet.
use Rattle.std.proofs.Common.{rules, Vec, ◌≡◌, ◌*◌, ℕ, false, length, replicate, sym, subst}
use Rattle.std.specs.Prelude.{Result, IfOk, IsOkAnd}
use Rattle.std.specs.declared.alloc.AllocError.{AllocError}
use Rattle.apf_book.specs.Opening.{opening_ledger_with}
use Rattle.apf_book.specs.Batch.{ledger_with}
use Rattle.apf_book.specs.BookCalls.{AreCostsFor}
use Rattle.apf_book.proofs.Batches.{begins_as, begins_batch, begins_at_rest}
use Rattle.apf_book.proofs.book.Book.made.Goals as goal

pub invariant_of-result : goal.invariant_of-result
invariant_of-result g c =
    let charged : AreCostsFor c.args.asks.now c.in_ok-costs.field-0.items = subst (λ (r : Result (Vec ℕ g.row.A.Denot) AllocError). IfOk r (λ (v : Vec ℕ g.row.A.Denot). AreCostsFor c.args.asks.now v.items)) c.in_ok-costs.was c.requires.charged in
    let keeps : c.in_ok-book.book.notes.capacity ≡ 2 * length c.args.asks.now = c.in_ok-book.ensures.room in
    let marks : c.in_ok-vec.field-0.items ≡ replicate (length c.args.asks.now) false = c.in_ok-vec.ensures.items_if_clones_equal (λ y e. search rules) in
    let room = c.in_ok-with_capacity.ensures.capacity in
    begins_batch c.args.config.now c.args.asks.now c.args.desk c.in_ok-book.book c.in-Ok.dealer c.in_ok-costs.field-0.items c.in_ok-hashes_of.field-0.items c.in_ok-with_capacity.field-0.items c.in_ok-vec.field-0.items _ c.requires.begins charged c.is_of_a_gate.ensures.shape c.in_ok-book.ensures.desk keeps c.in_ok-book.ensures.known_is c.in_ok-book.ensures.opens c.in-Ok.ensures.sizes c.in_ok-hashes_of.ensures c.in_ok-with_capacity.ensures.items marks room

pub returns-clause-ledger : goal.returns-clause-ledger
returns-clause-ledger g c =
    let charged : AreCostsFor c.args.asks.now c.in_ok-costs.field-0.items = subst (λ (r : Result (Vec ℕ g.row.A.Denot) AllocError). IfOk r (λ (v : Vec ℕ g.row.A.Denot). AreCostsFor c.args.asks.now v.items)) c.in_ok-costs.was c.requires.charged in
    let keeps : c.in_ok-book.book.notes.capacity ≡ 2 * length c.args.asks.now = c.in_ok-book.ensures.room in
    let marks : c.in_ok-vec.field-0.items ≡ replicate (length c.args.asks.now) false = c.in_ok-vec.ensures.items_if_clones_equal (λ y e. search rules) in
    let room = c.in_ok-with_capacity.ensures.capacity in
    subst (λ (r : Result (Vec ℕ g.row.A.Denot) AllocError). IsOkAnd r (λ (v : Vec ℕ g.row.A.Denot). ledger_with c.in_ok-book.book c.in-Ok.dealer c.in_ok-costs.field-0.items c.in_ok-hashes_of.field-0.items c.in_ok-with_capacity.field-0.items ≡ opening_ledger_with c.args.config.now c.args.asks.now v.items)) (sym c.in_ok-costs.was)
    (begins_as c.args.config.now c.args.asks.now c.args.desk c.in_ok-book.book c.in-Ok.dealer c.in_ok-costs.field-0.items c.in_ok-hashes_of.field-0.items c.in_ok-with_capacity.field-0.items c.in_ok-vec.field-0.items _ c.requires.begins charged c.is_of_a_gate.ensures.shape c.in_ok-book.ensures.desk keeps c.in_ok-book.ensures.known_is c.in_ok-book.ensures.opens c.in-Ok.ensures.sizes c.in_ok-hashes_of.ensures c.in_ok-with_capacity.ensures.items marks room)

pub returns-clause-stopped : goal.returns-clause-stopped
returns-clause-stopped g c =
    let charged : AreCostsFor c.args.asks.now c.in_ok-costs.field-0.items = subst (λ (r : Result (Vec ℕ g.row.A.Denot) AllocError). IfOk r (λ (v : Vec ℕ g.row.A.Denot). AreCostsFor c.args.asks.now v.items)) c.in_ok-costs.was c.requires.charged in
    let keeps : c.in_ok-book.book.notes.capacity ≡ 2 * length c.args.asks.now = c.in_ok-book.ensures.room in
    let marks : c.in_ok-vec.field-0.items ≡ replicate (length c.args.asks.now) false = c.in_ok-vec.ensures.items_if_clones_equal (λ y e. search rules) in
    let room = c.in_ok-with_capacity.ensures.capacity in
    begins_at_rest c.args.config.now c.args.asks.now c.args.desk c.in_ok-book.book c.in-Ok.dealer c.in_ok-costs.field-0.items c.in_ok-hashes_of.field-0.items c.in_ok-with_capacity.field-0.items c.in_ok-vec.field-0.items _ c.requires.begins charged c.is_of_a_gate.ensures.shape c.in_ok-book.ensures.desk keeps c.in_ok-book.ensures.known_is c.in_ok-book.ensures.opens c.in-Ok.ensures.sizes c.in_ok-hashes_of.ensures c.in_ok-with_capacity.ensures.items marks room c.in_ok-book.book.desk.desk.knows
