-- What the book for life struck is logged.
use Rattle.std.proofs.Common.{◌≡◌, ◌∙◌, ℕ, length, inr, ap, subst, arith}
use Rattle.apf_gate.specs.Tokens.{GateId, desk_gate}
use Rattle.apf_book.specs.BookView.{BookView}
use Rattle.apf_book.specs.BookCalls.{StrikesOut}
use Rattle.apf_book.specs.BookResults.{AfterStrike}
use Rattle.apf_book.specs.Batch.{ledger_with, life_of, IsBatchGate}
use Rattle.apf_book.proofs.Opened.{opened, unsettled}
use Rattle.apf_book.proofs.Batches.{begun, fits, small_then, struck_events, strikes_kept, strikes_batch, strikes_answer, strikes_after, same_book}
use Rattle.apf_book.proofs.book.Book.strike.Goals as goal

pub strike_seen-struck-requires : goal.strike_seen-struck-requires
strike_seen-struck-requires g c =
    let here : desk_gate c.self.inside.book.desk ≡ c.args.gate.now = ap (λ (k : BookView). desk_gate k.desk) c.self.view_is ∙ c.requires.own in
    let gate : IsBatchGate c.args.gate.now (length c.self.inside.costs.items) = subst (λ (g : GateId). IsBatchGate g (length c.self.inside.costs.items)) here c.self.invariant.gate in
    let low = c.requires.is_request in let few = c.self.invariant.few in let one = gate.one_slot_each in let batch = gate.batch in let same = c.from.ensures in
    record {
      own = here;
      is_request = record { inside = omega (arith, low, same); in_slot = omega (arith, low, few, one, batch, same); small = omega (arith, low, few, one, batch, same) };
      has_slot = inr batch;
    }

pub append_newer-requires : goal.append_newer-requires
append_newer-requires g c =
    let laws = opened c.legal_histories_are_in_order.ensures in
    let kept = strikes_kept laws c.self.inside.book c.self.inside.dealer c.self.inside.costs.items c.self.inside.hashes.items c.self.inside.log.items c.self.inside.arrived.items _ c.self.invariant c.from.result c.strike_seen-struck.result c.strike_seen-struck.new.self c.strike_seen-struck.ensures.same (c.strike_seen-struck.ensures.answer (life_of (ledger_with c.self.inside.book c.self.inside.dealer c.self.inside.costs.items c.self.inside.hashes.items c.self.inside.log.items)) c.self.invariant.kept) in
    let events = struck_events laws c.self.inside.book c.self.inside.dealer c.self.inside.costs.items c.self.inside.hashes.items c.self.inside.log.items c.self.inside.arrived.items _ c.self.invariant c.from.result c.strike_seen-struck.result c.strike_seen-struck.new.self c.strike_seen-struck.ensures.same (c.strike_seen-struck.ensures.answer (life_of (ledger_with c.self.inside.book c.self.inside.dealer c.self.inside.costs.items c.self.inside.hashes.items c.self.inside.log.items)) c.self.invariant.kept) in
    record {
      begun = begun laws c.self.inside.book c.self.inside.dealer c.self.inside.costs.items c.self.inside.hashes.items c.self.inside.log.items c.self.inside.arrived.items _ c.self.invariant events c.strike_seen-struck.new.self c.strike_seen-struck.ensures.same kept;
      room = fits laws c.self.inside.book c.self.inside.dealer c.self.inside.costs.items c.self.inside.hashes.items c.self.inside.log.items c.self.inside.arrived.items _ c.self.invariant events c.strike_seen-struck.new.self c.strike_seen-struck.ensures.same kept;
      small = small_then laws c.self.inside.book c.self.inside.dealer c.self.inside.costs.items c.self.inside.hashes.items c.self.inside.log.items c.self.inside.arrived.items _ c.self.invariant events c.strike_seen-struck.new.self c.strike_seen-struck.ensures.same kept;
    }

pub invariant_of-self : goal.invariant_of-self
invariant_of-self g c =
    strikes_batch (opened c.legal_histories_are_in_order.ensures) c.self.inside.book c.self.inside.dealer c.self.inside.costs.items c.self.inside.hashes.items c.self.inside.log.items c.self.inside.arrived.items _ c.self.invariant c.from.result c.strike_seen-struck.result c.strike_seen-struck.new.self c.strike_seen-struck.ensures.same (c.strike_seen-struck.ensures.answer (life_of (ledger_with c.self.inside.book c.self.inside.dealer c.self.inside.costs.items c.self.inside.hashes.items c.self.inside.log.items)) c.self.invariant.kept) c.append_newer.new.log.items c.append_newer.ensures.whole _ c.append_newer.ensures.capacity

pub returns : goal.returns
returns g c =
    let laws = opened c.legal_histories_are_in_order.ensures in
    let reads = c.strike_seen-struck.ensures.reads (life_of (ledger_with c.self.inside.book c.self.inside.dealer c.self.inside.costs.items c.self.inside.hashes.items c.self.inside.log.items)) c.self.invariant.kept in
    record {
      same = same_book (unsettled c.unsettled_logs_are_fair.ensures) c.args.self.now c.self.inside.book c.strike_seen-struck.new.self (ledger_with c.self.inside.book c.self.inside.dealer c.self.inside.costs.items c.self.inside.hashes.items c.self.inside.log.items) _ c.self.inside.arrived.items _ c.self.view_is c.strike_seen-struck.ensures.same (invariant_of-self g c);
      answer = subst (λ (r : ℕ). StrikesOut c.args.self.now r c.strike_seen-struck.result (record { desk = c.strike_seen-struck.new.self.desk; ledger = ledger_with c.strike_seen-struck.new.self c.self.inside.dealer c.self.inside.costs.items c.self.inside.hashes.items c.append_newer.new.log.items })) c.from.ensures (strikes_answer laws c.self.inside.book c.self.inside.dealer c.self.inside.costs.items c.self.inside.hashes.items c.self.inside.log.items c.self.inside.arrived.items _ c.self.invariant c.from.result c.strike_seen-struck.result c.strike_seen-struck.new.self c.strike_seen-struck.ensures.same (c.strike_seen-struck.ensures.answer (life_of (ledger_with c.self.inside.book c.self.inside.dealer c.self.inside.costs.items c.self.inside.hashes.items c.self.inside.log.items)) c.self.invariant.kept) c.append_newer.new.log.items c.append_newer.ensures.whole c.args.self.now c.self.view_is reads);
      after = subst (λ (r : ℕ). AfterStrike c.args.self.now r c.strike_seen-struck.result (record { desk = c.strike_seen-struck.new.self.desk; ledger = ledger_with c.strike_seen-struck.new.self c.self.inside.dealer c.self.inside.costs.items c.self.inside.hashes.items c.append_newer.new.log.items })) c.from.ensures (strikes_after laws c.self.inside.book c.self.inside.dealer c.self.inside.costs.items c.self.inside.hashes.items c.self.inside.log.items c.self.inside.arrived.items _ c.self.invariant c.from.result c.strike_seen-struck.result c.strike_seen-struck.new.self c.strike_seen-struck.ensures.same (c.strike_seen-struck.ensures.answer (life_of (ledger_with c.self.inside.book c.self.inside.dealer c.self.inside.costs.items c.self.inside.hashes.items c.self.inside.log.items)) c.self.invariant.kept) c.append_newer.new.log.items c.append_newer.ensures.whole c.args.self.now c.self.view_is reads);
    }
