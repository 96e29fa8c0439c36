-- A first arrival is one of the book for life, with the hand and the cost of the opening.
use Rattle.std.proofs.Common.{◌≡◌, ◌<◌, ℕ, Bool, false, length, reverse, refl, sym, ap, ◌∙◌, arith}
use Rattle.std.specs.Prelude.{slice_index, slice_set}
use Rattle.std.proofs.lemmas.Option.{get_or_from_slice_get, slice_get_read}
use Rattle.apf_flow.specs.Deal.{hand_of}
use Rattle.apf_model.specs.World.{width}
use Rattle.apf_model.specs.History.{has_arrived}
use Rattle.apf_gate.specs.Tokens.{GateId, pass_gate, desk_gate}
use Rattle.apf_book.specs.Arrivals.{arrival, is_logged}
use Rattle.apf_book.specs.BookView.{BookView}
use Rattle.apf_book.specs.Batch.{ledger_with, life_of}
use Rattle.apf_book.proofs.Opened.{opened, unsettled}
use Rattle.apf_book.proofs.Trying.{RacedSoFar}
use Rattle.apf_book.proofs.Batches.{heard_new, read_mark, arrives_same, arrives_kept, arrives_batch, arrives_answer, arrives_after, again_answer, again_after, quiet, quiet_logged, same_book, begun, fits, small_then}
use Rattle.apf_book.proofs.book.Book.arrive.Goals as goal

pub overflow_cast-request : goal.overflow_cast-request
overflow_cast-request g c =
    let same : pass_gate c.hear.new.pass ≡ desk_gate c.self.inside.book.desk = c.hear.ensures.same_request.pass ∙ (c.requires.own.own_pass ∙ sym (ap (λ (k : BookView). desk_gate k.desk) c.self.view_is ∙ c.requires.own.own)) in
    let many = ap (λ (t : GateId). length t.shape.widths) same in
    let inside = c.number-request.ensures.inside in let batch = c.self.invariant.gate.batch in let one = c.self.invariant.gate.one_slot_each in let few = c.self.invariant.few in
    let low : c.number-request.result < length c.self.inside.costs.items = omega (arith, many, inside, batch, one) in
    omega (arith, low, few)

pub invariant_of-self : goal.invariant_of-self
invariant_of-self g c = quiet (opened c.legal_histories_are_in_order.ensures) c.self.inside.book c.self.inside.dealer c.self.inside.costs.items c.self.inside.hashes.items c.self.inside.log.items c.self.inside.arrived.items _ c.self.invariant c.hear.new.self c.hear.ensures.same (c.hear.ensures.answer.history (life_of (ledger_with c.self.inside.book c.self.inside.dealer c.self.inside.costs.items c.self.inside.hashes.items c.self.inside.log.items)) c.self.invariant.kept)

pub returns-then-index-clause-same : goal.returns-then-index-clause-same
returns-then-index-clause-same g c =
    same_book (unsettled c.unsettled_logs_are_fair.ensures) c.args.self.now c.self.inside.book c.hear.new.self (ledger_with c.self.inside.book c.self.inside.dealer c.self.inside.costs.items c.self.inside.hashes.items c.self.inside.log.items) _ c.self.inside.arrived.items _ c.self.view_is c.hear.ensures.same (invariant_of-self g c)

pub returns-then-index-clause-answer : goal.returns-then-index-clause-answer
returns-then-index-clause-answer g c =
    let same : pass_gate c.hear.new.pass ≡ desk_gate c.self.inside.book.desk = c.hear.ensures.same_request.pass ∙ (c.requires.own.own_pass ∙ sym (ap (λ (k : BookView). desk_gate k.desk) c.self.view_is ∙ c.requires.own.own)) in
    let many = ap (λ (t : GateId). length t.shape.widths) same in
    let inside = c.number-request.ensures.inside in let batch = c.self.invariant.gate.batch in let one = c.self.invariant.gate.one_slot_each in let few = c.self.invariant.few in
    let low : c.number-request.result < length c.self.inside.costs.items = omega (arith, many, inside, batch, one) in
    let number : c.number-request.result ≡ c.args.pass.now.pass.number = c.number-request.ensures.number ∙ c.hear.ensures.same_request.number in
    let marks = c.self.invariant.one_mark_each in
    let found : has_arrived (reverse c.self.inside.log.items) c.args.pass.now.pass.number ≡ c.index.result.now = read_mark c.self.inside.arrived.items (reverse c.self.inside.log.items) c.number-request.result c.args.pass.now.pass.number c.index.result.now c.self.invariant.marked number
    (slice_get_read c.self.inside.arrived.items (length c.self.inside.arrived.items) c.number-request.result c.index.result.now refl (omega (arith, low, marks)) c.index.ensures) in
    again_answer (opened c.legal_histories_are_in_order.ensures) c.self.inside.book (ledger_with c.self.inside.book c.self.inside.dealer c.self.inside.costs.items c.self.inside.hashes.items c.self.inside.log.items) _ c.args.pass.now c.hear.new.self c.hear.new.pass c.self.invariant.kept c.hear.ensures.same c.hear.ensures.answer (quiet_logged (opened c.legal_histories_are_in_order.ensures) c.self.inside.book c.self.inside.dealer c.self.inside.costs.items c.self.inside.hashes.items c.self.inside.log.items c.self.inside.arrived.items _ c.self.invariant c.hear.new.self c.hear.ensures.same (c.hear.ensures.answer.history (life_of (ledger_with c.self.inside.book c.self.inside.dealer c.self.inside.costs.items c.self.inside.hashes.items c.self.inside.log.items)) c.self.invariant.kept)) (found ∙ c.if-index.true) c.args.self.now c.self.view_is

pub returns-then-index-clause-after : goal.returns-then-index-clause-after
returns-then-index-clause-after g c =
    let same : pass_gate c.hear.new.pass ≡ desk_gate c.self.inside.book.desk = c.hear.ensures.same_request.pass ∙ (c.requires.own.own_pass ∙ sym (ap (λ (k : BookView). desk_gate k.desk) c.self.view_is ∙ c.requires.own.own)) in
    let many = ap (λ (t : GateId). length t.shape.widths) same in
    let inside = c.number-request.ensures.inside in let batch = c.self.invariant.gate.batch in let one = c.self.invariant.gate.one_slot_each in let few = c.self.invariant.few in
    let low : c.number-request.result < length c.self.inside.costs.items = omega (arith, many, inside, batch, one) in
    let number : c.number-request.result ≡ c.args.pass.now.pass.number = c.number-request.ensures.number ∙ c.hear.ensures.same_request.number in
    let marks = c.self.invariant.one_mark_each in
    let found : has_arrived (reverse c.self.inside.log.items) c.args.pass.now.pass.number ≡ c.index.result.now = read_mark c.self.inside.arrived.items (reverse c.self.inside.log.items) c.number-request.result c.args.pass.now.pass.number c.index.result.now c.self.invariant.marked number
    (slice_get_read c.self.inside.arrived.items (length c.self.inside.arrived.items) c.number-request.result c.index.result.now refl (omega (arith, low, marks)) c.index.ensures) in
    again_after (opened c.legal_histories_are_in_order.ensures) c.self.inside.book (ledger_with c.self.inside.book c.self.inside.dealer c.self.inside.costs.items c.self.inside.hashes.items c.self.inside.log.items) _ c.args.pass.now c.hear.new.self c.hear.new.pass c.self.invariant.kept c.hear.ensures.same c.hear.ensures.answer (quiet_logged (opened c.legal_histories_are_in_order.ensures) c.self.inside.book c.self.inside.dealer c.self.inside.costs.items c.self.inside.hashes.items c.self.inside.log.items c.self.inside.arrived.items _ c.self.invariant c.hear.new.self c.hear.ensures.same (c.hear.ensures.answer.history (life_of (ledger_with c.self.inside.book c.self.inside.dealer c.self.inside.costs.items c.self.inside.hashes.items c.self.inside.log.items)) c.self.invariant.kept)) (found ∙ c.if-index.true) c.args.self.now c.self.view_is c.requires.in_line

pub arrive-arrived-requires-clause-is_new : goal.arrive-arrived-requires-clause-is_new
arrive-arrived-requires-clause-is_new g c =
    let same : pass_gate c.hear.new.pass ≡ desk_gate c.self.inside.book.desk = c.hear.ensures.same_request.pass ∙ (c.requires.own.own_pass ∙ sym (ap (λ (k : BookView). desk_gate k.desk) c.self.view_is ∙ c.requires.own.own)) in
    let many = ap (λ (t : GateId). length t.shape.widths) same in
    let inside = c.number-request.ensures.inside in let batch = c.self.invariant.gate.batch in let one = c.self.invariant.gate.one_slot_each in let few = c.self.invariant.few in
    let low : c.number-request.result < length c.self.inside.costs.items = omega (arith, many, inside, batch, one) in
    let number : c.number-request.result ≡ c.args.pass.now.pass.number = c.number-request.ensures.number ∙ c.hear.ensures.same_request.number in
    let marks = c.self.invariant.one_mark_each in
    let found : has_arrived (reverse c.self.inside.log.items) c.args.pass.now.pass.number ≡ c.index.result.now = read_mark c.self.inside.arrived.items (reverse c.self.inside.log.items) c.number-request.result c.args.pass.now.pass.number c.index.result.now c.self.invariant.marked number
    (slice_get_read c.self.inside.arrived.items (length c.self.inside.arrived.items) c.number-request.result c.index.result.now refl (omega (arith, low, marks)) c.index.ensures) in
    let new : has_arrived (reverse c.self.inside.log.items) c.args.pass.now.pass.number ≡ false = found ∙ c.if-index.false in
    let far : RacedSoFar c.self.inside.book c.args.pass.now c.hear.new.self c.hear.new.pass = heard_new (opened c.legal_histories_are_in_order.ensures) (ledger_with c.self.inside.book c.self.inside.dealer c.self.inside.costs.items c.self.inside.hashes.items c.self.inside.log.items) c.self.inside.book c.args.pass.now c.hear.new.self c.hear.new.pass c.self.invariant.kept c.hear.ensures.same c.hear.ensures.same_request c.hear.ensures.answer c.hear.ensures.follows c.requires.in_line new in
    far.is_new

pub append_newer-requires-clause-begun : goal.append_newer-requires-clause-begun
append_newer-requires-clause-begun g c =
    let same : pass_gate c.hear.new.pass ≡ desk_gate c.self.inside.book.desk = c.hear.ensures.same_request.pass ∙ (c.requires.own.own_pass ∙ sym (ap (λ (k : BookView). desk_gate k.desk) c.self.view_is ∙ c.requires.own.own)) in
    let many = ap (λ (t : GateId). length t.shape.widths) same in
    let inside = c.number-request.ensures.inside in let batch = c.self.invariant.gate.batch in let one = c.self.invariant.gate.one_slot_each in let few = c.self.invariant.few in
    let low : c.number-request.result < length c.self.inside.costs.items = omega (arith, many, inside, batch, one) in
    let number : c.number-request.result ≡ c.args.pass.now.pass.number = c.number-request.ensures.number ∙ c.hear.ensures.same_request.number in
    let marks = c.self.invariant.one_mark_each in
    let found : has_arrived (reverse c.self.inside.log.items) c.args.pass.now.pass.number ≡ c.index.result.now = read_mark c.self.inside.arrived.items (reverse c.self.inside.log.items) c.number-request.result c.args.pass.now.pass.number c.index.result.now c.self.invariant.marked number
    (slice_get_read c.self.inside.arrived.items (length c.self.inside.arrived.items) c.number-request.result c.index.result.now refl (omega (arith, low, marks)) c.index.ensures) in
    let new : has_arrived (reverse c.self.inside.log.items) c.args.pass.now.pass.number ≡ false = found ∙ c.if-index.false in
    let far : RacedSoFar c.self.inside.book c.args.pass.now c.hear.new.self c.hear.new.pass = heard_new (opened c.legal_histories_are_in_order.ensures) (ledger_with c.self.inside.book c.self.inside.dealer c.self.inside.costs.items c.self.inside.hashes.items c.self.inside.log.items) c.self.inside.book c.args.pass.now c.hear.new.self c.hear.new.pass c.self.invariant.kept c.hear.ensures.same c.hear.ensures.same_request c.hear.ensures.answer c.hear.ensures.follows c.requires.in_line new in
    let hashes = c.self.invariant.one_hash_each in
    let hash : c.index-2.result.now ≡ slice_index c.self.inside.hashes.items c.args.pass.now.pass.number =
    sym (get_or_from_slice_get c.self.inside.hashes.items c.number-request.result c.index-2.result.now 0 (slice_get_read c.self.inside.hashes.items (length c.self.inside.hashes.items) c.number-request.result c.index-2.result.now refl (omega (arith, low, hashes)) c.index-2.ensures))
    ∙ ap (λ (r : ℕ). slice_index c.self.inside.hashes.items r) number in
    let hand_is : c.as_slice.result.now ≡ hand_of c.self.inside.dealer (slice_index c.self.inside.hashes.items c.args.pass.now.pass.number) = c.as_slice.ensures.value ∙ (c.deal-hand.ensures.dealt ∙ ap (λ (h : ℕ). hand_of c.self.inside.dealer h) hash) in
    let cost_is : c.index-3.result.now ≡ width c.self.inside.costs.items c.args.pass.now.pass.number =
    sym (get_or_from_slice_get c.self.inside.costs.items c.number-request.result c.index-3.result.now 0 (slice_get_read c.self.inside.costs.items (length c.self.inside.costs.items) c.number-request.result c.index-3.result.now refl low c.index-3.ensures))
    ∙ ap (λ (r : ℕ). width c.self.inside.costs.items r) number in
    begun (opened c.legal_histories_are_in_order.ensures) c.self.inside.book c.self.inside.dealer c.self.inside.costs.items c.self.inside.hashes.items c.self.inside.log.items c.self.inside.arrived.items _ c.self.invariant (arrival c.arrive-arrived.result c.args.pass.now.pass.number) c.arrive-arrived.new.self (arrives_same (opened c.legal_histories_are_in_order.ensures) c.self.inside.book c.self.inside.dealer c.self.inside.costs.items c.self.inside.hashes.items c.self.inside.log.items c.self.inside.arrived.items _ c.self.invariant c.args.pass.now c.hear.new.self c.hear.new.pass far new c.as_slice.result.now c.index-3.result.now hand_is cost_is c.arrive-arrived.result c.arrive-arrived.new.self c.arrive-arrived.new.pass c.arrive-arrived.ensures.same c.arrive-arrived.ensures.answer) (arrives_kept (opened c.legal_histories_are_in_order.ensures) c.self.inside.book c.self.inside.dealer c.self.inside.costs.items c.self.inside.hashes.items c.self.inside.log.items c.self.inside.arrived.items _ c.self.invariant c.args.pass.now c.hear.new.self c.hear.new.pass far new c.as_slice.result.now c.index-3.result.now hand_is cost_is c.arrive-arrived.result c.arrive-arrived.new.self c.arrive-arrived.new.pass c.arrive-arrived.ensures.same c.arrive-arrived.ensures.answer)

pub append_newer-requires-clause-room : goal.append_newer-requires-clause-room
append_newer-requires-clause-room g c =
    let same : pass_gate c.hear.new.pass ≡ desk_gate c.self.inside.book.desk = c.hear.ensures.same_request.pass ∙ (c.requires.own.own_pass ∙ sym (ap (λ (k : BookView). desk_gate k.desk) c.self.view_is ∙ c.requires.own.own)) in
    let many = ap (λ (t : GateId). length t.shape.widths) same in
    let inside = c.number-request.ensures.inside in let batch = c.self.invariant.gate.batch in let one = c.self.invariant.gate.one_slot_each in let few = c.self.invariant.few in
    let low : c.number-request.result < length c.self.inside.costs.items = omega (arith, many, inside, batch, one) in
    let number : c.number-request.result ≡ c.args.pass.now.pass.number = c.number-request.ensures.number ∙ c.hear.ensures.same_request.number in
    let marks = c.self.invariant.one_mark_each in
    let found : has_arrived (reverse c.self.inside.log.items) c.args.pass.now.pass.number ≡ c.index.result.now = read_mark c.self.inside.arrived.items (reverse c.self.inside.log.items) c.number-request.result c.args.pass.now.pass.number c.index.result.now c.self.invariant.marked number
    (slice_get_read c.self.inside.arrived.items (length c.self.inside.arrived.items) c.number-request.result c.index.result.now refl (omega (arith, low, marks)) c.index.ensures) in
    let new : has_arrived (reverse c.self.inside.log.items) c.args.pass.now.pass.number ≡ false = found ∙ c.if-index.false in
    let far : RacedSoFar c.self.inside.book c.args.pass.now c.hear.new.self c.hear.new.pass = heard_new (opened c.legal_histories_are_in_order.ensures) (ledger_with c.self.inside.book c.self.inside.dealer c.self.inside.costs.items c.self.inside.hashes.items c.self.inside.log.items) c.self.inside.book c.args.pass.now c.hear.new.self c.hear.new.pass c.self.invariant.kept c.hear.ensures.same c.hear.ensures.same_request c.hear.ensures.answer c.hear.ensures.follows c.requires.in_line new in
    let hashes = c.self.invariant.one_hash_each in
    let hash : c.index-2.result.now ≡ slice_index c.self.inside.hashes.items c.args.pass.now.pass.number =
    sym (get_or_from_slice_get c.self.inside.hashes.items c.number-request.result c.index-2.result.now 0 (slice_get_read c.self.inside.hashes.items (length c.self.inside.hashes.items) c.number-request.result c.index-2.result.now refl (omega (arith, low, hashes)) c.index-2.ensures))
    ∙ ap (λ (r : ℕ). slice_index c.self.inside.hashes.items r) number in
    let hand_is : c.as_slice.result.now ≡ hand_of c.self.inside.dealer (slice_index c.self.inside.hashes.items c.args.pass.now.pass.number) = c.as_slice.ensures.value ∙ (c.deal-hand.ensures.dealt ∙ ap (λ (h : ℕ). hand_of c.self.inside.dealer h) hash) in
    let cost_is : c.index-3.result.now ≡ width c.self.inside.costs.items c.args.pass.now.pass.number =
    sym (get_or_from_slice_get c.self.inside.costs.items c.number-request.result c.index-3.result.now 0 (slice_get_read c.self.inside.costs.items (length c.self.inside.costs.items) c.number-request.result c.index-3.result.now refl low c.index-3.ensures))
    ∙ ap (λ (r : ℕ). width c.self.inside.costs.items r) number in
    fits (opened c.legal_histories_are_in_order.ensures) c.self.inside.book c.self.inside.dealer c.self.inside.costs.items c.self.inside.hashes.items c.self.inside.log.items c.self.inside.arrived.items _ c.self.invariant (arrival c.arrive-arrived.result c.args.pass.now.pass.number) c.arrive-arrived.new.self (arrives_same (opened c.legal_histories_are_in_order.ensures) c.self.inside.book c.self.inside.dealer c.self.inside.costs.items c.self.inside.hashes.items c.self.inside.log.items c.self.inside.arrived.items _ c.self.invariant c.args.pass.now c.hear.new.self c.hear.new.pass far new c.as_slice.result.now c.index-3.result.now hand_is cost_is c.arrive-arrived.result c.arrive-arrived.new.self c.arrive-arrived.new.pass c.arrive-arrived.ensures.same c.arrive-arrived.ensures.answer) (arrives_kept (opened c.legal_histories_are_in_order.ensures) c.self.inside.book c.self.inside.dealer c.self.inside.costs.items c.self.inside.hashes.items c.self.inside.log.items c.self.inside.arrived.items _ c.self.invariant c.args.pass.now c.hear.new.self c.hear.new.pass far new c.as_slice.result.now c.index-3.result.now hand_is cost_is c.arrive-arrived.result c.arrive-arrived.new.self c.arrive-arrived.new.pass c.arrive-arrived.ensures.same c.arrive-arrived.ensures.answer)

pub append_newer-requires-clause-small : goal.append_newer-requires-clause-small
append_newer-requires-clause-small g c =
    let same : pass_gate c.hear.new.pass ≡ desk_gate c.self.inside.book.desk = c.hear.ensures.same_request.pass ∙ (c.requires.own.own_pass ∙ sym (ap (λ (k : BookView). desk_gate k.desk) c.self.view_is ∙ c.requires.own.own)) in
    let many = ap (λ (t : GateId). length t.shape.widths) same in
    let inside = c.number-request.ensures.inside in let batch = c.self.invariant.gate.batch in let one = c.self.invariant.gate.one_slot_each in let few = c.self.invariant.few in
    let low : c.number-request.result < length c.self.inside.costs.items = omega (arith, many, inside, batch, one) in
    let number : c.number-request.result ≡ c.args.pass.now.pass.number = c.number-request.ensures.number ∙ c.hear.ensures.same_request.number in
    let marks = c.self.invariant.one_mark_each in
    let found : has_arrived (reverse c.self.inside.log.items) c.args.pass.now.pass.number ≡ c.index.result.now = read_mark c.self.inside.arrived.items (reverse c.self.inside.log.items) c.number-request.result c.args.pass.now.pass.number c.index.result.now c.self.invariant.marked number
    (slice_get_read c.self.inside.arrived.items (length c.self.inside.arrived.items) c.number-request.result c.index.result.now refl (omega (arith, low, marks)) c.index.ensures) in
    let new : has_arrived (reverse c.self.inside.log.items) c.args.pass.now.pass.number ≡ false = found ∙ c.if-index.false in
    let far : RacedSoFar c.self.inside.book c.args.pass.now c.hear.new.self c.hear.new.pass = heard_new (opened c.legal_histories_are_in_order.ensures) (ledger_with c.self.inside.book c.self.inside.dealer c.self.inside.costs.items c.self.inside.hashes.items c.self.inside.log.items) c.self.inside.book c.args.pass.now c.hear.new.self c.hear.new.pass c.self.invariant.kept c.hear.ensures.same c.hear.ensures.same_request c.hear.ensures.answer c.hear.ensures.follows c.requires.in_line new in
    let hashes = c.self.invariant.one_hash_each in
    let hash : c.index-2.result.now ≡ slice_index c.self.inside.hashes.items c.args.pass.now.pass.number =
    sym (get_or_from_slice_get c.self.inside.hashes.items c.number-request.result c.index-2.result.now 0 (slice_get_read c.self.inside.hashes.items (length c.self.inside.hashes.items) c.number-request.result c.index-2.result.now refl (omega (arith, low, hashes)) c.index-2.ensures))
    ∙ ap (λ (r : ℕ). slice_index c.self.inside.hashes.items r) number in
    let hand_is : c.as_slice.result.now ≡ hand_of c.self.inside.dealer (slice_index c.self.inside.hashes.items c.args.pass.now.pass.number) = c.as_slice.ensures.value ∙ (c.deal-hand.ensures.dealt ∙ ap (λ (h : ℕ). hand_of c.self.inside.dealer h) hash) in
    let cost_is : c.index-3.result.now ≡ width c.self.inside.costs.items c.args.pass.now.pass.number =
    sym (get_or_from_slice_get c.self.inside.costs.items c.number-request.result c.index-3.result.now 0 (slice_get_read c.self.inside.costs.items (length c.self.inside.costs.items) c.number-request.result c.index-3.result.now refl low c.index-3.ensures))
    ∙ ap (λ (r : ℕ). width c.self.inside.costs.items r) number in
    small_then (opened c.legal_histories_are_in_order.ensures) c.self.inside.book c.self.inside.dealer c.self.inside.costs.items c.self.inside.hashes.items c.self.inside.log.items c.self.inside.arrived.items _ c.self.invariant (arrival c.arrive-arrived.result c.args.pass.now.pass.number) c.arrive-arrived.new.self (arrives_same (opened c.legal_histories_are_in_order.ensures) c.self.inside.book c.self.inside.dealer c.self.inside.costs.items c.self.inside.hashes.items c.self.inside.log.items c.self.inside.arrived.items _ c.self.invariant c.args.pass.now c.hear.new.self c.hear.new.pass far new c.as_slice.result.now c.index-3.result.now hand_is cost_is c.arrive-arrived.result c.arrive-arrived.new.self c.arrive-arrived.new.pass c.arrive-arrived.ensures.same c.arrive-arrived.ensures.answer) (arrives_kept (opened c.legal_histories_are_in_order.ensures) c.self.inside.book c.self.inside.dealer c.self.inside.costs.items c.self.inside.hashes.items c.self.inside.log.items c.self.inside.arrived.items _ c.self.invariant c.args.pass.now c.hear.new.self c.hear.new.pass far new c.as_slice.result.now c.index-3.result.now hand_is cost_is c.arrive-arrived.result c.arrive-arrived.new.self c.arrive-arrived.new.pass c.arrive-arrived.ensures.same c.arrive-arrived.ensures.answer)

pub invariant_of-self-2 : goal.invariant_of-self-2
invariant_of-self-2 g c =
    let same : pass_gate c.hear.new.pass ≡ desk_gate c.self.inside.book.desk = c.hear.ensures.same_request.pass ∙ (c.requires.own.own_pass ∙ sym (ap (λ (k : BookView). desk_gate k.desk) c.self.view_is ∙ c.requires.own.own)) in
    let many = ap (λ (t : GateId). length t.shape.widths) same in
    let inside = c.number-request.ensures.inside in let batch = c.self.invariant.gate.batch in let one = c.self.invariant.gate.one_slot_each in let few = c.self.invariant.few in
    let low : c.number-request.result < length c.self.inside.costs.items = omega (arith, many, inside, batch, one) in
    let number : c.number-request.result ≡ c.args.pass.now.pass.number = c.number-request.ensures.number ∙ c.hear.ensures.same_request.number in
    let marks = c.self.invariant.one_mark_each in
    let found : has_arrived (reverse c.self.inside.log.items) c.args.pass.now.pass.number ≡ c.index.result.now = read_mark c.self.inside.arrived.items (reverse c.self.inside.log.items) c.number-request.result c.args.pass.now.pass.number c.index.result.now c.self.invariant.marked number
    (slice_get_read c.self.inside.arrived.items (length c.self.inside.arrived.items) c.number-request.result c.index.result.now refl (omega (arith, low, marks)) c.index.ensures) in
    let new : has_arrived (reverse c.self.inside.log.items) c.args.pass.now.pass.number ≡ false = found ∙ c.if-index.false in
    let far : RacedSoFar c.self.inside.book c.args.pass.now c.hear.new.self c.hear.new.pass = heard_new (opened c.legal_histories_are_in_order.ensures) (ledger_with c.self.inside.book c.self.inside.dealer c.self.inside.costs.items c.self.inside.hashes.items c.self.inside.log.items) c.self.inside.book c.args.pass.now c.hear.new.self c.hear.new.pass c.self.invariant.kept c.hear.ensures.same c.hear.ensures.same_request c.hear.ensures.answer c.hear.ensures.follows c.requires.in_line new in
    let hashes = c.self.invariant.one_hash_each in
    let hash : c.index-2.result.now ≡ slice_index c.self.inside.hashes.items c.args.pass.now.pass.number =
    sym (get_or_from_slice_get c.self.inside.hashes.items c.number-request.result c.index-2.result.now 0 (slice_get_read c.self.inside.hashes.items (length c.self.inside.hashes.items) c.number-request.result c.index-2.result.now refl (omega (arith, low, hashes)) c.index-2.ensures))
    ∙ ap (λ (r : ℕ). slice_index c.self.inside.hashes.items r) number in
    let hand_is : c.as_slice.result.now ≡ hand_of c.self.inside.dealer (slice_index c.self.inside.hashes.items c.args.pass.now.pass.number) = c.as_slice.ensures.value ∙ (c.deal-hand.ensures.dealt ∙ ap (λ (h : ℕ). hand_of c.self.inside.dealer h) hash) in
    let cost_is : c.index-3.result.now ≡ width c.self.inside.costs.items c.args.pass.now.pass.number =
    sym (get_or_from_slice_get c.self.inside.costs.items c.number-request.result c.index-3.result.now 0 (slice_get_read c.self.inside.costs.items (length c.self.inside.costs.items) c.number-request.result c.index-3.result.now refl low c.index-3.ensures))
    ∙ ap (λ (r : ℕ). width c.self.inside.costs.items r) number in
    arrives_batch (opened c.legal_histories_are_in_order.ensures) c.self.inside.book c.self.inside.dealer c.self.inside.costs.items c.self.inside.hashes.items c.self.inside.log.items c.self.inside.arrived.items _ c.self.invariant c.args.pass.now c.hear.new.self c.hear.new.pass far new c.as_slice.result.now c.index-3.result.now hand_is cost_is c.arrive-arrived.result c.arrive-arrived.new.self c.arrive-arrived.new.pass c.arrive-arrived.ensures.same c.arrive-arrived.ensures.answer c.append_newer.new.log.items c.append_newer.ensures.whole (omega (arith, low, number)) _
    (ap (λ (b : Bool). slice_set c.self.inside.arrived.items c.number-request.result b) c.is_logged.ensures ∙ ap (λ (r : ℕ). slice_set c.self.inside.arrived.items r (is_logged c.arrive-arrived.result)) number) _ c.append_newer.ensures.capacity

pub returns-clause-same : goal.returns-clause-same
returns-clause-same g c =
    let same : pass_gate c.hear.new.pass ≡ desk_gate c.self.inside.book.desk = c.hear.ensures.same_request.pass ∙ (c.requires.own.own_pass ∙ sym (ap (λ (k : BookView). desk_gate k.desk) c.self.view_is ∙ c.requires.own.own)) in
    let many = ap (λ (t : GateId). length t.shape.widths) same in
    let inside = c.number-request.ensures.inside in let batch = c.self.invariant.gate.batch in let one = c.self.invariant.gate.one_slot_each in let few = c.self.invariant.few in
    let low : c.number-request.result < length c.self.inside.costs.items = omega (arith, many, inside, batch, one) in
    let number : c.number-request.result ≡ c.args.pass.now.pass.number = c.number-request.ensures.number ∙ c.hear.ensures.same_request.number in
    let marks = c.self.invariant.one_mark_each in
    let found : has_arrived (reverse c.self.inside.log.items) c.args.pass.now.pass.number ≡ c.index.result.now = read_mark c.self.inside.arrived.items (reverse c.self.inside.log.items) c.number-request.result c.args.pass.now.pass.number c.index.result.now c.self.invariant.marked number
    (slice_get_read c.self.inside.arrived.items (length c.self.inside.arrived.items) c.number-request.result c.index.result.now refl (omega (arith, low, marks)) c.index.ensures) in
    let new : has_arrived (reverse c.self.inside.log.items) c.args.pass.now.pass.number ≡ false = found ∙ c.if-index.false in
    let far : RacedSoFar c.self.inside.book c.args.pass.now c.hear.new.self c.hear.new.pass = heard_new (opened c.legal_histories_are_in_order.ensures) (ledger_with c.self.inside.book c.self.inside.dealer c.self.inside.costs.items c.self.inside.hashes.items c.self.inside.log.items) c.self.inside.book c.args.pass.now c.hear.new.self c.hear.new.pass c.self.invariant.kept c.hear.ensures.same c.hear.ensures.same_request c.hear.ensures.answer c.hear.ensures.follows c.requires.in_line new in
    let hashes = c.self.invariant.one_hash_each in
    let hash : c.index-2.result.now ≡ slice_index c.self.inside.hashes.items c.args.pass.now.pass.number =
    sym (get_or_from_slice_get c.self.inside.hashes.items c.number-request.result c.index-2.result.now 0 (slice_get_read c.self.inside.hashes.items (length c.self.inside.hashes.items) c.number-request.result c.index-2.result.now refl (omega (arith, low, hashes)) c.index-2.ensures))
    ∙ ap (λ (r : ℕ). slice_index c.self.inside.hashes.items r) number in
    let hand_is : c.as_slice.result.now ≡ hand_of c.self.inside.dealer (slice_index c.self.inside.hashes.items c.args.pass.now.pass.number) = c.as_slice.ensures.value ∙ (c.deal-hand.ensures.dealt ∙ ap (λ (h : ℕ). hand_of c.self.inside.dealer h) hash) in
    let cost_is : c.index-3.result.now ≡ width c.self.inside.costs.items c.args.pass.now.pass.number =
    sym (get_or_from_slice_get c.self.inside.costs.items c.number-request.result c.index-3.result.now 0 (slice_get_read c.self.inside.costs.items (length c.self.inside.costs.items) c.number-request.result c.index-3.result.now refl low c.index-3.ensures))
    ∙ ap (λ (r : ℕ). width c.self.inside.costs.items r) number in
    same_book (unsettled c.unsettled_logs_are_fair.ensures) c.args.self.now c.self.inside.book c.arrive-arrived.new.self (ledger_with c.self.inside.book c.self.inside.dealer c.self.inside.costs.items c.self.inside.hashes.items c.self.inside.log.items) _ _ _ c.self.view_is (arrives_same (opened c.legal_histories_are_in_order.ensures) c.self.inside.book c.self.inside.dealer c.self.inside.costs.items c.self.inside.hashes.items c.self.inside.log.items c.self.inside.arrived.items _ c.self.invariant c.args.pass.now c.hear.new.self c.hear.new.pass far new c.as_slice.result.now c.index-3.result.now hand_is cost_is c.arrive-arrived.result c.arrive-arrived.new.self c.arrive-arrived.new.pass c.arrive-arrived.ensures.same c.arrive-arrived.ensures.answer) (invariant_of-self-2 g c)

pub returns-clause-answer : goal.returns-clause-answer
returns-clause-answer g c =
    let same : pass_gate c.hear.new.pass ≡ desk_gate c.self.inside.book.desk = c.hear.ensures.same_request.pass ∙ (c.requires.own.own_pass ∙ sym (ap (λ (k : BookView). desk_gate k.desk) c.self.view_is ∙ c.requires.own.own)) in
    let many = ap (λ (t : GateId). length t.shape.widths) same in
    let inside = c.number-request.ensures.inside in let batch = c.self.invariant.gate.batch in let one = c.self.invariant.gate.one_slot_each in let few = c.self.invariant.few in
    let low : c.number-request.result < length c.self.inside.costs.items = omega (arith, many, inside, batch, one) in
    let number : c.number-request.result ≡ c.args.pass.now.pass.number = c.number-request.ensures.number ∙ c.hear.ensures.same_request.number in
    let marks = c.self.invariant.one_mark_each in
    let found : has_arrived (reverse c.self.inside.log.items) c.args.pass.now.pass.number ≡ c.index.result.now = read_mark c.self.inside.arrived.items (reverse c.self.inside.log.items) c.number-request.result c.args.pass.now.pass.number c.index.result.now c.self.invariant.marked number
    (slice_get_read c.self.inside.arrived.items (length c.self.inside.arrived.items) c.number-request.result c.index.result.now refl (omega (arith, low, marks)) c.index.ensures) in
    let new : has_arrived (reverse c.self.inside.log.items) c.args.pass.now.pass.number ≡ false = found ∙ c.if-index.false in
    let far : RacedSoFar c.self.inside.book c.args.pass.now c.hear.new.self c.hear.new.pass = heard_new (opened c.legal_histories_are_in_order.ensures) (ledger_with c.self.inside.book c.self.inside.dealer c.self.inside.costs.items c.self.inside.hashes.items c.self.inside.log.items) c.self.inside.book c.args.pass.now c.hear.new.self c.hear.new.pass c.self.invariant.kept c.hear.ensures.same c.hear.ensures.same_request c.hear.ensures.answer c.hear.ensures.follows c.requires.in_line new in
    let hashes = c.self.invariant.one_hash_each in
    let hash : c.index-2.result.now ≡ slice_index c.self.inside.hashes.items c.args.pass.now.pass.number =
    sym (get_or_from_slice_get c.self.inside.hashes.items c.number-request.result c.index-2.result.now 0 (slice_get_read c.self.inside.hashes.items (length c.self.inside.hashes.items) c.number-request.result c.index-2.result.now refl (omega (arith, low, hashes)) c.index-2.ensures))
    ∙ ap (λ (r : ℕ). slice_index c.self.inside.hashes.items r) number in
    let hand_is : c.as_slice.result.now ≡ hand_of c.self.inside.dealer (slice_index c.self.inside.hashes.items c.args.pass.now.pass.number) = c.as_slice.ensures.value ∙ (c.deal-hand.ensures.dealt ∙ ap (λ (h : ℕ). hand_of c.self.inside.dealer h) hash) in
    let cost_is : c.index-3.result.now ≡ width c.self.inside.costs.items c.args.pass.now.pass.number =
    sym (get_or_from_slice_get c.self.inside.costs.items c.number-request.result c.index-3.result.now 0 (slice_get_read c.self.inside.costs.items (length c.self.inside.costs.items) c.number-request.result c.index-3.result.now refl low c.index-3.ensures))
    ∙ ap (λ (r : ℕ). width c.self.inside.costs.items r) number in
    arrives_answer (opened c.legal_histories_are_in_order.ensures) c.self.inside.book c.self.inside.dealer c.self.inside.costs.items c.self.inside.hashes.items c.self.inside.log.items c.self.inside.arrived.items _ c.self.invariant c.args.pass.now c.hear.new.self c.hear.new.pass far new c.as_slice.result.now c.index-3.result.now hand_is cost_is c.arrive-arrived.result c.arrive-arrived.new.self c.arrive-arrived.new.pass c.arrive-arrived.ensures.same c.arrive-arrived.ensures.answer c.append_newer.new.log.items c.append_newer.ensures.whole c.args.self.now c.self.view_is

pub returns-clause-after : goal.returns-clause-after
returns-clause-after g c =
    let same : pass_gate c.hear.new.pass ≡ desk_gate c.self.inside.book.desk = c.hear.ensures.same_request.pass ∙ (c.requires.own.own_pass ∙ sym (ap (λ (k : BookView). desk_gate k.desk) c.self.view_is ∙ c.requires.own.own)) in
    let many = ap (λ (t : GateId). length t.shape.widths) same in
    let inside = c.number-request.ensures.inside in let batch = c.self.invariant.gate.batch in let one = c.self.invariant.gate.one_slot_each in let few = c.self.invariant.few in
    let low : c.number-request.result < length c.self.inside.costs.items = omega (arith, many, inside, batch, one) in
    let number : c.number-request.result ≡ c.args.pass.now.pass.number = c.number-request.ensures.number ∙ c.hear.ensures.same_request.number in
    let marks = c.self.invariant.one_mark_each in
    let found : has_arrived (reverse c.self.inside.log.items) c.args.pass.now.pass.number ≡ c.index.result.now = read_mark c.self.inside.arrived.items (reverse c.self.inside.log.items) c.number-request.result c.args.pass.now.pass.number c.index.result.now c.self.invariant.marked number
    (slice_get_read c.self.inside.arrived.items (length c.self.inside.arrived.items) c.number-request.result c.index.result.now refl (omega (arith, low, marks)) c.index.ensures) in
    let new : has_arrived (reverse c.self.inside.log.items) c.args.pass.now.pass.number ≡ false = found ∙ c.if-index.false in
    let far : RacedSoFar c.self.inside.book c.args.pass.now c.hear.new.self c.hear.new.pass = heard_new (opened c.legal_histories_are_in_order.ensures) (ledger_with c.self.inside.book c.self.inside.dealer c.self.inside.costs.items c.self.inside.hashes.items c.self.inside.log.items) c.self.inside.book c.args.pass.now c.hear.new.self c.hear.new.pass c.self.invariant.kept c.hear.ensures.same c.hear.ensures.same_request c.hear.ensures.answer c.hear.ensures.follows c.requires.in_line new in
    let hashes = c.self.invariant.one_hash_each in
    let hash : c.index-2.result.now ≡ slice_index c.self.inside.hashes.items c.args.pass.now.pass.number =
    sym (get_or_from_slice_get c.self.inside.hashes.items c.number-request.result c.index-2.result.now 0 (slice_get_read c.self.inside.hashes.items (length c.self.inside.hashes.items) c.number-request.result c.index-2.result.now refl (omega (arith, low, hashes)) c.index-2.ensures))
    ∙ ap (λ (r : ℕ). slice_index c.self.inside.hashes.items r) number in
    let hand_is : c.as_slice.result.now ≡ hand_of c.self.inside.dealer (slice_index c.self.inside.hashes.items c.args.pass.now.pass.number) = c.as_slice.ensures.value ∙ (c.deal-hand.ensures.dealt ∙ ap (λ (h : ℕ). hand_of c.self.inside.dealer h) hash) in
    let cost_is : c.index-3.result.now ≡ width c.self.inside.costs.items c.args.pass.now.pass.number =
    sym (get_or_from_slice_get c.self.inside.costs.items c.number-request.result c.index-3.result.now 0 (slice_get_read c.self.inside.costs.items (length c.self.inside.costs.items) c.number-request.result c.index-3.result.now refl low c.index-3.ensures))
    ∙ ap (λ (r : ℕ). width c.self.inside.costs.items r) number in
    arrives_after (opened c.legal_histories_are_in_order.ensures) c.self.inside.book c.self.inside.dealer c.self.inside.costs.items c.self.inside.hashes.items c.self.inside.log.items c.self.inside.arrived.items _ c.self.invariant c.args.pass.now c.hear.new.self c.hear.new.pass far new c.as_slice.result.now c.index-3.result.now hand_is cost_is c.arrive-arrived.result c.arrive-arrived.new.self c.arrive-arrived.new.pass c.arrive-arrived.ensures.same c.arrive-arrived.ensures.answer c.append_newer.new.log.items c.append_newer.ensures.whole c.args.self.now c.self.view_is c.arrive-arrived.ensures.after
