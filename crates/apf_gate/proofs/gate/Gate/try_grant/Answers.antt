use Rattle.std.proofs.Common.{ℕ, ◌<◌, length, sym, ap, ◌∙◌, subst}
use Rattle.apf_words.specs.Fits.{Fits}
use Rattle.apf_model.specs.World.{width}
use Rattle.apf_gate.specs.Tokens.{GateId}
use Rattle.apf_gate.proofs.More.{same_desk_then}
use Rattle.apf_gate.proofs.gate.Gate.try_grant.Goals as goal

pub returns-then-not-fits-clause-answer : goal.returns-then-not-fits-clause-answer
returns-then-not-fits-clause-answer g c =
    let wide = ap (λ (x : GateId). width x.shape.widths c.args.request) c.requires.own ∙ sym c.width_of-width.ensures.value in
    (c.view-level.result, c.view-level.ensures.answer, (λ f. let x = c.if-not-fits.ensures.1 (subst (λ (x : ℕ × ℕ × ℕ). Fits x.0 x.1 x.2) (λ k. (sym c.seats.ensures.value k, sym c.limit.ensures.value k, wide k)) f) in cc))

pub exchange_grant-requires-clause-some_wait : goal.exchange_grant-requires-clause-some_wait
exchange_grant-requires-clause-some_wait g c = c.view-level.ensures.after.waits c.args.request (subst (λ (x : GateId). c.args.request < length x.shape.widths) (sym c.requires.own) c.requires.is_request.inside) c.requires.waits

pub returns-then-not-exchange_grant-clause-same : goal.returns-then-not-exchange_grant-clause-same
returns-then-not-exchange_grant-clause-same g c = same_desk_then _ _ _ c.view-level.ensures.same c.exchange_grant.ensures.same

pub returns-clause-same : goal.returns-clause-same
returns-clause-same g c = same_desk_then _ _ _ c.view-level.ensures.same c.exchange_grant.ensures.same
