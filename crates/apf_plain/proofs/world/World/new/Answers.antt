-- All requests are away.
use Rattle.std.proofs.Common.{◌≡◌, ℕ, List, length, get_or, sym, ap, ◌∙◌, subst, arith, Bool, true, false, Option, None}
use Rattle.std.proofs.Math.Path.{fun_ext}
use Rattle.apf_words.specs.declared.decision.Decision.{Decision}
use Rattle.apf_model.specs.declared.response.Response.{Response}
use Rattle.apf_model.specs.declared.moves.Stage.{Stage}
use Rattle.apf_model.specs.declared.moves.Stage.TheVariants.{Away}
use Rattle.apf_model.specs.World.{World, seats_at, width}
use Rattle.apf_model.specs.Schedule.{AreWidths}
use Rattle.apf_plain.specs.Stages.{stage_in}
use Rattle.apf_plain.proofs.Sums.{tally_nothing}
use Rattle.apf_plain.proofs.Worlds.{same_in_list}
use Rattle.apf_plain.proofs.world.World.new.Goals as goal

pub invariant_of-result-clause-are_widths : goal.invariant_of-result-clause-are_widths
invariant_of-result-clause-are_widths c = let P : List ℕ → Type 0 = AreWidths in subst P (sym c.in_ok-widths.ensures) c.requires.widths

pub invariant_of-result-clause-few_seats : goal.invariant_of-result-clause-few_seats
invariant_of-result-clause-few_seats c = let none = tally_nothing (λ r. seats_at (stage_in c.in_ok-stages.stages.items r) (width c.in_ok-widths.widths.items r)) (length c.in_ok-widths.widths.items)
    (λ j l. ap (λ (s : Stage). seats_at s (width c.in_ok-widths.widths.items j)) (ap (λ (xs : List Stage). get_or xs j Away) c.in_ok-stages.ensures ∙ same_in_list (length c.args.widths.now) Away j)) in omega arith

-- an open world of one limit
abbrev made : ℕ → Response → (ℕ → Stage) → (ℕ → Bool) → (ℕ → Option Decision) → World
made limit response stage saw decision = record { is_open = true; limit = limit; largest = limit; response = response; stage = stage; saw_no_room = saw; decision = decision }

pub returns-clause-world : goal.returns-clause-world
returns-clause-world c = let n = length c.args.widths.now in
    let f : (λ (r : ℕ). stage_in c.in_ok-stages.stages.items r) ≡ (λ (r : ℕ). Away) = fun_ext λ r. ap (λ (xs : List Stage). get_or xs r Away) c.in_ok-stages.ensures ∙ same_in_list n Away r in
    let g : (λ (r : ℕ). get_or c.in_ok-saw_no_room.saw_no_room.items r false) ≡ (λ (r : ℕ). false) = fun_ext λ r. ap (λ (xs : List Bool). get_or xs r false) c.in_ok-saw_no_room.ensures ∙ same_in_list n false r in
    let h : (λ (r : ℕ). get_or c.in_ok-decisions.decisions.items r None) ≡ (λ (r : ℕ). None) = fun_ext λ r. ap (λ (xs : List (Option Decision)). get_or xs r None) c.in_ok-decisions.ensures ∙ same_in_list n None r in
    ap (λ (s : ℕ → Stage). made c.args.limit c.args.response s (λ r. get_or c.in_ok-saw_no_room.saw_no_room.items r false) (λ r. get_or c.in_ok-decisions.decisions.items r None)) f
    ∙ (ap (λ (s : ℕ → Bool). made c.args.limit c.args.response (λ _. Away) s (λ r. get_or c.in_ok-decisions.decisions.items r None)) g
    ∙ ap (λ (s : ℕ → Option Decision). made c.args.limit c.args.response (λ _. Away) (λ _. false) s) h)
