use Rattle.std.proofs.Common.{ℕ, List, ◌∙◌, ap, rules, FitsSigned}
use Rattle.std.specs.Int.{w128}
use Rattle.std.proofs.lemmas.Int.{to_z-of_z}
use Rattle.jiff_fmt.specs.Friendly.{parse_duration}
use Rattle.apf_audit.proofs.Naturals.{waits_as, wait_some, wait_long, wait_unfit}
use Rattle.apf_audit.proofs.times.wait_of.Goals as goal

pub returns-in-Ok-try_from : goal.returns-in-Ok-try_from
returns-in-Ok-try_from c =
    let fits : FitsSigned w128 c.in-Ok.nanos = search rules in
    let tried = simp to_z-of_z at c.in-Ok-try_from.ensures in
    waits_as _ _ _ (c.in-Ok.ensures ∙ ap (λ (text : List ℕ). parse_duration text) c.as_bytes.ensures.value) (wait_some c.in-Ok.nanos _ tried.0 tried.1 c.if-wait-le-MAX_WAIT.true)

pub returns-in_default-try_from : goal.returns-in_default-try_from
returns-in_default-try_from c =
    let fits : FitsSigned w128 c.in-Ok.nanos = search rules in
    let tried = simp to_z-of_z at c.in-Ok-try_from.ensures in
    waits_as _ _ _ (c.in-Ok.ensures ∙ ap (λ (text : List ℕ). parse_duration text) c.as_bytes.ensures.value) (wait_long c.in-Ok.nanos _ tried.0 tried.1 c.if-wait-le-MAX_WAIT.false)

pub returns-in_default-try_from-2 : goal.returns-in_default-try_from-2
returns-in_default-try_from-2 c =
    let fits : FitsSigned w128 c.in-Ok.nanos = search rules in
    let tried = simp to_z-of_z at c.in_default-try_from.ensures in
    waits_as _ _ _ (c.in-Ok.ensures ∙ ap (λ (text : List ℕ). parse_duration text) c.as_bytes.ensures.value) (wait_unfit c.in-Ok.nanos tried)
