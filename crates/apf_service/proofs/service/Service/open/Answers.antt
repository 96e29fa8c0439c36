-- A level whose slots are free has no numbers.
use Rattle.std.proofs.Common.{rules, ◌≤◌, ◌*◌, ℕ, sym, ap, ◌∙◌, subst}
use Rattle.apf_words.specs.Limits.{max_requests}
use Rattle.apf_local.specs.Levels.{LocalView}
use Rattle.apf_local.specs.Openings.{IsOpened}
use Rattle.apf_service.specs.declared.tally.Tally.{Tally}
use Rattle.apf_service.specs.Tallies.{IsTallyOf, slots_of}
use Rattle.apf_service.proofs.Sums.{none_kept}
use Rattle.apf_service.proofs.service.Service.open.Goals as goal

pub invariant_of-result : goal.invariant_of-result
invariant_of-result c =
    let l : LocalView = c.in_ok-level.level in
    let opened : IsOpened c.args.config.now c.args.slots c.settling_of.result l = c.in_ok-level.ensures.opened in
    record {
      tallied = record {
        few = subst (λ (n : ℕ). n ≤ max_requests) (sym opened.count) opened.owner.few;
        each_its_pass = opened.owner.all_passes ∙ sym opened.count;
        room = opened.owner.room ∙ ap (λ (n : ℕ). 2 * n) (sym opened.count);
        numbers = subst (λ (t : Tally). IsTallyOf (slots_of l) t) (sym c.none.ensures) (none_kept l opened.free);
      };
      room_for_new = search (opened.count, rules);
    }
