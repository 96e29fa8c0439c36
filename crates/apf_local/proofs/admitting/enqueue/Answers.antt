-- The hand was dealt to the request's flow.
use Rattle.std.proofs.Common.{rules, ◌≡◌, refl, subst}
use Rattle.apf_flow.specs.Sizes.{Sizes}
use Rattle.apf_flow.specs.Deal.{hand_of}
use Rattle.apf_local.proofs.admitting.enqueue.Goals as goal

pub enter-requires-clause-blocked : goal.enter-requires-clause-blocked
enter-requires-clause-blocked c = λ t at.
    let dealt : c.as_slice.result.now ≡ hand_of c.args.dealer.now c.args.ask.hash = (search rules) in
    let begun = c.requires.begun t at in
    record {
      fresh = begun.0;
      queues = begun.1;
      asked = record {
        ask = record { hash = c.args.ask.hash; cost = c.args.ask.cost };
        said = begun.2;
        hand_is = subst (λ (s : Sizes). c.as_slice.result.now ≡ hand_of s c.args.ask.hash) c.requires.dealt dealt;
        cost_is = refl;
      };
    }
