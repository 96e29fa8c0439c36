-- A level that was just opened has no request yet.
use Rattle.std.proofs.Common.{rules, ◌≡◌, sym, ◌∙◌}
use Rattle.std.specs.Prelude.{length}
use Rattle.std.proofs.lemmas.Option.{slice_get_within}
use Rattle.apf_local.specs.declared.answer.Place.TheVariants as places
use Rattle.apf_local.proofs.Giving.{get_or_of}
use Rattle.apf_local.proofs.level.LocalLevel.open_batch.Goals as goal

pub renew_all-requires-clause-opened : goal.renew_all-requires-clause-opened
renew_all-requires-clause-opened c =
    let opened = c.in_ok-level.ensures.opened in
    let slots : _ ≡ length c.args.asks.now = (search rules) in
    record {
      count = opened.count ∙ slots;
      passes = opened.owner.all_passes ∙ slots;
      few = search rules;
      numbers = opened.owner.numbers;
      free = λ i p at. sym (get_or_of c.in_ok-level.level.places i places.Free p at) ∙ opened.free i places.Free (slice_get_within c.in_ok-level.level.places i p at);
      numbered = opened.owner.numbered;
    }
