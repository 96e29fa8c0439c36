-- What each part of the picture shows.
use Rattle.std.proofs.Common.{◌≡◌, ℕ, List, map, refl, rules, ◌∙◌, ap, ap₂, subst}
use Rattle.std.specs.Prelude.{All}
use Rattle.apf_picture.specs.declared.life.Life.{Life}
use Rattle.apf_picture.specs.Columns.{IsArea, IsStrip}
use Rattle.apf_picture.specs.Lives.{life_seen, lives_by}
use Rattle.apf_picture.specs.Pictures.{flows_in, length_of, lives_of}
use Rattle.apf_picture.specs.Ranks.{rows_of}
use Rattle.apf_picture.specs.Scales.{IsStep, unit_length, unit_of}
use Rattle.apf_picture.proofs.picture.Picture.of.Goals as goal

pub returns : goal.returns
returns c =
    let scene = c.args.scene.now in
    let long = c.saturating_sub-long.result in
    let same : long ≡ length_of scene = search rules in
    let first_is : c.in_ok-lives.lives.items ≡ lives_by scene.trace.now scene.outcomes.now scene.flows.now.of.items (rows_of c.in_ok-own.own.items (flows_in scene)) = search rules in
    let lives_is : c.in_ok-lives-2.lives.items ≡ lives_of scene c.in_ok-own.own.items =
    c.in_ok-lives-2.ensures.seen ∙ ap₂ (λ (n : ℕ) (lives : List Life). map (life_seen scene.from n) lives) same (c.as_slice-3.ensures.value ∙ first_is) in
    let drawn = lives_of scene c.in_ok-own.own.items in
    record {
      config = refl;
      patience = refl;
      from = refl;
      long = same;
      is_whole = refl;
      step =
          subst (λ (n : ℕ). IsStep n (unit_length (unit_of n)) c.step.result) same
          (subst (λ (unit : ℕ). IsStep long unit c.step.result) (c.length.ensures ∙ ap unit_length c.of-2.ensures) c.step.ensures.step);
      flows = search rules;
      schema = search rules;
      own = c.in_ok-own.own.items;
      own_is = search rules;
      numbers = search rules;
      rows = search rules;
      beginning = search rules;
      cutting = search rules;
      areas =
          subst (λ (n : ℕ). All (IsArea drawn n) c.in_ok-areas.field-0.items) same
          (subst (λ (lives : List Life). All (IsArea lives long) c.in_ok-areas.field-0.items) (c.as_slice-9.ensures.value ∙ lives_is) c.in_ok-areas.ensures.areas);
      area_rows = search rules;
      used = search rules;
      queues = search rules;
      places = search rules;
      strips =
          subst (λ (n : ℕ). All (IsStrip drawn n) c.in_ok-strips.field-0.items) same
          (subst (λ (lives : List Life). All (IsStrip lives long) c.in_ok-strips.field-0.items) (c.as_slice-10.ensures.value ∙ lives_is) c.in_ok-strips.ensures.strips);
    }
