-- The texts are those of the option's row, or none.
use Rattle.std.proofs.Common.{◌∙◌, [], ap, sym, map, unwrap_or, Bor}
use Rattle.std.proofs.lemmas.Result.{IfOk-weaker}
use Rattle.clap.specs.Words.{Text, found_of}
use Rattle.clap.proofs.WalkLemmas.{raw_values-rows}
use Rattle.apf_commands.proofs.words.texts_of.Goals as goal

pub returns-in-Some : goal.returns-in-Some
returns-in-Some c =
    let all = sym (raw_values-rows (found_of c.args.matches.now) c.args.id.now) ∙ sym c.in-Some.ensures in
    IfOk-weaker c.to_vec.result _ _
    (λ v h. ap (λ o. unwrap_or o []) all ∙ ap (map (λ (t : Bor Text). t.now)) (sym (h (λ x y e. e))))
    c.to_vec.ensures.items_if_clones_equal

pub returns-in-None : goal.returns-in-None
returns-in-None c =
    let all = sym (raw_values-rows (found_of c.args.matches.now) c.args.id.now) ∙ sym c.in-None.ensures in
    ap (λ o. unwrap_or o []) all ∙ ap (map (λ (t : Bor Text). t.now)) (sym c.new.ensures.items)
