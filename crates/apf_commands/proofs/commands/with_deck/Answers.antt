-- What the chain of builders makes.
use Rattle.std.proofs.Common.{◌∙◌, ap, codes}
use Rattle.std.proofs.lemmas.Result.{IfOk-weaker}
use Rattle.apf_commands.specs.Commands.{number_rule}
use Rattle.apf_commands.proofs.Chain.{added}
use Rattle.apf_commands.proofs.commands.with_deck.Goals as goal

pub returns : goal.returns
returns c =
    let deck = c.number.ensures.rule ∙ ap (number_rule (codes "DECK")) c.value_parser.ensures in
    let hand = c.number-2.ensures.rule ∙ ap (number_rule (codes "HAND")) c.value_parser-2.ensures in
    let hash = c.number-3.ensures.rule ∙ ap (number_rule (codes "HASH")) c.value_parser-3.ensures in
    IfOk-weaker c.arg-3.result _ _
    (λ r h app made. added (added (added made deck c.number.ensures.local c.in_ok-arg.ensures) hand c.number-2.ensures.local c.in_ok-arg-2.ensures) hash c.number-3.ensures.local h)
    c.arg-3.ensures
