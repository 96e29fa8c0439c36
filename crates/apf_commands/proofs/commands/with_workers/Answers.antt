-- What the chain of builders makes.
use Rattle.std.proofs.Common.{◌≡◌, ◌∙◌, ap, codes, pos}
use Rattle.std.proofs.lemmas.Result.{IfOk-weaker}
use Rattle.apf_commands.specs.Commands.{number_rule, number_option_rule}
use Rattle.apf_commands.proofs.Chain.{added}
use Rattle.clap.specs.declared.builder.value_parser.ValueParser.TheVariants.{Signed}
use Rattle.apf_commands.proofs.commands.with_workers.Goals as goal

pub returns : goal.returns
returns c =
    let range : c.range-workers.result ≡ Signed (pos 1) (pos 64) = rw (c.value_parser.ensures, c.new.ensures.start, c.new.ensures.end) at c.range-workers.ensures in
    let many : c.range-rounds.result ≡ Signed (pos 1) (pos 1000000) = rw (c.value_parser-2.ensures, c.new-2.ensures.start, c.new-2.ensures.end) at c.range-rounds.ensures in
    let workers = c.number.ensures.rule ∙ ap (number_rule (codes "WORKERS")) range in
    let rounds = c.number_option.ensures.rule ∙ ap (number_option_rule (codes "rounds")) many in
    IfOk-weaker c.arg-4.result _ _
    (λ r h app made. added (added (added (added made c.text.ensures.rule c.text.ensures.local c.in_ok-arg.ensures) c.text-2.ensures.rule c.text-2.ensures.local c.in_ok-arg-2.ensures) workers c.number.ensures.local c.in_ok-arg-3.ensures) rounds c.number_option.ensures.local h)
    c.arg-4.ensures
