-- What the chain of builders makes.
use Rattle.std.proofs.Common.{◌≡◌, ◌∙◌, ap, codes, pos}
use Rattle.std.proofs.lemmas.Result.{IfOk-weaker}
use Rattle.apf_commands.specs.Commands.{number_option_rule}
use Rattle.apf_commands.proofs.Chain.{added}
use Rattle.clap.specs.declared.builder.value_parser.ValueParser.TheVariants.{Signed}
use Rattle.apf_commands.proofs.commands.with_cluster_print.Goals as goal

pub returns : goal.returns
returns c =
    let many : c.range-flows.result ≡ Signed (pos 0) (pos 1000000) = rw (c.value_parser.ensures, c.new.ensures.start, c.new.ensures.end) at c.range-flows.ensures in
    let flows = c.number_option.ensures.rule ∙ ap (number_option_rule (codes "flows")) many in
    IfOk-weaker c.arg-5.result _ _
    (λ r h app made. added (added (added (added (added (c.in_ok-with_cluster_log.ensures app made) flows c.number_option.ensures.local c.in_ok-arg.ensures) c.flag.ensures.rule c.flag.ensures.local c.in_ok-arg-2.ensures) c.flag-2.ensures.rule c.flag-2.ensures.local c.in_ok-arg-3.ensures) c.option.ensures.rule c.option.ensures.local c.in_ok-arg-4.ensures) c.flag-3.ensures.rule c.flag-3.ensures.local h)
    c.arg-5.ensures
