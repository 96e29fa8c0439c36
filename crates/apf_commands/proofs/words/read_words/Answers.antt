-- A parse that succeeds has no fault, so it entered one of the commands, with its arguments.
use Rattle.std.proofs.Common.{◌≡◌, ◌∙◌, [], ap, is_some, refl, sym, subst, Some}
use Rattle.std.proofs.lemmas.Result.{IfOk-weaker}
use Rattle.clap.specs.Words.{App, Text, app_of, fault_of, found_of, is_simple_and_free, rows_of, subcommand_of}
use Rattle.clap.specs.Walk.{texts}
use Rattle.clap.specs.Kinds.{HasKind}
use Rattle.clap.specs.declared.parser.matches.ArgMatches.TheViews.{out-ArgMatches}
use Rattle.clap.proofs.FaultLemmas.{failed_up}
use Rattle.apf_commands.specs.Commands.{apf_app}
use Rattle.apf_commands.proofs.Accepted.{apf_is_free, command_of}
use Rattle.apf_commands.specs.Meaning.{AsksFor, HasLevelName, IsInRange, name_fault, words_fault}
use Rattle.apf_commands.specs.declared.words.Action.{Action}
use Rattle.apf_commands.proofs.Ranges.{first_kind, has_name_fault, in_range, judged_fails, no_name_fault, then_kinds}
use Rattle.apf_commands.proofs.Matches.{kind_as, kind_there, command_met, entered_as, parse_of, some_met}
use Rattle.apf_commands.proofs.words.read_words.Goals as goal

pub returns-in_err-matches-clause-refused : goal.returns-in_err-matches-clause-refused
returns-in_err-matches-clause-refused c =
    let words = texts c.args.words.now in
    let app_is : app_of c.in_ok-apf_command.field-0 ≡ apf_app = c.in_ok-apf_command.ensures.app in
    let failed = c.in_err-matches.ensures.kinds (ap is_simple_and_free app_is ∙ apf_is_free) in
    failed_up c.from_residual-in_err-matches.result c.in_err-matches.field-0.0 (λ _. words_fault words ≡ []) (words_fault words)
    c.from_residual-in_err-matches.ensures.1
    (first_kind (fault_of apf_app words) (name_fault (subcommand_of apf_app words)) c.in_err-matches.field-0.0
    (subst (λ (a : App). HasKind (fault_of a words) c.in_err-matches.field-0.0) app_is failed))

pub unwrap-requires : goal.unwrap-requires
unwrap-requires c =
    let words = texts c.args.words.now in
    let m = c.in_ok-matches.matches in
    let parse = parse_of _ words m c.in_ok-apf_command.ensures.app c.in_ok-matches.ensures.matches c.in_ok-matches.ensures.kinds in
    let entered = command_of words parse.faultless in
    c.subcommand.ensures.variant ∙ some_met (out-ArgMatches m).subcommand _ (parse.met ∙ entered.1.1)

pub unwrap-kind-requires : goal.unwrap-kind-requires
unwrap-kind-requires c =
    let words = texts c.args.words.now in
    let m = c.in_ok-matches.matches in
    let parse = parse_of _ words m c.in_ok-apf_command.ensures.app c.in_ok-matches.ensures.matches c.in_ok-matches.ensures.kinds in
    let name = rw c.unwrap.ensures at c.subcommand.ensures.name in
    let rows = rw c.unwrap.ensures at c.subcommand.ensures.rows in
    let met = sym parse.met ∙ command_met (out-ArgMatches m).subcommand _ _ name rows in
    let is = entered_as (subcommand_of apf_app words) _ _ (command_of words parse.faultless) met in
    ap is_some (kind_there _ _ c.kind_of_command.result is c.kind_of_command.ensures)

pub arguments_of-requires : goal.arguments_of-requires
arguments_of-requires c =
    let words = texts c.args.words.now in
    let m = c.in_ok-matches.matches in
    let parse = parse_of _ words m c.in_ok-apf_command.ensures.app c.in_ok-matches.ensures.matches c.in_ok-matches.ensures.kinds in
    let name = rw c.unwrap.ensures at c.subcommand.ensures.name in
    let rows = rw c.unwrap.ensures at c.subcommand.ensures.rows in
    let met = sym parse.met ∙ command_met (out-ArgMatches m).subcommand _ _ name rows in
    let is = entered_as (subcommand_of apf_app words) _ _ (command_of words parse.faultless) met in
    (kind_as _ _ c.kind_of_command.result c.unwrap-kind.result is c.kind_of_command.ensures c.unwrap-kind.ensures).1

pub returns-clause-read : goal.returns-clause-read
returns-clause-read c =
    let words = texts c.args.words.now in
    let m = c.in_ok-matches.matches in
    let parse = parse_of _ words m c.in_ok-apf_command.ensures.app c.in_ok-matches.ensures.matches c.in_ok-matches.ensures.kinds in
    let name = rw c.unwrap.ensures at c.subcommand.ensures.name in
    let rows = rw c.unwrap.ensures at c.subcommand.ensures.rows in
    let met = sym parse.met ∙ command_met (out-ArgMatches m).subcommand _ _ name rows in
    let is = entered_as (subcommand_of apf_app words) _ _ (command_of words parse.faultless) met in
    let kind = (kind_as _ _ c.kind_of_command.result c.unwrap-kind.result is c.kind_of_command.ensures c.unwrap-kind.ensures).0 in
    let action : Action = record { command = c.unwrap.result.0; arguments = c.in_ok-arguments.arguments } in
    let asks : AsksFor c.unwrap.result.0.now (rows_of (found_of c.unwrap.result.1.now)) action = record {
      named = refl;
      kind = kind ∙ ap (λ k. Some k) (sym c.in_ok-arguments.ensures.kind);
      arguments = c.in_ok-arguments.ensures.read;
    } in
    let AsksOf : Action → Type 0 = λ a. AsksFor c.unwrap.result.0.now (rows_of (found_of c.unwrap.result.1.now)) a in
    let IsNamed : Action → Type 0 = λ a. HasLevelName a.arguments in
    IfOk-weaker c.judged.result _ _
    (λ a h. (c.unwrap.result.0.now, (rows_of (found_of c.unwrap.result.1.now), met, subst AsksOf (sym h.0) asks, subst IsNamed (sym h.0) h.1)))
    c.judged.ensures.ok

pub returns-clause-ranges : goal.returns-clause-ranges
returns-clause-ranges c =
    let words = texts c.args.words.now in
    let m = c.in_ok-matches.matches in
    let parse = parse_of _ words m c.in_ok-apf_command.ensures.app c.in_ok-matches.ensures.matches c.in_ok-matches.ensures.kinds in
    let name = rw c.unwrap.ensures at c.subcommand.ensures.name in
    let rows = rw c.unwrap.ensures at c.subcommand.ensures.rows in
    let met = sym parse.met ∙ command_met (out-ArgMatches m).subcommand _ _ name rows in
    let is = entered_as (subcommand_of apf_app words) _ _ (command_of words parse.faultless) met in
    let kind = (kind_as _ _ c.kind_of_command.result c.unwrap-kind.result is c.kind_of_command.ensures c.unwrap-kind.ensures).0 in
    let action : Action = record { command = c.unwrap.result.0; arguments = c.in_ok-arguments.arguments } in
    let asks : AsksFor c.unwrap.result.0.now (rows_of (found_of c.unwrap.result.1.now)) action = record {
      named = refl;
      kind = kind ∙ ap (λ k. Some k) (sym c.in_ok-arguments.ensures.kind);
      arguments = c.in_ok-arguments.ensures.read;
    } in
    IfOk-weaker c.judged.result _ _
    (λ a h. subst IsInRange (sym h.0) (in_range c.unwrap.result.0.now (rows_of (found_of c.unwrap.result.1.now)) action asks h.1)) c.judged.ensures.ok

pub returns-clause-refused : goal.returns-clause-refused
returns-clause-refused c =
    let words = texts c.args.words.now in
    let m = c.in_ok-matches.matches in
    let parse = parse_of _ words m c.in_ok-apf_command.ensures.app c.in_ok-matches.ensures.matches c.in_ok-matches.ensures.kinds in
    let name = rw c.unwrap.ensures at c.subcommand.ensures.name in
    let rows = rw c.unwrap.ensures at c.subcommand.ensures.rows in
    let met = sym parse.met ∙ command_met (out-ArgMatches m).subcommand _ _ name rows in
    let is = entered_as (subcommand_of apf_app words) _ _ (command_of words parse.faultless) met in
    let kind = (kind_as _ _ c.kind_of_command.result c.unwrap-kind.result is c.kind_of_command.ensures c.unwrap-kind.ensures).0 in
    let action : Action = record { command = c.unwrap.result.0; arguments = c.in_ok-arguments.arguments } in
    let asks : AsksFor c.unwrap.result.0.now (rows_of (found_of c.unwrap.result.1.now)) action = record {
      named = refl;
      kind = kind ∙ ap (λ k. Some k) (sym c.in_ok-arguments.ensures.kind);
      arguments = c.in_ok-arguments.ensures.read;
    } in
    let n : Text = c.unwrap.result.0.now in
    let rs = rows_of (found_of c.unwrap.result.1.now) in
    let whole : words_fault words ≡ name_fault (Some (n, rs)) = then_kinds (fault_of apf_app words) (name_fault (subcommand_of apf_app words)) parse.faultless ∙ ap name_fault met in
    judged_fails (words_fault words) action c.judged.result
    (λ named. whole ∙ no_name_fault n rs action asks named) (λ named. whole ∙ has_name_fault n rs action asks named)
    c.judged.ensures.ok c.judged.ensures.err
