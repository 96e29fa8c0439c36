-- What a chain of `clap`'s builders makes.
use Rattle.std.proofs.Common.{◌≡◌, ◌∙◌, ◌||◌, false, true, Option, Some, ap, ap₂, refl, Bor}
use Rattle.clap.specs.declared.builder.texts.Texts.TheVariants.{One}
use Rattle.clap.specs.declared.builder.value_parser.ValueParser.{ValueParser}
use Rattle.clap.specs.Built.{AddsArg}
use Rattle.apf_commands.specs.Commands.{IsMade, command_shape, rules_of, with_rules}
use Rattle.apf_commands.specs.declared.entries.Kind.{Kind}
use Rattle.apf_commands.specs.declared.entries.Kind.TheVariants.{Flow, Deck, Script, Workers, Level, Simulation, Bounded, Comparison, Trace, Picture, Flows, AuditLog, Objects, Match, Cluster}
use Rattle.clap.specs.Simple.{App, app_of, app_of_fields, new_app, on_top, with_rule}
use Rattle.clap.specs.Walk.{Rule, Text, rule_of}
use Rattle.clap.specs.declared.builder.action.ArgAction.TheVariants.{Append, SetTrue}
use Rattle.clap.specs.declared.builder.arg.Arg.{Arg}
use Rattle.clap.specs.declared.builder.command.Command.{Command}
use Rattle.clap.specs.declared.builder.command.Command.TheOpen.{Command-F}
use Rattle.clap.specs.declared.builder.command.Command.TheViews.{out-Command}

-- a setting, which changes the fields by f, and what a parse reads of them by g
pub set_as : {old new : Command} {app : App} (f : Command-F Command → Command-F Command) (g : App → App)
    → ((c : Command-F Command) → app_of_fields (f c) ≡ g (app_of_fields c)) → ((c : Command-F Command) → (f c).has_globals ≡ c.has_globals)
    → IsMade old app → out-Command new ≡ f (out-Command old) → IsMade new (g app)
set_as {old} f g reads keeps made same = record {
  app_is = ap app_of_fields same ∙ (reads (out-Command old) ∙ ap g made.app_is);
  local = ap (λ c. c.has_globals) same ∙ (keeps (out-Command old) ∙ made.local);
}

-- a setting that no parse reads, as a text of help
pub described : {old new : Command} {app : App} (f : Command-F Command → Command-F Command)
    → ((c : Command-F Command) → app_of_fields (f c) ≡ app_of_fields c) → ((c : Command-F Command) → (f c).has_globals ≡ c.has_globals)
    → IsMade old app → out-Command new ≡ f (out-Command old) → IsMade new app
described f = set_as f (λ app. app)

-- the text at the top of help, and the one at its end
pub with_texts : (new about : Command) {after : Command} {app : App} {top end : Bor Text} → app_of new ≡ app → (out-Command new).has_globals ≡ false
    → out-Command about ≡ record (out-Command new) { about = Some top } → out-Command after ≡ record (out-Command about) { after_help = Some end }
    → IsMade after app
with_texts new about {top = top} {end = end} app_is local is_about is_after =
    described (λ c. record c { after_help = Some end }) (λ c. refl) (λ c. refl)
    (described (λ c. record c { about = Some top }) (λ c. refl) (λ c. refl) (record { app_is = app_is; local = local }) is_about) is_after

-- a version
pub versioned : {old new : Command} {app : App} {text : Bor Text} → IsMade old app
    → out-Command new ≡ record (out-Command old) { version = Some text } → IsMade new (on_top (λ s. record s { has_version = true }) app)
versioned {text = text} = set_as (λ c. record c { version = Some text }) (on_top (λ s. record s { has_version = true })) (λ c. refl) (λ c. refl)

-- the command asks for a subcommand
pub asking : {old new : Command} {app : App} → IsMade old app
    → out-Command new ≡ record (out-Command old) { subcommand_required = true } → IsMade new (on_top (λ s. record s { subcommand_required = true }) app)
asking = set_as (λ c. record c { subcommand_required = true }) (on_top (λ s. record s { subcommand_required = true })) (λ c. refl) (λ c. refl)

-- one more argument
pub added : {old new : Command} {a : Arg} {app : App} {rule : Rule} → IsMade old app → rule_of a ≡ rule → a.global ≡ false
    → AddsArg old a new → IsMade new (with_rule app rule)
added made rule local adds = record {
  app_is = adds.shape local ∙ ap₂ with_rule made.app_is rule;
  local = adds.globals ∙ ap₂ (λ x y. x || y) made.local local;
}

-- a text that must be given, with its line of help
pub text_made : (new required helped : Arg) {rule : Rule} {line : Bor Text} → rule_of new ≡ rule → new.global ≡ false
    → required ≡ record new { required = true } → helped ≡ record required { help = Some line }
    → (rule_of helped ≡ record rule { required = true }) × (helped.global ≡ false)
text_made new required helped rule_is local asks helps = (
  ap rule_of helps ∙ (ap rule_of asks ∙ ap (λ (r : Rule). record r { required = true }) rule_is),
  ap (λ a. a.global) helps ∙ (ap (λ a. a.global) asks ∙ local),
)

-- an option with a text, what help calls its value, and its line of help
pub option_made : (new long named helped : Arg) {rule : Rule} {name value line : Bor Text} → rule_of new ≡ rule → new.global ≡ false
    → long ≡ record new { long = Some name } → named ≡ record long { val_names = One value } → helped ≡ record named { help = Some line }
    → (rule_of helped ≡ record rule { long = Some name.now; value_names = 1 }) × (helped.global ≡ false)
option_made new long named helped {name = name} rule_is local longs names helps = (
  ap rule_of helps
      ∙ (ap rule_of names
      ∙ (ap (λ (a : Arg). record (rule_of a) { value_names = 1 }) longs ∙ ap (λ (r : Rule). record r { long = Some name.now; value_names = 1 }) rule_is)),
  ap (λ a. a.global) helps ∙ (ap (λ a. a.global) names ∙ (ap (λ a. a.global) longs ∙ local)),
)

-- an argument that may be given again
pub repeated_made : (old new : Arg) {rule : Rule} → rule_of old ≡ rule → old.global ≡ false → new ≡ record old { action = Some Append }
    → (rule_of new ≡ record rule { action = Some Append }) × (new.global ≡ false)
repeated_made old new rule_is local repeats = (
  ap rule_of repeats ∙ ap (λ (r : Rule). record r { action = Some Append }) rule_is,
  ap (λ a. a.global) repeats ∙ local,
)

-- an option with no value, and its line of help
pub flag_made : (new long set helped : Arg) {rule : Rule} {name line : Bor Text} → rule_of new ≡ rule → new.global ≡ false
    → long ≡ record new { long = Some name } → set ≡ record long { action = Some SetTrue } → helped ≡ record set { help = Some line }
    → (rule_of helped ≡ record rule { long = Some name.now; action = Some SetTrue }) × (helped.global ≡ false)
flag_made new long set helped {name = name} rule_is local longs sets helps = (
  ap rule_of helps
      ∙ (ap rule_of sets
      ∙ (ap (λ (a : Arg). record (rule_of a) { action = Some SetTrue }) longs ∙ ap (λ (r : Rule). record r { long = Some name.now; action = Some SetTrue }) rule_is)),
  ap (λ a. a.global) helps ∙ (ap (λ a. a.global) sets ∙ (ap (λ a. a.global) longs ∙ local)),
)

-- the same with a parser
pub number_made : (text number : Arg) {rule : Rule} (parser : ValueParser) → rule_of text ≡ rule → text.global ≡ false
    → number ≡ record text { value_parser = number.value_parser } → number.value_parser ≡ Some parser
    → (rule_of number ≡ record rule { parser = Some parser }) × (number.global ≡ false)
number_made text number parser rule_is local others given = (
  ap rule_of others ∙ ap₂ (λ (r : Rule) (p : Option ValueParser). record r { parser = p }) rule_is given,
  ap (λ a. a.global) others ∙ local,
)

-- a new command with the arguments of a kind
pub shaped : (name : Text) (kind : Kind) → (with_rules (rules_of kind) (new_app name)).top ≡ command_shape name (rules_of kind)
shaped name Flow = refl
shaped name Deck = refl
shaped name Script = refl
shaped name Workers = refl
shaped name Level = refl
shaped name Simulation = refl
shaped name Bounded = refl
shaped name Comparison = refl
shaped name Trace = refl
shaped name Picture = refl
shaped name Flows = refl
shaped name AuditLog = refl
shaped name Objects = refl
shaped name Match = refl
shaped name Cluster = refl
