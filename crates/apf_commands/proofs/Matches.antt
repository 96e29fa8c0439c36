-- What the getters of `clap`'s matches answer, by the rows, and which command they name.
use Rattle.std.proofs.Common.{◌≡◌, ℕ, List, [], Option, Some, None, Result, Ok, Err, Box, refl, sym, ap, subst, true, is_some, option_map, unwrap_or, ◌∙◌}
use Rattle.std.specs.Borrow.{Bor}
use Rattle.std.specs.Prelude.{IsSome}
use Rattle.std.specs.Str.Parse.{ParsesUnsigned}
use Rattle.std.specs.Box.{box_value}
use Rattle.clap.specs.Words.{App, HasMatchesOf, ReadsOne, Row, Text, fault_of, is_simple, is_simple_and_free, subcommand_of, subcommand_rows, subcommand_rows_of}
use Rattle.clap.specs.declared.parser.matches.ArgMatches.{ArgMatches}
use Rattle.apf_commands.specs.Commands.{apf_app, kind_named}
use Rattle.clap.specs.declared.parser.matches.ArgMatches.TheViews.{out-SubCommand}
use Rattle.clap.specs.declared.parser.matches.SubCommand.{SubCommand}
use Rattle.apf_commands.specs.Arguments.{HasArguments, IsCommand}
use Rattle.apf_commands.specs.Meaning.{IsNumber}
use Rattle.apf_commands.specs.declared.entries.Kind.{Kind}
use Rattle.apf_commands.proofs.Accepted.{Entered, apf_is_free, apf_is_simple}

pub text_there : (r : Option (Bor Text)) (t : Text) → option_map (λ s. s.now) r ≡ Some t → IsSome r
text_there None t e = cc
text_there (Some b) t e = refl

-- the text of an option, or another one where it is not given
pub text_as : (given : Option (Bor Text)) (otherwise : Bor Text) → unwrap_or (option_map (λ t. t.now) given) otherwise.now ≡ (unwrap_or given otherwise).now
text_as None otherwise = refl
text_as (Some t) otherwise = refl

-- an argument has one number
pub same_number : (k : ℕ) (rows : List Row) (id : Text) (m n : ℕ) → IsNumber k rows id m → IsNumber k rows id n → m ≡ n
same_number k rows id m n first second =
    let same : second.0 ≡ first.0 = ap (λ o. unwrap_or o second.0) (sym second.1 ∙ first.1) in
    let read : ParsesUnsigned {E = Unit {0}} k 10 first.0 (Ok n) = subst (λ (t : Text). ParsesUnsigned {E = Unit {0}} k 10 t (Ok n)) same second.2 in
    first.2.1 ∙ sym read.1

-- a text that is a number is read, as that number
module _ {E : Type 0} (gives : Text → Result ℕ E → Type 0) (k : ℕ) (t : Text)
    (only : (x : Result ℕ E) → gives t x → ParsesUnsigned k 10 t x) where
  pub number_there : (n : ℕ) (r : Option ℕ) → ParsesUnsigned {E = Unit {0}} k 10 t (Ok n) → ReadsOne gives t r → IsSome r
  number_there n (Some v) parses h = refl
  number_there n None parses h = absurd (only (Err h.0) h.1 parses.0)

  pub number_read : (v : ℕ) (r : Option ℕ) → r ≡ Some v → ReadsOne gives t r → ParsesUnsigned {E = Unit {0}} k 10 t (Ok v)
  number_read v r is h = only (Ok v) (subst (ReadsOne gives t) is h)

  -- and so is that of an option, of which another number stands where it is not given
  pub option_read : (n v otherwise : ℕ) (r : Option ℕ) → ParsesUnsigned {E = Unit {0}} k 10 t (Ok n) → ReadsOne gives t r → v ≡ unwrap_or r otherwise → v ≡ n
  option_read n v otherwise (Some x) parses h is = is ∙ (only (Ok x) h).1 ∙ sym parses.1
  option_read n v otherwise None parses h is = absurd (only (Err h.0) h.1 parses.0)

module _ {Z : Type 0} where
  -- the name and the rows are those of one command
  pub command_met : (o : Option (Box SubCommand Z)) (name : Text) (rows : List Row)
      → Some name ≡ option_map (λ b. (out-SubCommand (box_value b)).name.now) o
      → Some rows ≡ option_map (λ p. p.1) (subcommand_rows o) → subcommand_rows o ≡ Some (name, rows)
  command_met None name rows e f = cc
  command_met (Some b) name rows e f = cc

  pub some_met : (o : Option (Box SubCommand Z)) (p : Text × List Row) → subcommand_rows o ≡ Some p → is_some o ≡ true
  some_met None p e = cc
  some_met (Some b) p e = refl

-- the command that was entered is the one that the matches name
pub entered_as : (o : Option (Text × List Row)) (name : Text) (rows : List Row) → Entered o → o ≡ Some (name, rows) → IsCommand name rows
entered_as o name rows entered is =
    let same : ◌≡◌ {A = Text × List Row} (entered.0, entered.1.0) (name, rows) = ap (λ p. unwrap_or p (name, rows)) (sym entered.1.1 ∙ is) in
    subst (λ (p : Text × List Row). IsCommand p.0 p.1) same entered.1.2

-- the matches of a parse of the program's commands that succeeds
pub record IsParse (words : List Text) (m : ArgMatches) : Type 0 where
  pub faultless : fault_of apf_app words ≡ []
  pub met : subcommand_rows_of m ≡ subcommand_of apf_app words

pub parse_of : (a : App) (words : List Text) (m : ArgMatches) → a ≡ apf_app → HasMatchesOf a words m
    → (is_simple_and_free a ≡ true → fault_of a words ≡ []) → IsParse words m
parse_of a words m is has faultless = record {
  faultless = subst (λ (x : App). fault_of x words ≡ []) is (faultless (ap is_simple_and_free is ∙ apf_is_free));
  met = (has (ap is_simple is ∙ apf_is_simple)).1 ∙ ap (λ x. subcommand_of x words) is;
}

-- the kind that was found by the name of a command
pub kind_there : (name : Text) (rows : List Row) (found : Option Kind) (is : IsCommand name rows) → found ≡ kind_named name → found ≡ Some is.kind
kind_there name rows found is e = e ∙ is.named

pub kind_as : (name : Text) (rows : List Row) (found : Option Kind) (kind : Kind) → IsCommand name rows → found ≡ kind_named name → found ≡ Some kind
    → (kind_named name ≡ Some kind) × HasArguments kind rows
kind_as name rows found kind is e some =
    let same : is.kind ≡ kind = ap (λ o. unwrap_or o kind) (sym (kind_there name rows found is e) ∙ some) in
    (sym e ∙ some, subst (λ (k : Kind). HasArguments k rows) same is.arguments)
