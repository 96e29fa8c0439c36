-- A text, or a whole number.
use Rattle.std.proofs.Common.{◌≡◌, ◌∷◌, Some, refl, ap, sym, ◌∙◌, arith, rules}
use Rattle.json.specs.Token.{Token}
use Rattle.json.specs.Json.{value}
use Rattle.json.specs.Reads.{token_of}
use Rattle.json.proofs.Grammar.{value_is}
use Rattle.serde_json.specs.Data.{number, string, unsigned}
use Rattle.serde_json.specs.Read.{converted, of_json}
use Rattle.serde_json.specs.View.{view}
use Rattle.serde_json.specs.declared.value.Value.{String, the_lemmas}
use Rattle.apf_traces.proofs.flat.flat_value.Goals as goal

pub returns-in_ok-from_str-in-String-clause-value : goal.returns-in_ok-from_str-in-String-clause-value
returns-in_ok-from_str-in-String-clause-value c = λ depth.
    let first : c.args.reader.now ≡ token_of c.in_ok-token.token ∷ c.next.new.self = grind arith in
    let is : c.args.reader.now ≡ Token.string c.in-String.text.now ∷ c.next.new.self = grind (arith, first) in
    let seen : view (String c.in_ok-from_str-in-String.field-0) ≡ string c.in-String.text.now = search (rules, the_lemmas) in
    ap (converted of_json) (ap (value depth) is ∙ value_is depth (Token.string c.in-String.text.now ∷ c.next.new.self)) ∙ ap (λ d. Some (d, c.next.new.self)) (sym seen)

pub returns-in-Some-clause-value : goal.returns-in-Some-clause-value
returns-in-Some-clause-value c = λ depth.
    let first : c.args.reader.now ≡ token_of c.in_ok-token.token ∷ c.next.new.self = grind arith in
    let is : c.args.reader.now ≡ Token.number c.in-Number.text.now ∷ c.next.new.self = grind (arith, first) in
    let seen : view c.from.result ≡ number (unsigned c.in-Some.number) = search (c.from.ensures, rules) in
    ap (converted of_json) (ap (value depth) is ∙ value_is depth (Token.number c.in-Number.text.now ∷ c.next.new.self)) ∙ rw (c.in-Some.ensures, seen) refl
