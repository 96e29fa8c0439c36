-- An object that is the whole text.
use Rattle.std.proofs.Common.{◌≡◌, ◌∷◌, [], Some, length, lit<, ap, subst, sym, ◌∙◌, arith, rules, option_map, option_and_then}
use Rattle.json.specs.Token.{Token}
use Rattle.json.specs.Lex.{tokens}
use Rattle.json.specs.Json.{if_last, members, value}
use Rattle.json.proofs.Grammar.{value-begin_object}
use Rattle.serde_json.specs.Data.{no_members}
use Rattle.serde_json.specs.Read.{converted, of_json, of_members}
use Rattle.serde_json.specs.View.{members_view}
use Rattle.serde_json.proofs.Views.{view-Object}
use Rattle.apf_traces.proofs.Members.{object_last}
use Rattle.apf_traces.proofs.flat.flat_object.Goals as goal

pub returns : goal.returns
returns c =
    let ts = c.next.new.self in
    let first : tokens c.args.text.now ≡ Token.begin_object ∷ ts = search rules in
    let last : c.flat_members.new.reader ≡ [] = search rules in
    let ms = members_view c.in_ok-members.members.entries in
    let read = subst (λ rest. converted (λ xs. of_members xs no_members) (members (value 126) (length ts) ts) ≡ Some (ms, rest)) last (c.in_ok-members.ensures 126) in
    ap (λ all. option_and_then of_json (option_and_then (λ p. if_last p.0 p.1) (value 127 all))) first
    ∙ ap (λ r. option_and_then of_json (option_and_then (λ p. if_last p.0 p.1) r)) (value-begin_object 127 ts (lit< tt))
    ∙ object_last (members (value 126) (length ts) ts) ms read
    ∙ ap Some (sym (view-Object c.in_ok-members.members))
