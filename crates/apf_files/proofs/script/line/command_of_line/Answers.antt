use Rattle.std.proofs.Common.{rules, ◌≡◌, ℕ, List, None, false, codes, refl}
use Rattle.std.specs.Prelude.{nat_eq, bytes_eq}
use Rattle.std.specs.List.{starts_with}
use Rattle.apf_files.specs.ScriptFile.{command_of}
use Rattle.apf_files.proofs.script.line.command_of_line.Goals as goal

-- a line of no form writes no command
no_form : (line : List ℕ) → starts_with nat_eq line (codes "arrive ") ≡ false → starts_with nat_eq line (codes "finish ") ≡ false
    → starts_with nat_eq line (codes "cancel ") ≡ false → starts_with nat_eq line (codes "limit ") ≡ false
    → bytes_eq line (codes "close") ≡ false → None ≡ command_of line
unfolding command_of
no_form line arrive finish cancel limit close = rw (arrive, finish, cancel, limit, close) refl

pub returns : goal.returns
returns c =
    let arrive : starts_with nat_eq c.args.line.now (codes "arrive ") ≡ false = search rules in
    let finish : starts_with nat_eq c.args.line.now (codes "finish ") ≡ false = search rules in
    let cancel : starts_with nat_eq c.args.line.now (codes "cancel ") ≡ false = search rules in
    let limit : starts_with nat_eq c.args.line.now (codes "limit ") ≡ false = search rules in
    let close : bytes_eq c.args.line.now (codes "close") ≡ false = search rules in
    no_form c.args.line.now arrive finish cancel limit close
