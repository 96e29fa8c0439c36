-- The definitions at words that are written out.
use Rattle.std.proofs.Common.{◌≡◌, List, [], ◌∷◌, Option, Some, None, codes, option_map, refl}
use Rattle.clap.specs.Words.{Text, fault_of, first_of, one_of, subcommand_of}
use Rattle.clap.specs.Kinds.{Kinds}
use Rattle.clap.specs.declared.error.kind.ErrorKind.TheVariants as kind
use Rattle.clap.proofs.OnLiterals.{clap_on_literals}
use Rattle.apf_commands.specs.Commands.{apf_app, shape_for}

-- the kinds of error of the words after the program's name
abbrev fault : List Text → Kinds
fault words = fault_of apf_app (codes "apf" ∷ words)

-- the name of the command, and the text of an argument
abbrev text : List Text → Text → Option (Text × Option Text)
text words id = option_map (λ p. (p.0, first_of id p.1)) (subcommand_of apf_app (codes "apf" ∷ words))

-- the name of the command, and the text that an argument's number is read of
abbrev number : List Text → Text → Option (Text × Option Text)
number words id = option_map (λ p. (p.0, one_of id p.1)) (subcommand_of apf_app (codes "apf" ∷ words))

record HasFaults : Type 0 where
  nothing : fault [] ≡ kind.MissingSubcommand ∷ []
  short : fault (codes "hash" ∷ codes "a" ∷ []) ≡ kind.MissingRequiredArgument ∷ []
  letter : fault (codes "deal" ∷ codes "a" ∷ codes "1" ∷ codes "1" ∷ []) ≡ kind.ValueValidation ∷ []
  deck : fault (codes "deal" ∷ codes "4294967296" ∷ codes "1" ∷ codes "0" ∷ []) ≡ kind.ValueValidation ∷ []
  hash : fault (codes "deal" ∷ codes "1" ∷ codes "1" ∷ codes "18446744073709551616" ∷ []) ≡ kind.ValueValidation ∷ []
  no_worker : fault (codes "run" ∷ codes "a" ∷ codes "b" ∷ codes "0" ∷ []) ≡ kind.ValueValidation ∷ []
  many_workers : fault (codes "run" ∷ codes "a" ∷ codes "b" ∷ codes "65" ∷ []) ≡ kind.ValueValidation ∷ []
  no_patience : fault (codes "simulate" ∷ codes "a" ∷ codes "b" ∷ []) ≡ kind.MissingRequiredArgument ∷ []
  no_other : fault (codes "compare" ∷ codes "a" ∷ codes "b" ∷ codes "c" ∷ []) ≡ kind.MissingRequiredArgument ∷ []
  no_trace : fault (codes "requests" ∷ []) ≡ kind.MissingRequiredArgument ∷ []
  hands_patience : fault (codes "hands" ∷ codes "a" ∷ codes "b" ∷ codes "0" ∷ []) ≡ kind.UnknownArgument ∷ []
  no_instant : fault (codes "trace" ∷ codes "a" ∷ codes "b" ∷ codes "--since" ∷ []) ≡ kind.InvalidValue ∷ []
  two_users : fault (codes "trace" ∷ codes "a" ∷ codes "b" ∷ codes "--user=c" ∷ codes "--user=d" ∷ []) ≡ kind.ArgumentConflict ∷ []
  other_option : fault (codes "hands" ∷ codes "a" ∷ codes "b" ∷ codes "--user" ∷ codes "c" ∷ []) ≡ kind.UnknownArgument ∷ []
  bound_with_value : fault (codes "simulate" ∷ codes "a" ∷ codes "b" ∷ codes "c" ∷ codes "--bound=true" ∷ []) ≡ kind.TooManyValues ∷ []
  bound_twice : fault (codes "simulate" ∷ codes "--bound" ∷ codes "a" ∷ codes "b" ∷ codes "c" ∷ codes "--bound" ∷ []) ≡ kind.ArgumentConflict ∷ []
  bound_as_charge : fault (codes "simulate" ∷ codes "a" ∷ codes "b" ∷ codes "c" ∷ codes "--charge" ∷ codes "--bound" ∷ []) ≡ kind.InvalidValue ∷ []
  fates_bound : fault (codes "fates" ∷ codes "a" ∷ codes "b" ∷ codes "c" ∷ codes "--bound" ∷ []) ≡ kind.UnknownArgument ∷ []
  help : fault (codes "--help" ∷ []) ≡ kind.DisplayHelp ∷ []
  deal_help : fault (codes "deal" ∷ codes "--help" ∷ []) ≡ kind.DisplayHelp ∷ []

refused_rows : HasFaults
unfolding clap_on_literals apf_app shape_for
refused_rows = record {
  nothing = refl;
  short = refl;
  letter = refl;
  deck = refl;
  hash = refl;
  no_worker = refl;
  many_workers = refl;
  no_patience = refl;
  no_other = refl;
  no_trace = refl;
  hands_patience = refl;
  no_instant = refl;
  two_users = refl;
  other_option = refl;
  bound_with_value = refl;
  bound_twice = refl;
  bound_as_charge = refl;
  fates_bound = refl;
  help = refl;
  deal_help = refl;
}

record IsAccepted : Type 0 where
  empty : fault (codes "hash" ∷ [] ∷ [] ∷ []) ≡ []
  dashes : text (codes "hash" ∷ codes "--" ∷ codes "-a" ∷ codes "b" ∷ []) (codes "SCHEMA") ≡ Some (codes "hash", Some (codes "-a"))
  deck : fault (codes "deal" ∷ codes "4294967295" ∷ codes "0" ∷ codes "18446744073709551615" ∷ []) ≡ []
  hand : number (codes "deal" ∷ codes "8" ∷ codes "3" ∷ codes "335" ∷ []) (codes "HAND") ≡ Some (codes "deal", Some (codes "3"))
  least : fault (codes "run" ∷ codes "a" ∷ codes "b" ∷ codes "1" ∷ []) ≡ []
  most : fault (codes "run" ∷ codes "a" ∷ codes "b" ∷ codes "64" ∷ []) ≡ []
  script : text (codes "services" ∷ codes "a" ∷ codes "b" ∷ codes "c" ∷ []) (codes "SCRIPT") ≡ Some (codes "services", Some (codes "c"))
  patience : text (codes "simulate" ∷ codes "a" ∷ codes "b" ∷ codes "15s" ∷ []) (codes "PATIENCE") ≡ Some (codes "simulate", Some (codes "15s"))
  fates : text (codes "fates" ∷ codes "a" ∷ codes "b" ∷ codes "0" ∷ []) (codes "TRACE") ≡ Some (codes "fates", Some (codes "b"))
  other : text (codes "compare" ∷ codes "a" ∷ codes "b" ∷ codes "c" ∷ codes "0" ∷ []) (codes "OTHER") ≡ Some (codes "compare", Some (codes "b"))
  trace : text (codes "requests" ∷ codes "a" ∷ []) (codes "TRACE") ≡ Some (codes "requests", Some (codes "a"))
  no_flow : text (codes "hands" ∷ codes "a" ∷ codes "b" ∷ []) (codes "flow") ≡ Some (codes "hands", None)
  flow : text (codes "hands" ∷ codes "--flow" ∷ codes "c" ∷ codes "a" ∷ codes "b" ∷ []) (codes "flow") ≡ Some (codes "hands", Some (codes "c"))
  user : text (codes "trace" ∷ codes "a" ∷ codes "b" ∷ codes "--user=c*" ∷ []) (codes "user") ≡ Some (codes "trace", Some (codes "c*"))
  all_options : text (codes "trace" ∷ codes "a" ∷ codes "b" ∷ codes "--by" ∷ codes "user" ∷ codes "--user" ∷ codes "" ∷ codes "--since" ∷ codes "c" ∷ codes "--until" ∷ codes "d" ∷ [])
      (codes "until") ≡ Some (codes "trace", Some (codes "d"))
  bound : number (codes "simulate" ∷ codes "a" ∷ codes "b" ∷ codes "c" ∷ codes "--bound" ∷ []) (codes "bound") ≡ Some (codes "simulate", Some (codes "true"))
  bound_first : number (codes "simulate" ∷ codes "--bound" ∷ codes "a" ∷ codes "b" ∷ codes "c" ∷ []) (codes "bound") ≡ Some (codes "simulate", Some (codes "true"))
  no_bound : number (codes "simulate" ∷ codes "a" ∷ codes "b" ∷ codes "c" ∷ []) (codes "bound") ≡ Some (codes "simulate", Some (codes "false"))
  bound_behind_dashes : number (codes "simulate" ∷ codes "a" ∷ codes "b" ∷ codes "--" ∷ codes "--bound" ∷ []) (codes "bound") ≡ Some (codes "simulate", Some (codes "false"))
  hands_trace : text (codes "hands" ∷ codes "a" ∷ codes "b" ∷ []) (codes "TRACE") ≡ Some (codes "hands", Some (codes "b"))

accepted_rows : IsAccepted
unfolding clap_on_literals apf_app shape_for
accepted_rows = record {
  empty = refl;
  dashes = refl;
  deck = refl;
  hand = refl;
  least = refl;
  most = refl;
  script = refl;
  patience = refl;
  fates = refl;
  other = refl;
  trace = refl;
  no_flow = refl;
  flow = refl;
  user = refl;
  all_options = refl;
  bound = refl;
  bound_first = refl;
  no_bound = refl;
  bound_behind_dashes = refl;
  hands_trace = refl;
}
