-- What logs do not say of their requests, as it is printed.
use Rattle.std.specs.Prelude.{ℕ, nat_eq, List, [], ◌++◌, Option, Some, None, codes, decimal, if◌then◌else◌}
use Rattle.apf_objects.specs.declared.schema.Schema.{Schema}
use Rattle.apf_joined_reader.specs.declared.counts.Counts.{Counts}
use Rattle.apf_cluster_text.specs.ServerLines.{server_text}

-- how long those would run that were turned away, if there are any
abbrev pub away_text : ℕ → List ℕ
away_text turned_away =
    if nat_eq turned_away 0 then [] else codes "not in the log: how long " ++ (decimal turned_away ++ codes " requests that were turned away would run (here the median of those of their distinguisher)\n")

unfoldable pub no_seats : List ℕ
no_seats = codes "\nnot in the log: how many seats a request takes (here one)\n"

unfoldable pub other_work : List ℕ
other_work = codes "not in the log: how long a request runs where the server does other work (here as long as in the log)\n"

unfoldable pub clients_and_policy : List ℕ
clients_and_policy = codes "not in the log: which clients would try again (here those whose second requests are in the log)\nnot in the log: requests that the audit policy leaves out\n"

-- what is known of each request: of the server's own log, if it is read, what that says
abbrev pub known_text : List Schema → Option Counts → List ℕ
known_text schemas (Some counts) = server_text schemas counts
known_text schemas None = no_seats

-- each thing that is not in the log, on a line of its own
unfoldable pub unsaid_text : List Schema → Option Counts → ℕ → List ℕ
unsaid_text schemas counts turned_away = known_text schemas counts ++ (other_work ++ (away_text turned_away ++ clients_and_policy))
