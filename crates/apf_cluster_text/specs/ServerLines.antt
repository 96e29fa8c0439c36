-- What a server's own log says of the requests of an audit log, as it is printed.
use Rattle.std.specs.Prelude.{ℕ, ◌+◌, ◌-◌, ◌^◌, min, List, [], ◌++◌, Option, unwrap_or, codes, decimal}
use Rattle.std.specs.List.{flat_map}
use Rattle.apf_flows.specs.Json.{json_text}
use Rattle.apf_objects.specs.declared.schema.Schema.{Schema}
use Rattle.apf_joined_reader.specs.Counts.{name_in}
use Rattle.apf_joined_reader.specs.declared.counts.Counts.{Counts}
use Rattle.apf_joined_reader.specs.declared.counts.Differs.{Differs}
use Rattle.apf_cluster_text.specs.Said.{said_text}

-- of how many requests of all the seats are known
unfoldable pub seats_text : ℕ → ℕ → List ℕ
seats_text joined requests =
    codes "\nin the server's log: how many seats " ++ (decimal joined ++ (codes " of " ++ (decimal requests ++ codes " requests take (here the others take one)\n")))

-- of how many the run is known
unfoldable pub runs_text : ℕ → List ℕ
runs_text timed = codes "in the server's log: how long " ++ (decimal timed ++ codes " requests ran there (here the others run as long as in the audit log)\n")

-- of how many the schema is known, and no more than can be counted
abbrev pub named_of : ℕ → ℕ → ℕ
named_of agreed differ = min (agreed + differ) (2 ^ 64 - 1)

-- of how many the schema is known, and of how many it is the same, or another
unfoldable pub named_text : ℕ → List ℕ
named_text named = codes "in the server's log: the schema of " ++ (decimal named ++ codes " requests")

unfoldable pub compared_text : ℕ → ℕ → List ℕ
compared_text agreed differ = codes " (here " ++ (decimal agreed ++ (codes " have the same one, and " ++ (decimal differ ++ codes " another)\n")))

unfoldable pub schemas_text : ℕ → ℕ → List ℕ
schemas_text agreed differ = named_text (named_of agreed differ) ++ compared_text agreed differ

-- the name of the schema at this place, or the empty text where there is none
abbrev pub name_at : List Schema → Option ℕ → List ℕ
name_at schemas place = unwrap_or (name_in schemas place) []

-- a request whose schema is another one
unfoldable pub differs_head : ℕ → List ℕ
differs_head line = codes "line " ++ (decimal line ++ codes " of the audit log: the schema is ")

-- the name here, and the one there
unfoldable pub here_text : List ℕ → List ℕ
here_text ours = json_text ours ++ codes " here, and "

unfoldable pub there_text : List ℕ → List ℕ
there_text said = said_text said ++ codes " in the server's log\n"

abbrev pub both_names : List ℕ → List ℕ → List ℕ
both_names ours said = here_text ours ++ there_text said

unfoldable pub differs_text : List Schema → Differs → List ℕ
differs_text schemas d = differs_head d.line ++ both_names (name_at schemas d.schema) d.said.items

-- each of these, on a line of its own
unfoldable pub server_text : List Schema → Counts → List ℕ
server_text schemas c =
    seats_text c.joined c.requests ++ (runs_text c.timed ++ (schemas_text c.agreed c.differ ++ flat_map (differs_text schemas) c.first.items))

-- the same for programs, without the requests whose schema is another one
unfoldable pub server_object : Counts → List ℕ
server_object c =
    codes "{\"serverLog\":{\"requests\":" ++ (decimal c.requests ++ (codes ",\"joined\":" ++ (decimal c.joined ++ (codes ",\"timed\":"
    ++ (decimal c.timed ++ (codes ",\"agreed\":" ++ (decimal c.agreed ++ (codes ",\"differ\":" ++ (decimal c.differ ++ codes "}}\n")))))))))
