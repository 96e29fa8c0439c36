-- What an object is, by its keys, where it stands in a file of another kind.
use Rattle.std.specs.Prelude.{ℕ, List, Bool, ◌||◌, ◌&&◌, length, nat_le, if◌then◌else◌, Option, Some, None, is_some, option_and_then, codes}
use Rattle.serde_json.specs.Data.{Data}
use Rattle.serde_json.specs.Find.{get}
use Rattle.apf_files.specs.JsonFile.{value_of}

-- the value is an object that has this key
abbrev pub has_key : List ℕ → Option Data → Bool
has_key key o = is_some (option_and_then (get key) o)

-- the value is an event of an audit log
abbrev pub is_event : Option Data → Bool
is_event o = has_key (codes "stage") o && has_key (codes "verb") o

-- the value has a key of the objects that kubectl prints, which events have too
abbrev pub is_printed : Option Data → Bool
is_printed o = has_key (codes "apiVersion") o || has_key (codes "kind") o

-- what is said of a file in the place of a trace, which is this value and no larger than a config
abbrev pub value_said : Bool → Option Data → Option (List ℕ)
value_said is_small o =
    if is_event o then Some (codes ": this is an event of an audit log: a trace has one object on each line")
    else (if is_printed o then Some (codes ": this is an object as kubectl prints it: a trace has one object on each line")
    else (if is_small && has_key (codes "limit") o then Some (codes ": this is a config: a trace has one object on each line")
    else None))

-- the same of these bytes, where the objects of a cluster may have as many
abbrev pub whole_said : List ℕ → Option (List ℕ)
whole_said bytes = if nat_le (length bytes) 8388608 then value_said (nat_le (length bytes) 65536) (value_of bytes) else None

-- what stands in the place of the objects of a cluster, in words
abbrev pub other_kind : Option Data → Option (List ℕ)
other_kind o =
    if is_event o then Some (codes "an event of an audit log")
    else (if has_key (codes "arrivesAt") o then Some (codes "a request of a trace")
    else (if has_key (codes "limit") o then Some (codes "a config") else None))
