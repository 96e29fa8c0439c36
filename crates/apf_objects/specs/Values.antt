-- What stands at a key of an object. Of a value that is not there nothing is.
use Rattle.std.specs.Prelude.{ℕ, ◌+◌, List, [], Bool, false, Option, Some, None, option_map, option_and_then, is_some, if◌then◌else◌, Result, Ok, Err}
use Rattle.std.specs.Borrow.{Bor}
use Rattle.serde_json.specs.Data.{Data, Items, no_items, item}
use Rattle.serde_json.specs.Find.{get, as_str, as_bool, as_array, as_object}
use Rattle.serde_json.specs.View.{view}
use Rattle.serde_json.specs.declared.value.Value.{Value}
use Rattle.apf_files.specs.FirstFault.{◌>>=◌, or_fault, before}
use Rattle.apf_files.specs.JsonFile.{whole_in}
use Rattle.apf_objects.specs.Keys.{word_of}
use Rattle.apf_objects.specs.declared.fault.Place.{Place}
use Rattle.apf_objects.specs.declared.fault.ObjectFault.{ObjectFault}
use Rattle.apf_objects.specs.declared.fault.ObjectFault.TheVariants.{Missing, BadValue}
use Rattle.apf_objects.specs.declared.key.ObjectKey.{ObjectKey}

-- the value that the code holds, if it holds one
abbrev pub seen : Option (Bor Value) → Option Data
seen value = option_map (λ v. view v.now) value

-- what stands at a key, if anything does
unfoldable pub at : ObjectKey → Option Data → Option Data
at key d = option_and_then (get (word_of key)) d

-- the object that stands there, if anything does
abbrev pub part_by : Place → ObjectKey → Option Data → Result (Option Data) ObjectFault
part_by place key None = Ok None
part_by place key (Some d) = if is_some (as_object d) then Ok (Some d) else Err (BadValue place key)

-- the object at a key, and none where the key is absent
unfoldable pub part_at : Place → ObjectKey → Option Data → Result (Option Data) ObjectFault
part_at place key d = part_by place key (at key d)

-- the text that a value is
abbrev pub text_of : Place → ObjectKey → Data → Result (List ℕ) ObjectFault
text_of place key d = or_fault (BadValue place key) (as_str d)

-- the text at a key, which must be there
abbrev pub text_by : Place → ObjectKey → Option Data → Result (List ℕ) ObjectFault
text_by place key None = Err (Missing place key)
text_by place key (Some d) = text_of place key d

unfoldable pub text_at : Place → ObjectKey → Option Data → Result (List ℕ) ObjectFault
text_at place key d = text_by place key (at key d)

-- the whole number from low to high at a key, or the default where the key is absent
abbrev pub number_by : Place → ObjectKey → (low high default : ℕ) → Option Data → Result ℕ ObjectFault
number_by place key low high default None = Ok default
number_by place key low high default (Some d) = or_fault (BadValue place key) (whole_in low high d)

unfoldable pub number_at : Place → ObjectKey → (low high default : ℕ) → Option Data → Result ℕ ObjectFault
number_at place key low high default d = number_by place key low high default (at key d)

-- whether true stands at a key, and false where the key is absent
abbrev pub flag_by : Place → ObjectKey → Option Data → Result Bool ObjectFault
flag_by place key None = Ok false
flag_by place key (Some d) = or_fault (BadValue place key) (as_bool d)

unfoldable pub flag_at : Place → ObjectKey → Option Data → Result Bool ObjectFault
flag_at place key d = flag_by place key (at key d)

-- the members of the array at a key, and none where the key is absent
abbrev pub items_by : Place → ObjectKey → Option Data → Result Items ObjectFault
items_by place key None = Ok no_items
items_by place key (Some d) = or_fault (BadValue place key) (as_array d)

unfoldable pub items_at : Place → ObjectKey → Option Data → Result Items ObjectFault
items_at place key d = items_by place key (at key d)

-- what each member is, the first of this number, or the first fault
abbrev pub each_from : {A : Type 0} → (ℕ → Data → Result A ObjectFault) → ℕ → Items → Result (List A) ObjectFault
each_from judge i no_items = Ok []
each_from judge i (item d ds) = before (judge i d) (each_from judge (i + 1) ds)

-- the texts that members are
abbrev pub texts_of : Place → ObjectKey → Items → Result (List (List ℕ)) ObjectFault
texts_of place key items = each_from (λ i d. text_of place key d) 0 items

-- the texts of the array at a key
unfoldable pub texts_at : Place → ObjectKey → Option Data → Result (List (List ℕ)) ObjectFault
texts_at place key d = items_at place key d >>= texts_of place key
