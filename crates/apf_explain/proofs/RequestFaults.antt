-- What the fault of a requests file says of its value.
use Rattle.std.proofs.Common.{subst, inl, inr, ◌≡◌, ℕ, suc, ◌+◌, ◌-◌, ◌<◌, List, Bool, true, false, Option, Some, None, Result, Ok, Err, codes, refl, sym, ◌∙◌, ap, arith}
use Rattle.std.specs.Prelude.{option_map, nat_le, if◌then◌else◌}
use Rattle.std.proofs.lemmas.Bool.Decides.{nat_tests}
use Rattle.serde_json.specs.Data.{Data, null, boolean, number, string, array, object, Items, no_items, item}
use Rattle.serde_json.specs.Find.{get, get_item, at, as_array, as_object, as_str}
use Rattle.apf_words.specs.Limits.{max_requests, max_width}
use Rattle.apf_files.specs.FirstFault.{before, or_fault}
use Rattle.apf_files.specs.JsonFile.{known_object, whole_below}
use Rattle.apf_files.specs.RequestsFile.{is_key, max_work, flow_of, hash_of_names, number_or, cancels_of, closes_of, request_of, requests_from, requests_of, of_array, items_count, place_of}
use Rattle.apf_files.specs.declared.requests.RequestFault.{RequestFault}
use Rattle.apf_files.specs.declared.requests.RequestFault.TheVariants.{TooMany, NotObject, UnknownKey, BadFlow, BadWidth, BadWork, BadCancels, BadCloses}
use Rattle.apf_explain.specs.declared.keys.Keys.TheVariants.{OfRequest}
use Rattle.apf_explain.specs.declared.members.RequestKey.TheVariants.{Schema, Distinguisher, Hash, Cancels, Closes}
use Rattle.apf_explain.specs.declared.flow.FlowFault.{FlowFault}
use Rattle.apf_explain.specs.declared.flow.FlowFault.TheVariants as flow
use Rattle.apf_explain.specs.declared.wanted.Wanted.TheVariants.{Whole}
use Rattle.apf_explain.specs.FlowFaults.{flow_fault_of}
use Rattle.apf_explain.specs.Shown.{IsMemberShown, IsRequestsShown, IsUnwanted}
use Rattle.apf_explain.specs.Wanted.{request_wanted}
use Rattle.apf_explain.proofs.Steps.{stepped, none_there}
use Rattle.apf_explain.proofs.Unknown.{known_by}

-- ---- one request

-- the fault is that of request i, and is shown
abbrev pub IsShownAt : ℕ → ℕ → Data → RequestFault → Type 0
IsShownAt last i d fault = (place_of fault ≡ Some i) × IsMemberShown last d fault

known_shown : (last i : ℕ) (d : Data) (fault : RequestFault) → known_object is_key (NotObject i) (UnknownKey i) (as_object d) ≡ Err fault
    → IsShownAt last i d fault
known_shown last i d fault h =
    known_by OfRequest d (NotObject i) (UnknownKey i) fault (as_object d) refl h
    (λ nothing same. subst (λ (f : RequestFault). IsShownAt last i d f) same (refl, nothing))
    (λ unknown same. subst (λ (f : RequestFault). IsShownAt last i d f) same (refl, unknown))

-- a fault of a flow that is given by both texts
texts_told : (schema distinguisher : Data) (s t : Option (List ℕ)) → as_str schema ≡ s → as_str distinguisher ≡ t → hash_of_names s t ≡ None
    → (f : FlowFault) × (flow_fault_of None (Some schema) (Some distinguisher) ≡ Some f)
texts_told schema distinguisher (Some s) (Some t) is_s is_t h = absurd cc
texts_told schema distinguisher (Some s) None is_s is_t h = (flow.BadValue Distinguisher, rw (is_s, is_t) refl)
texts_told schema distinguisher None t is_s is_t h = (flow.BadValue Schema, rw is_s refl)

pub flow_told : (hash schema distinguisher : Option Data) → flow_of hash schema distinguisher ≡ None
    → (f : FlowFault) × (flow_fault_of hash schema distinguisher ≡ Some f)
flow_told None None None h = (flow.Missing, refl)
flow_told (Some hash) (Some schema) (Some distinguisher) h = (flow.HashBesideBoth, refl)
flow_told (Some hash) (Some schema) None h = (flow.HashBesideSchema, refl)
flow_told (Some hash) None (Some distinguisher) h = (flow.HashBesideDistinguisher, refl)
flow_told None (Some schema) None h = (flow.SchemaAlone, refl)
flow_told None None (Some distinguisher) h = (flow.DistinguisherAlone, refl)
flow_told (Some hash) None None h = (flow.BadValue Hash, rw h refl)
flow_told None (Some schema) (Some distinguisher) h = texts_told schema distinguisher (as_str schema) (as_str distinguisher) refl refl h

pub number_by : (low high default : ℕ) (key : List ℕ) (d : Data) (o : Option Data) → get key d ≡ o → number_or low high default o ≡ None
    → IsUnwanted key (Whole low high) d
number_by low high default key d None at h = absurd cc
number_by low high default key d (Some v) at h = (v, at, rw h refl)

none_mapped : {A B : Type 0} (f : A → B) (o : Option A) → option_map f o ≡ None → o ≡ None
none_mapped f None h = refl
none_mapped f (Some x) h = absurd cc

cancels_by : (count : ℕ) (d : Data) (o : Option Data) → 0 < count → get (codes "cancels") d ≡ o → cancels_of count o ≡ None
    → IsUnwanted (codes "cancels") (request_wanted (count - 1) Cancels) d
cancels_by count d None some at h = absurd cc
cancels_by count d (Some v) some at h =
    let same : count - 1 + 1 ≡ count = omega arith in
    let none : whole_below count v ≡ None = none_mapped Some (whole_below count v) h in
    (v, at, rw (same, none) refl)

closes_by : (d : Data) (o : Option Data) → get (codes "closes") d ≡ o → closes_of o ≡ None → IsUnwanted (codes "closes") (request_wanted 0 Closes) d
closes_by d None at h = absurd cc
closes_by d (Some v) at h = (v, at, rw h refl)

-- a step whose value is not there
at_step : {A : Type 0} (last i : ℕ) (d : Data) (o : Option A) (f fault : RequestFault) → or_fault f o ≡ Err fault
    → (o ≡ None → IsShownAt last i d f) → IsShownAt last i d fault
at_step last i d o f fault h shown =
    let no = none_there o f fault h in
    subst (λ (g : RequestFault). IsShownAt last i d g) no.1 (shown no.0)

member_shown : (count i : ℕ) (d : Data) (fault : RequestFault) → 0 < count → request_of count i d ≡ Err fault → IsShownAt (count - 1) i d fault
unfolding request_of
member_shown count i d fault some h =
    let last = count - 1 in
    let flow = flow_of (get (codes "hash") d) (get (codes "schema") d) (get (codes "distinguisher") d) in
    let width = number_or 1 max_width 1 (get (codes "width") d) in
    let work = number_or 0 max_work 0 (get (codes "work") d) in
    let cancels = cancels_of count (get (codes "cancels") d) in
    let closes = closes_of (get (codes "closes") d) in
    stepped (known_object is_key (NotObject i) (UnknownKey i) (as_object d)) _ fault h (known_shown last i d fault) (λ _ h1.
    stepped (or_fault (BadFlow i) flow) _ fault h1
    (λ e. at_step last i d flow (BadFlow i) fault e (λ no. (refl, flow_told (get (codes "hash") d) (get (codes "schema") d) (get (codes "distinguisher") d) no))) (λ _ h2.
    stepped (or_fault (BadWidth i) width) _ fault h2
    (λ e. at_step last i d width (BadWidth i) fault e (λ no. (refl, number_by 1 max_width 1 (codes "width") d (get (codes "width") d) refl no))) (λ _ h3.
    stepped (or_fault (BadWork i) work) _ fault h3
    (λ e. at_step last i d work (BadWork i) fault e (λ no. (refl, number_by 0 max_work 0 (codes "work") d (get (codes "work") d) refl no))) (λ _ h4.
    stepped (or_fault (BadCancels i) cancels) _ fault h4
    (λ e. at_step last i d cancels (BadCancels i) fault e (λ no. (refl, cancels_by count d (get (codes "cancels") d) some refl no))) (λ _ h5.
    stepped (or_fault (BadCloses i) closes) _ fault h5
    (λ e. at_step last i d closes (BadCloses i) fault e (λ no. (refl, closes_by d (get (codes "closes") d) refl no))) (λ _ h6. absurd cc))))))

-- ---- all of a file

pub before_err : {A F C : Type 0} (r : Result A F) (rs : Result (List A) F) (fault : F) → before r rs ≡ Err fault
    → (r ≡ Err fault → C) → (rs ≡ Err fault → C) → C
before_err (Err f) rs fault h here later = let same : f ≡ fault = cc in here (rw same refl)
before_err (Ok x) (Err f) fault h here later = later h
before_err (Ok x) (Ok xs) fault h here later = absurd cc

-- the fault is that of a request of these, the first of which is request i
abbrev pub IsShownFrom : ℕ → ℕ → Items → RequestFault → Type 0
IsShownFrom last i ds fault =
    (j : ℕ) × (place_of fault ≡ Some (i + j)) × ((m : Data) × (get_item j ds ≡ Some m) × IsMemberShown last m fault)

items_shown : (count i : ℕ) (ds : Items) (fault : RequestFault) → 0 < count → requests_from count i ds ≡ Err fault → IsShownFrom (count - 1) i ds fault
items_shown count i no_items fault some h = absurd cc
items_shown count i (item d ds) fault some h =
    before_err (request_of count i d) (requests_from count (i + 1) ds) fault h
    (λ e. let shown = member_shown count i d fault some e in
    let here : i + 0 ≡ i = omega arith in
    (0, rw here shown.0, (d, refl, shown.1)))
    (λ e. let rest = items_shown count (i + 1) ds fault some e in
    let next : i + suc rest.0 ≡ i + 1 + rest.0 = omega arith in
    (suc rest.0, rw next rest.1, (rest.2.0, rest.2.1, rest.2.2)))

some_items : (count : ℕ) (ds : Items) (fault : RequestFault) → requests_from count 0 ds ≡ Err fault → 0 < items_count ds
some_items count no_items fault h = absurd cc
some_items count (item d ds) fault h = omega arith

at_array : (d : Data) (ds : Items) (i : ℕ) → as_array d ≡ Some ds → at i d ≡ get_item i ds
at_array (array es) ds i is = let same : es ≡ ds = cc in ap (λ (xs : Items). get_item i xs) same
at_array null ds i is = absurd cc
at_array (boolean b) ds i is = absurd cc
at_array (number n) ds i is = absurd cc
at_array (string s) ds i is = absurd cc
at_array (object ms) ds i is = absurd cc

many : (n : ℕ) → nat_le n max_requests ≡ false → max_requests < n
many n h = grind (arith, nat_tests)

array_by : (b : Bool) (d : Data) (fault : RequestFault) (ds : Items) → as_array d ≡ Some ds → nat_le (items_count ds) max_requests ≡ b
    → (if b then requests_from (items_count ds) 0 ds else Err TooMany) ≡ Err fault → IsRequestsShown d fault
array_by true d fault ds is small h =
    let found = items_shown (items_count ds) 0 ds fault (some_items (items_count ds) ds fault h) h in
    let first : 0 + found.0 ≡ found.0 = omega arith in
    inr (inr (ds, is, (found.0, rw (sym first) found.1, (found.2.0, at_array d ds found.0 is ∙ found.2.1, found.2.2))))
array_by false d fault ds is large h = inr (inl (cc, (ds, is, many (items_count ds) large)))

shown_by : (d : Data) (fault : RequestFault) (o : Option Items) → as_array d ≡ o → of_array o ≡ Err fault → IsRequestsShown d fault
shown_by d fault None is h = inl (cc, is)
shown_by d fault (Some ds) is h = array_by (nat_le (items_count ds) max_requests) d fault ds is refl h

pub requests_shown : (d : Data) (fault : RequestFault) → requests_of d ≡ Err fault → IsRequestsShown d fault
unfolding requests_of
requests_shown d fault h = shown_by d fault (as_array d) refl h
