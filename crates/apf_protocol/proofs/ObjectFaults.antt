-- What the fault of an arrival's object says of its value.
use Rattle.std.proofs.Common.{subst, ◌≡◌, ℕ, List, Bool, true, false, Option, Some, None, Result, Ok, Err, codes, refl}
use Rattle.std.specs.Prelude.{if◌then◌else◌}
use Rattle.serde_json.specs.Data.{Data, Members}
use Rattle.serde_json.specs.Find.{get, as_object}
use Rattle.serde_json.specs.Read.{read}
use Rattle.apf_words.specs.Limits.{max_cost, max_width}
use Rattle.apf_files.specs.FirstFault.{◌>>=◌, or_fault}
use Rattle.apf_files.specs.JsonFile.{all_known, known_object}
use Rattle.apf_files.specs.RequestsFile.{flow_of, number_or}
use Rattle.apf_explain.specs.Keys.{is_arrival_key, is_key_of}
use Rattle.apf_explain.specs.Shown.{IsFlowTold, IsUnwanted, NamesUnknown}
use Rattle.apf_explain.specs.declared.keys.Keys.{Keys}
use Rattle.apf_explain.specs.declared.wanted.Wanted.TheVariants.{Whole}
use Rattle.apf_explain.specs.declared.keys.Keys.TheVariants.{OfArrival}
use Rattle.apf_protocol.specs.Lines.{object_text}
use Rattle.apf_protocol.specs.Objects.{asked_of, arrival_in}
use Rattle.apf_protocol.specs.Shown.{IsValueShown, IsObjectShown, IsEveryFaultShown}
use Rattle.apf_protocol.proofs.Braces.{IsObject, object_read}
use Rattle.apf_protocol.specs.declared.fault.FaultKind.{FaultKind}
use Rattle.apf_protocol.specs.declared.fault.FaultKind.TheVariants.{TooLong, BadLine, BadNumber, IsThere, IsNotThere, NoMemory, NotJson, UnknownKey, BadFlow, BadWidth, BadCost, BadTime, BadLimit, UsedUp, Truncated}

-- the fault is that of this step, or of a later one
stepped : {A B F C : Type 0} (r : Result A F) (next : A → Result B F) (fault : F) → r >>= next ≡ Err fault
    → (r ≡ Err fault → C) → ((x : A) → next x ≡ Err fault → C) → C
stepped (Ok x) next fault h here later = later x h
stepped (Err f) next fault h here later = let same : f ≡ fault = cc in here (rw same refl)

-- the value is not there
none_there : {A F : Type 0} (o : Option A) (f g : F) → or_fault f o ≡ Err g → (o ≡ None) × (f ≡ g)
none_there (Some x) f g h = absurd cc
none_there None f g h = (refl, cc)

number_by : (low high default : ℕ) (key : List ℕ) (d : Data) (o : Option Data) → get key d ≡ o → number_or low high default o ≡ None
    → IsUnwanted key (Whole low high) d
number_by low high default key d None at h = absurd cc
number_by low high default key d (Some v) at h = (v, at, rw h refl)

-- what the fault says of the value, which may be no object yet
abbrev pub IsShownAs : Data → FaultKind → Type 0
IsShownAs d NotJson = as_object d ≡ None
IsShownAs d kind = IsValueShown d kind

-- by what is true of the faults of flows, and of unknown keys
module _ (told : (d : Data) → flow_of (get (codes "hash") d) (get (codes "schema") d) (get (codes "distinguisher") d) ≡ None → IsFlowTold d)
    (named : (keys : Keys) (d : Data) (ms : Members) → as_object d ≡ Some ms → all_known (is_key_of keys) ms ≡ false → NamesUnknown keys d) where
  known_some : (d : Data) (kind : FaultKind) (ms : Members) (b : Bool) → as_object d ≡ Some ms → all_known is_arrival_key ms ≡ b → (if b then Ok ms else Err UnknownKey) ≡ Err kind → IsShownAs d kind
  known_some d kind ms true is all h = absurd cc
  known_some d kind ms false is all h = let same : UnknownKey ≡ kind = cc in subst (λ (k : FaultKind). IsShownAs d k) same (named OfArrival d ms is all)

  known_in : (d : Data) (kind : FaultKind) (o : Option Members) → as_object d ≡ o → known_object is_arrival_key NotJson UnknownKey o ≡ Err kind → IsShownAs d kind
  known_in d kind None is h = let same : NotJson ≡ kind = cc in subst (λ (k : FaultKind). IsShownAs d k) same is
  known_in d kind (Some ms) is h = known_some d kind ms (all_known is_arrival_key ms) is refl h

  known_shown : (d : Data) (kind : FaultKind) → known_object is_arrival_key NotJson UnknownKey (as_object d) ≡ Err kind → IsShownAs d kind
  known_shown d kind h = known_in d kind (as_object d) refl h

  -- a step whose value is not there
  at_step : {A : Type 0} (d : Data) (o : Option A) (k kind : FaultKind) → or_fault k o ≡ Err kind → (o ≡ None → IsShownAs d k) → IsShownAs d kind
  at_step d o k kind h shown =
      let no = none_there o k kind h in
      subst (λ (j : FaultKind). IsShownAs d j) no.1 (shown no.0)

  value_shown : (d : Data) (kind : FaultKind) → asked_of d ≡ Err kind → IsShownAs d kind
  unfolding asked_of
  value_shown d kind h =
      let flow = flow_of (get (codes "hash") d) (get (codes "schema") d) (get (codes "distinguisher") d) in
      let width = number_or 1 max_width 1 (get (codes "width") d) in
      stepped (known_object is_arrival_key NotJson UnknownKey (as_object d)) _ kind h (known_shown d kind) (λ _ h1.
      stepped (or_fault BadFlow flow) _ kind h1
      (λ e. at_step d flow BadFlow kind e (λ no. told d no)) (λ _ h2.
      stepped (or_fault BadWidth width) _ kind h2
      (λ e. at_step d width BadWidth kind e (λ no. number_by 1 max_width 1 (codes "width") d (get (codes "width") d) refl no)) (λ w h3.
      let cost = number_or 1 max_cost 1 (get (codes "cost") d) in
      stepped (or_fault BadCost cost) _ kind h3
      (λ e. at_step d cost BadCost kind e (λ no. number_by 1 max_cost 1 (codes "cost") d (get (codes "cost") d) refl no)) (λ _ h4. absurd cc))))

  no_object : {C : Type 0} (d : Data) → IsObject d → as_object d ≡ None → C
  no_object d some none = let is = some.1 in absurd cc

  of_value : (object : List ℕ) (d : Data) (kind : FaultKind) → read object ≡ Some d → IsObject d → IsShownAs d kind → IsObjectShown object kind
  of_value object d TooLong is some shown = absurd shown
  of_value object d BadLine is some shown = absurd shown
  of_value object d BadNumber is some shown = absurd shown
  of_value object d (IsThere n) is some shown = absurd shown
  of_value object d (IsNotThere n) is some shown = absurd shown
  of_value object d NoMemory is some shown = absurd shown
  of_value object d NotJson is some shown = no_object d some shown
  of_value object d UnknownKey is some shown = (d, is, shown)
  of_value object d BadFlow is some shown = (d, is, shown)
  of_value object d BadWidth is some shown = (d, is, shown)
  of_value object d BadCost is some shown = (d, is, shown)
  of_value object d BadTime is some shown = absurd shown
  of_value object d BadLimit is some shown = absurd shown
  of_value object d (UsedUp number) is some shown = absurd shown
  of_value object d Truncated is some shown = absurd shown

  object_by : (object : List ℕ) (kind : FaultKind) (o : Option Data) → object_text object ≡ Some object → read object ≡ o
      → or_fault NotJson o >>= asked_of ≡ Err kind → IsObjectShown object kind
  object_by object kind None text is h =
      let same : NotJson ≡ kind = cc in
      subst (λ (k : FaultKind). IsObjectShown object k) same is
  object_by object kind (Some d) text is h = of_value object d kind is (object_read object d text is) (value_shown d kind h)

  pub every_fault : IsEveryFaultShown
  unfolding arrival_in
  every_fault object kind text h = object_by object kind (read object) text refl h
