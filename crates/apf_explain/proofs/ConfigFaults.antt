-- What the fault of a config says of its value.
use Rattle.std.proofs.Common.{subst, ◌≡◌, ℕ, false, Option, Some, None, Err, refl}
use Rattle.std.specs.Prelude.{option_and_then}
use Rattle.serde_json.specs.Data.{Data}
use Rattle.serde_json.specs.Find.{get, as_str, as_object}
use Rattle.apf_words.specs.Limits.{max_limit, max_queues, max_queue_length}
use Rattle.apf_model.specs.declared.response.Response.{Response}
use Rattle.apf_model.specs.declared.response.Response.TheVariants.{Queue}
use Rattle.apf_files.specs.JsonFile.{known_object, whole_in}
use Rattle.apf_files.specs.ConfigFile.{config_of, is_key, max_hand_size, name_of, number_at, number_or, response_at, response_or, response_named}
use Rattle.apf_files.specs.declared.config.ConfigKey.{ConfigKey}
use Rattle.apf_files.specs.declared.config.ConfigKey.TheVariants.{Limit, Queues, HandSize, QueueLengthLimit, LimitResponse}
use Rattle.apf_files.specs.declared.config.ConfigFault.{ConfigFault}
use Rattle.apf_files.specs.declared.config.ConfigFault.TheVariants.{NotObject, UnknownKey, Missing, BadValue}
use Rattle.apf_explain.specs.declared.keys.Keys.TheVariants.{OfConfig}
use Rattle.apf_explain.specs.declared.wanted.Wanted.TheVariants.{Whole}
use Rattle.apf_explain.specs.Shown.{IsConfigShown}
use Rattle.apf_explain.specs.Wanted.{is_wanted, wanted_at}
use Rattle.apf_explain.proofs.Steps.{stepped, none_there}
use Rattle.apf_explain.proofs.Unknown.{known_by}

known_shown : (d : Data) (fault : ConfigFault) → known_object is_key NotObject UnknownKey (as_object d) ≡ Err fault → IsConfigShown d fault
known_shown d fault h =
    known_by OfConfig d NotObject UnknownKey fault (as_object d) refl h
    (λ nothing same. subst (λ (f : ConfigFault). IsConfigShown d f) same nothing)
    (λ unknown same. subst (λ (f : ConfigFault). IsConfigShown d f) same unknown)

number_by : (d : Data) (key : ConfigKey) (most : ℕ) (default : Option ℕ) (fault : ConfigFault) (o : Option Data) → get (name_of key) d ≡ o
    → number_or key most default o ≡ Err fault → wanted_at key ≡ Whole 1 most → (default ≡ None → key ≡ Limit) → IsConfigShown d fault
number_by d key most default fault (Some v) at h wants has =
    let no = none_there (whole_in 1 most v) (BadValue key) fault h in
    let unwanted : is_wanted (wanted_at key) v ≡ false = rw (wants, no.0) refl in
    subst (λ (f : ConfigFault). IsConfigShown d f) no.1 (v, at, unwanted)
number_by d key most default fault None at h wants has =
    let no = none_there default Missing fault h in
    subst (λ (f : ConfigFault). IsConfigShown d f) no.1 (subst (λ (k : ConfigKey). get (name_of k) d ≡ None) (has no.0) at)

number_shown : (d : Data) (key : ConfigKey) (most : ℕ) (default : Option ℕ) (fault : ConfigFault)
    → number_at key most default d ≡ Err fault → wanted_at key ≡ Whole 1 most → (default ≡ None → key ≡ Limit) → IsConfigShown d fault
unfolding number_at
number_shown d key most default fault h wants has = number_by d key most default fault (get (name_of key) d) refl h wants has

response_by : (d : Data) (default : Response) (fault : ConfigFault) (o : Option Data) → get (name_of LimitResponse) d ≡ o
    → response_or default o ≡ Err fault → IsConfigShown d fault
response_by d default fault (Some v) at h =
    let no = none_there (option_and_then response_named (as_str v)) (BadValue LimitResponse) fault h in
    let unwanted : is_wanted (wanted_at LimitResponse) v ≡ false = rw (no.0) refl in
    subst (λ (f : ConfigFault). IsConfigShown d f) no.1 (v, at, unwanted)
response_by d default fault None at h = absurd cc

response_shown : (d : Data) (default : Response) (fault : ConfigFault) → response_at default d ≡ Err fault → IsConfigShown d fault
unfolding response_at
response_shown d default fault h = response_by d default fault (get (name_of LimitResponse) d) refl h

pub config_shown : (d : Data) (fault : ConfigFault) → config_of d ≡ Err fault → IsConfigShown d fault
unfolding config_of
config_shown d fault h =
    stepped (known_object is_key NotObject UnknownKey (as_object d)) _ fault h (known_shown d fault) (λ _ h1.
    stepped (number_at Limit max_limit None d) _ fault h1 (λ e. number_shown d Limit max_limit None fault e refl (λ _. refl)) (λ _ h2.
    stepped (number_at Queues max_queues (Some 64) d) _ fault h2 (λ e. number_shown d Queues max_queues (Some 64) fault e refl (λ n. absurd cc)) (λ _ h3.
    stepped (number_at HandSize max_hand_size (Some 8) d) _ fault h3 (λ e. number_shown d HandSize max_hand_size (Some 8) fault e refl (λ n. absurd cc)) (λ _ h4.
    stepped (number_at QueueLengthLimit max_queue_length (Some 50) d) _ fault h4
    (λ e. number_shown d QueueLengthLimit max_queue_length (Some 50) fault e refl (λ n. absurd cc)) (λ _ h5.
    stepped (response_at Queue d) _ fault h5 (response_shown d Queue fault) (λ _ h6. absurd cc))))))
