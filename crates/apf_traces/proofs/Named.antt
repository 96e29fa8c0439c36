-- The names of a flow beside its hash.
use Rattle.std.proofs.Common.{◌≡◌, ℕ, List, Option, None, Some, IfSome, sym, ap, string_bytes}
use Rattle.std.specs.Prelude.{option_map, option_and_then}
use Rattle.serde_json.specs.Data.{Data}
use Rattle.serde_json.specs.Find.{as_str}
use Rattle.apf_flow.specs.Flow.{flow_hash_of}
use Rattle.apf_files.specs.RequestsFile.{flow_of, hash_of_names}
use Rattle.apf_traces.specs.TraceValue.{texts, both}
use Rattle.apf_traces.specs.declared.request.FlowNames.{FlowNames}

-- two texts
of_texts : (schema distinguisher : Option (List ℕ)) (hash : ℕ) (names : FlowNames) → hash_of_names schema distinguisher ≡ Some hash
    → Some (texts names) ≡ both schema distinguisher → hash ≡ flow_hash_of (string_bytes names.schema) (string_bytes names.distinguisher)
of_texts (Some schema) (Some distinguisher) hash names is_hash are_names =
    let are : texts names ≡ (schema, distinguisher) = cc in
    let is : flow_hash_of schema distinguisher ≡ hash = cc in
    let first : string_bytes names.schema ≡ schema = ap (λ (p : List ℕ × List ℕ). p.0) are in
    let second : string_bytes names.distinguisher ≡ distinguisher = ap (λ (p : List ℕ × List ℕ). p.1) are in
    rw (first, second) (sym is)
of_texts (Some schema) None hash names is_hash are_names = absurd cc
of_texts None distinguisher hash names is_hash are_names = absurd cc

-- the hash is that of the names, where there are names
pub named : (hash schema distinguisher : Option Data) (h : ℕ) (names : Option FlowNames) → flow_of hash schema distinguisher ≡ Some h
    → option_map texts names ≡ both (option_and_then as_str schema) (option_and_then as_str distinguisher)
    → IfSome names (λ names. h ≡ flow_hash_of (string_bytes names.schema) (string_bytes names.distinguisher))
named hash schema distinguisher h None is_hash are_names = tt
named (Some hash) None None h (Some names) is_hash are_names = absurd cc
named None (Some schema) (Some distinguisher) h (Some names) is_hash are_names =
    of_texts (as_str schema) (as_str distinguisher) h names is_hash are_names
named (Some hash) None (Some distinguisher) h (Some names) is_hash are_names = absurd cc
named (Some hash) (Some schema) distinguisher h (Some names) is_hash are_names = absurd cc
named None None distinguisher h (Some names) is_hash are_names = absurd cc
named None (Some schema) None h (Some names) is_hash are_names = absurd cc
