-- What is written of the flows of a trace.
use Rattle.std.specs.Prelude.{◌≡◌, ℕ, List, Bool, true, Option, Some, None}
use Rattle.std.specs.Borrow.{Bor}
use Rattle.std.specs.Io.KnownBytes.{Appends}
use Rattle.std.specs.List.{list_any}
use Rattle.apf_model.specs.declared.config.Config.{Config}
use Rattle.apf_times.specs.declared.window.Arrival.{Arrival}
use Rattle.apf_traces.specs.declared.request.TraceRequest.{TraceRequest}
use Rattle.apf_hands.specs.Firsts.{HasFirsts}
use Rattle.apf_hands.specs.Hands.{Flow, flows_in, hands_text, has_distinguisher, part_text, sizes_of}

-- the lines of all flows, or of those of one distinguisher
abbrev pub asked_text : Option (Bor (List ℕ)) → List Flow → List ℕ
asked_text None flows = hands_text flows
asked_text (Some name) flows = part_text name.now flows flows

-- one of the flows whose first requests these are is asked for
abbrev pub is_asked : Option (Bor (List ℕ)) → List (Arrival TraceRequest) → Bool
is_asked None firsts = true
is_asked (Some name) firsts = list_any (λ first. has_distinguisher name.now first.item.names) firsts

-- the input was read to its end, and the lines were written of the flows of its trace that are asked for
pub record HasWritten (size : ℕ) (config : Config) (flow : Option (Bor (List ℕ))) (is_found : Bool) (was left before after : Option (List ℕ)) : Type 0 where
  pub firsts : List (Arrival TraceRequest)
  pub first : HasFirsts size was left firsts
  pub written : Appends before after (asked_text flow (flows_in (sizes_of config) firsts))
  pub found : is_found ≡ is_asked flow firsts
