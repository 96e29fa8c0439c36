-- One turn after the other.
use Rattle.std.proofs.Common.{◌≡◌, List, ℕ, ◌++◌, Option, None, Some, Result, Ok, append_assoc, append-nil, subst}
use Rattle.std.proofs.KnownBytes.{Consumes-trans}
use Rattle.std.specs.Io.KnownBytes.{Consumes}
use Rattle.apf_times.specs.declared.window.Arrival.{Arrival}
use Rattle.apf_traces.specs.declared.request.TraceRequest.{TraceRequest}
use Rattle.apf_trace_reader.specs.declared.fault.ReadFault.{ReadFault}
use Rattle.apf_trace_reader.specs.Reading.{HasRead}
use Rattle.apf_trace_reader.specs.Turns.{Goes, GoesMore}
use Rattle.apf_trace_reader.specs.Views.{ReaderView}

-- the input gave more bytes, and nothing was handed out
abbrev pub HasReadMore : Option (List ℕ) → Option (List ℕ) → List ℕ → List (Arrival TraceRequest) → ReaderView → Type 0
HasReadMore was left bytes told v = (more : List ℕ) × Consumes was left more × HasRead (bytes ++ more) told left v

pub turned : (was mid left : Option (List ℕ)) (bytes : List ℕ) (told : List (Arrival TraceRequest)) (v w : ReaderView) (result : Result (Option (Arrival TraceRequest)) ReadFault)
    → HasReadMore was mid bytes told v → GoesMore mid left v result w → (more : List ℕ) × Consumes was left more × Goes (bytes ++ more) told left result w
turned was mid left bytes told v w result m goes =
    let s = goes (bytes ++ m.0) told m.2 in
    (m.0 ++ s.0, Consumes-trans was mid left m.0 s.0 m.1 s.1, subst (λ b. Goes b told left result w) (append_assoc bytes m.0 s.0) s.2)

-- a turn that handed out nothing
pub turned_on : (was mid left : Option (List ℕ)) (bytes : List ℕ) (told : List (Arrival TraceRequest)) (v w : ReaderView) → HasReadMore was mid bytes told v → GoesMore mid left v (Ok None) w → HasReadMore was left bytes told w
turned_on was mid left bytes told v w m goes =
    let s = turned was mid left bytes told v w (Ok None) m goes in
    (s.0, s.1, subst (λ t. HasRead (bytes ++ s.0) t left w) (append-nil told) s.2)
