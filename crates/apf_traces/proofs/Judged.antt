-- A list judged from its front.
use Rattle.std.proofs.Common.{◌≡◌, ℕ, ◌+◌, List, [], ◌∷◌, ◌++◌, map, refl, sym, ap, ◌∙◌, append_assoc, Result, Ok, Err}
use Rattle.std.proofs.lemmas.List.{map-append}
use Rattle.apf_files.specs.FirstFault.{before, with_front}
use Rattle.apf_traces.specs.TraceFile.{Line, judged_line, trace_from}
use Rattle.apf_traces.specs.TraceValue.{Entry, entry}
use Rattle.apf_traces.specs.declared.fault.TraceFault.{TraceFault}
use Rattle.apf_traces.specs.declared.request.TraceRequest.{TraceRequest}

pub with_front-nil : {A F : Type 0} (rest : Result (List A) F) → with_front [] rest ≡ rest
with_front-nil (Ok others) = refl
with_front-nil (Err fault) = refl

with_front-before : {A F : Type 0} (xs : List A) (x : A) (rest : Result (List A) F) → with_front xs (before (Ok x) rest) ≡ with_front (xs ++ x ∷ []) rest
with_front-before xs x (Ok others) = ap Ok (sym (append_assoc xs (x ∷ []) others))
with_front-before xs x (Err fault) = refl

-- one more request was read
pub one_more : (number : ℕ) (requests more : List TraceRequest) (request : TraceRequest) (line : Line) (lines all : List Line) → judged_line number line ≡ Ok (entry request) → more ≡ requests ++ request ∷ [] → all ≡ line ∷ lines
    → with_front (map entry more) (trace_from (number + 1) lines) ≡ with_front (map entry requests) (trace_from number all)
one_more number requests more request line lines all judged is first =
    ap (λ (rs : List TraceRequest). with_front (map entry rs) (trace_from (number + 1) lines)) is
    ∙ ap (λ (es : List Entry). with_front es (trace_from (number + 1) lines)) (map-append entry requests (request ∷ []))
    ∙ sym (with_front-before (map entry requests) (entry request) (trace_from (number + 1) lines))
    ∙ ap (λ (r : Result Entry TraceFault). with_front (map entry requests) (before r (trace_from (number + 1) lines))) (sym judged)
    ∙ ap (λ (ls : List Line). with_front (map entry requests) (trace_from number ls)) (sym first)
