-- Lines judged one after the other.
use Rattle.std.proofs.Common.{◌≡◌, ℕ, suc, ◌+◌, List, [], ◌∷◌, ◌++◌, length, Result, Ok, Err, refl, sym, ap, ◌∙◌, append_assoc, append-nil, arith}
use Rattle.apf_files.specs.FirstFault.{◌>>=◌, with_front}
use Rattle.apf_times.specs.declared.window.Place.{Place}
use Rattle.apf_traces.specs.TraceFile.{Line}
use Rattle.apf_traces.specs.TraceValue.{Entry}
use Rattle.apf_traces.specs.declared.fault.TraceFault.{TraceFault}
use Rattle.apf_trace_reader.specs.Timely.{judged_after, place_of, requests_from}

-- the places of the requests of lines, where the first has this number
abbrev pub places_from : ℕ → List Entry → List Place
places_from number [] = []
places_from number (e ∷ es) = place_of number e ∷ places_from (number + 1) es

with_front-nil : (rest : Result (List Entry) TraceFault) → with_front [] rest ≡ rest
with_front-nil (Ok others) = refl
with_front-nil (Err fault) = refl

with_front-front : (e : Entry) (es : List Entry) (rest : Result (List Entry) TraceFault) → with_front (e ∷ []) (with_front es rest) ≡ with_front (e ∷ es) rest
with_front-front e es (Ok others) = refl
with_front-front e es (Err fault) = refl

-- what was judged first had no fault
judged_first : (r : Result Entry TraceFault) (next : Entry → Result (List Entry) TraceFault) (es : List Entry) → (r >>= next) ≡ Ok es → (e : Entry) × (r ≡ Ok e) × (next e ≡ Ok es)
judged_first (Ok e) next es h = (e, refl, h)
judged_first (Err fault) next es h = absurd cc

-- what was judged next had no fault
judged_next : (e : Entry) (r : Result (List Entry) TraceFault) (es : List Entry) → with_front (e ∷ []) r ≡ Ok es → (others : List Entry) × (r ≡ Ok others) × (es ≡ e ∷ others)
judged_next e (Ok others) es h = (others, refl, cc)
judged_next e (Err fault) es h = absurd cc

-- the lines and their requests are as many
pub as_many : (size : ℕ) (earlier : List Place) (number : ℕ) (lines : List Line) (es : List Entry) → requests_from size earlier number lines ≡ Ok es → length es ≡ length lines
as_many size earlier number [] es h =
    let none : es ≡ [] = cc in
    ap length none
as_many size earlier number (line ∷ lines) es h =
    let first = judged_first (judged_after size earlier number line) (λ e. with_front (e ∷ []) (requests_from size (earlier ++ place_of number e ∷ []) (number + 1) lines)) es h in
    let others = judged_next first.0 (requests_from size (earlier ++ place_of number first.0 ∷ []) (number + 1) lines) es first.2 in
    let rest = as_many size (earlier ++ place_of number first.0 ∷ []) (number + 1) lines others.0 others.1 in
    ap length others.2 ∙ ap (λ n. suc n) rest

-- a line without fault stands before others
request_first : (size : ℕ) (earlier : List Place) (number : ℕ) (line : Line) (lines : List Line) (e : Entry) (others : List Entry) (rest : Result (List Entry) TraceFault)
    → judged_after size earlier number line ≡ Ok e → requests_from size (earlier ++ place_of number e ∷ []) (number + 1) lines ≡ with_front others rest
    → requests_from size earlier number (line ∷ lines) ≡ with_front (e ∷ others) rest
request_first size earlier number line lines e others rest judged are =
    ap (λ (r : Result Entry TraceFault). r >>= λ x. with_front (x ∷ []) (requests_from size (earlier ++ place_of number x ∷ []) (number + 1) lines)) judged
    ∙ ap (with_front (e ∷ [])) are
    ∙ with_front-front e others rest

-- lines without fault stand before others
pub requests_from-append : (size : ℕ) (earlier : List Place) (number : ℕ) (good later : List Line) (es : List Entry) → requests_from size earlier number good ≡ Ok es
    → requests_from size earlier number (good ++ later) ≡ with_front es (requests_from size (earlier ++ places_from number es) (number + length good) later)
requests_from-append size earlier number [] later es h =
    let none : es ≡ [] = cc in
    let same : number + 0 ≡ number = omega arith in
    rw (none, same, append-nil earlier) (sym (with_front-nil (requests_from size earlier number later)))
requests_from-append size earlier number (line ∷ good) later es h =
    let first = judged_first (judged_after size earlier number line) (λ e. with_front (e ∷ []) (requests_from size (earlier ++ place_of number e ∷ []) (number + 1) good)) es h in
    let e : Entry = first.0 in
    let place : Place = place_of number e in
    let others = judged_next e (requests_from size (earlier ++ place ∷ []) (number + 1) good) es first.2 in
    let together : (earlier ++ place ∷ []) ++ places_from (number + 1) others.0 ≡ earlier ++ (place ∷ places_from (number + 1) others.0) = append_assoc earlier (place ∷ []) (places_from (number + 1) others.0) in
    let count : number + 1 + length good ≡ number + length (line ∷ good) = omega arith in
    request_first size earlier number line (good ++ later) e others.0 (requests_from size ((earlier ++ place ∷ []) ++ places_from (number + 1) others.0) (number + 1 + length good) later) first.1
    (requests_from-append size (earlier ++ place ∷ []) (number + 1) good later others.0 others.1)
    ∙ ap (λ ps. with_front (e ∷ others.0) (requests_from size ps (number + 1 + length good) later)) together
    ∙ ap (λ n. with_front (e ∷ others.0) (requests_from size (earlier ++ (place ∷ places_from (number + 1) others.0)) n later)) count
    ∙ ap (λ (xs : List Entry). with_front xs (requests_from size (earlier ++ places_from number xs) (number + length (line ∷ good)) later)) (sym others.2)

-- one more line without fault
pub requests_from-more : (size : ℕ) (good : List Line) (line : Line) (es : List Entry) (number : ℕ) (e : Entry) → requests_from size [] 1 good ≡ Ok es → number ≡ 1 + length good
    → judged_after size (places_from 1 es) number line ≡ Ok e → requests_from size [] 1 (good ++ line ∷ []) ≡ Ok (es ++ e ∷ [])
requests_from-more size good line es number e h is judged =
    requests_from-append size [] 1 good (line ∷ []) es h
    ∙ ap (λ n. with_front es (requests_from size (places_from 1 es) n (line ∷ []))) (sym is)
    ∙ ap (λ (r : Result Entry TraceFault). with_front es (r >>= λ x. with_front (x ∷ []) (Ok []))) judged

-- a line with a fault
pub requests_from-fault : (size : ℕ) (good : List Line) (line : Line) (later : List Line) (es : List Entry) (number : ℕ) (fault : TraceFault) → requests_from size [] 1 good ≡ Ok es → number ≡ 1 + length good
    → judged_after size (places_from 1 es) number line ≡ Err fault → requests_from size [] 1 (good ++ line ∷ later) ≡ Err fault
requests_from-fault size good line later es number fault h is judged =
    requests_from-append size [] 1 good (line ∷ later) es h
    ∙ ap (λ n. with_front es (requests_from size (places_from 1 es) n (line ∷ later))) (sym is)
    ∙ ap (λ (r : Result Entry TraceFault). with_front es (r >>= λ x. with_front (x ∷ []) (requests_from size (places_from 1 es ++ place_of number x ∷ []) (number + 1) later))) judged
