-- The events of a log, and the newest of a request.
use Rattle.std.proofs.Common.{◌≡◌, ◌≢◌, ℕ, ◌+◌, ◌<◌, Bool, cond, List, [], ◌∷◌, ◌++◌, length, take, get_or, reverse, sym, ap, ◌∙◌, subst}
use Rattle.std.specs.Prelude.{All}
use Rattle.std.proofs.lemmas.Bool.{eq-eqb, ne_eqb}
use Rattle.std.proofs.lemmas.List.{take_more, reverse-append}
use Rattle.std.proofs.lemmas.List.Elements.{All-nil, All-cons}
use Rattle.apf_history.specs.declared.events.Event.{Event}
use Rattle.apf_model.specs.History.{request_of, queue_of, NamesRequests, NamesQueues}
use Rattle.apf_model.specs.Order.{status, makes}

requests_parts : (n : ℕ) (a b : List Event) → NamesRequests n (a ++ b) → NamesRequests n a × NamesRequests n b
requests_parts n [] b names = (tt, names)
requests_parts n (e ∷ a) b names = let parts = requests_parts n a b names.1 in ((names.0, parts.0), parts.1)

queues_parts : (n : ℕ) (a b : List Event) → NamesQueues n (a ++ b) → NamesQueues n a × NamesQueues n b
queues_parts n [] b names = (tt, names)
queues_parts n (e ∷ a) b names = let parts = queues_parts n a b names.1 in ((names.0, parts.0), parts.1)

pub all_requests : (n : ℕ) (log : List Event) → NamesRequests n (reverse log) → All (λ e. request_of e < n) log
all_requests n [] names = All-nil (λ e. request_of e < n)
all_requests n (e ∷ log) names =
    let parts = requests_parts n (reverse log) (e ∷ []) (subst (NamesRequests n) (reverse-append (e ∷ []) log) names) in
    All-cons (λ e. request_of e < n) e log parts.1.0 (all_requests n log parts.0)

pub all_queues : (n : ℕ) (log : List Event) → NamesQueues n (reverse log) → All (λ e. queue_of e < n) log
all_queues n [] names = All-nil (λ e. queue_of e < n)
all_queues n (e ∷ log) names =
    let parts = queues_parts n (reverse log) (e ∷ []) (subst (NamesQueues n) (reverse-append (e ∷ []) log) names) in
    All-cons (λ e. queue_of e < n) e log parts.1.0 (all_queues n log parts.0)

-- the newest event that names a request
pub status_here : (e : Event) (h : List Event) (r : ℕ) → request_of e ≡ r → status (e ∷ h) r ≡ makes e
status_here e h r s = ap (λ (b : Bool). cond b (makes e) (status h r)) (eq-eqb r (request_of e) (sym s))

pub status_else : (e : Event) (h : List Event) (r : ℕ) → request_of e ≢ r → status (e ∷ h) r ≡ status h r
status_else e h r ne = ap (λ (b : Bool). cond b (makes e) (status h r)) (ne_eqb r (request_of e) (λ s. ne (sym s)))

-- the history one event later
pub history_more : (log : List Event) (k : ℕ) (d : Event) → k < length log → reverse (take (k + 1) log) ≡ get_or log k d ∷ reverse (take k log)
history_more log k d l = ap (λ (xs : List Event). reverse xs) (take_more log k d l) ∙ reverse-append (take k log) (get_or log k d ∷ [])
