-- The numbers of a level in the text format of Prometheus, by the names of kube-apiserver.
use Rattle.std.specs.Prelude.{ℕ, List, ◌++◌, codes, decimal}
use Rattle.apf_words.specs.declared.decision.Decision.TheVariants.{QueueFull, ConcurrencyLimit, Closed, Cancelled}
use Rattle.apf_texts.specs.Texts.{decision_name}
use Rattle.apf_service.specs.declared.metrics.Family.{Family}
use Rattle.apf_service.specs.declared.metrics.Family.TheVariants.{Waiting, Executing, Seats, Limit, Dispatched, Rejected}
use Rattle.apf_service.specs.declared.tally.Tally.{Tally}

-- the name of a family of numbers
abbrev pub family_name : Family → List ℕ
family_name Waiting = codes "apiserver_flowcontrol_current_inqueue_requests"
family_name Executing = codes "apiserver_flowcontrol_current_executing_requests"
family_name Seats = codes "apiserver_flowcontrol_current_executing_seats"
family_name Limit = codes "apiserver_flowcontrol_current_limit_seats"
family_name Dispatched = codes "apiserver_flowcontrol_dispatched_requests_total"
family_name Rejected = codes "apiserver_flowcontrol_rejected_requests_total"

-- what it stands for
abbrev pub family_help : Family → List ℕ
family_help Waiting = codes "Requests that wait in the queues of the priority level."
family_help Executing = codes "Requests that execute."
family_help Seats = codes "Seats of the requests that execute."
family_help Limit = codes "Seats that the priority level may give."
family_help Dispatched = codes "Requests that executed."
family_help Rejected = codes "Requests that were rejected or cancelled."

-- its type: a counter never falls
abbrev pub family_type : Family → List ℕ
family_type Dispatched = codes "counter"
family_type Rejected = codes "counter"
family_type family = codes "gauge"

-- what a family stands for, and its type
unfoldable pub head_text : Family → List ℕ
head_text family =
    codes "# HELP " ++ (family_name family ++ (codes " " ++ (family_help family ++ (codes "\n# TYPE " ++ (family_name family ++ (codes " " ++ (family_type family ++ codes "\n")))))))

-- its number, of the level of this name
unfoldable pub sample_text : Family → (level : List ℕ) → ℕ → List ℕ
sample_text family level value = family_name family ++ (codes "{priority_level=\"" ++ (level ++ (codes "\"} " ++ (decimal value ++ codes "\n"))))

-- a family with its one number
unfoldable pub family_text : Family → (level : List ℕ) → ℕ → List ℕ
family_text family level value = head_text family ++ sample_text family level value

-- how many were rejected for this reason
unfoldable pub rejected_text : (level reason : List ℕ) → ℕ → List ℕ
rejected_text level reason value =
    codes "apiserver_flowcontrol_rejected_requests_total{priority_level=\"" ++ (level ++ (codes "\",reason=\"" ++ (reason ++ (codes "\"} " ++ (decimal value ++ codes "\n")))))

-- those who wait, those who execute, their seats and the limit
unfoldable pub gauges_text : (level : List ℕ) → (limit : ℕ) → Tally → List ℕ
gauges_text level limit t =
    family_text Waiting level t.waiting ++ (family_text Executing level t.running ++ (family_text Seats level t.seats ++ family_text Limit level limit))

-- those who were rejected, by the reason
unfoldable pub rejections_text : (level : List ℕ) → Tally → List ℕ
rejections_text level t =
    rejected_text level (decision_name QueueFull) t.counts.queue_full
    ++ (rejected_text level (decision_name ConcurrencyLimit) t.counts.concurrency_limit
    ++ (rejected_text level (decision_name Closed) t.counts.closed ++ rejected_text level (decision_name Cancelled) t.counts.cancelled))

-- the line behind all
unfoldable pub end_text : List ℕ
end_text = codes "# EOF\n"

-- all of it
unfoldable pub metrics_text : (level : List ℕ) → (limit : ℕ) → Tally → List ℕ
metrics_text level limit t =
    gauges_text level limit t ++ (family_text Dispatched level t.counts.executed ++ (head_text Rejected ++ (rejections_text level t ++ end_text)))
