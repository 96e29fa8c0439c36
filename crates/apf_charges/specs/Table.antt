-- The means of many flows, in a table of fixed size, and what it says of a flow's next request.
use Rattle.std.specs.Prelude.{ℕ, ◌*◌, ◌%◌, List, [], ◌∷◌, take, min, max, nat_eq, if◌then◌else◌, slice_index_or, slice_set, replicate, Option, Some, None}
use Rattle.apf_words.specs.Limits.{max_cost}
use Rattle.apf_charges.specs.declared.mean.Mean.{Mean}
use Rattle.apf_charges.specs.declared.known.Known.{Known}
use Rattle.apf_charges.specs.Mean.{no_mean, mean_with}

-- a flow stands in the set that its hash by this number says
abbrev pub set_count : ℕ
set_count = 512

-- how many flows a set has room for
abbrev pub set_room : ℕ
set_room = 8

-- the sets, each with the flow first of which a request ended last; and the mean of the requests by which a flow became known
pub record Table : Type 0 where
  pub sets : List (List Known)
  pub firsts : Mean

-- nothing ran
abbrev pub new_table : Table
new_table = record { sets = replicate set_count []; firsts = no_mean }

-- the flow at a place of a set
abbrev pub flow_at : List Known → ℕ → ℕ
flow_at set k = (slice_index_or set k (record { flow = 0; mean = no_mean })).flow

-- the mean of a flow in a set, if it is known
abbrev pub mean_in : ℕ → List Known → Option Mean
mean_in flow [] = None
mean_in flow (k ∷ ks) = if nat_eq k.flow flow then Some k.mean else mean_in flow ks

-- the others of a set
abbrev pub others : ℕ → List Known → List Known
others flow [] = []
others flow (k ∷ ks) = if nat_eq k.flow flow then ks else k ∷ others flow ks

-- this mean, or that of none
abbrev pub or_none : Option Mean → Mean
or_none None = no_mean
or_none (Some mean) = mean

-- the set when a request of the flow ran for t: the flow comes first, and where there is no room the last one goes
abbrev pub learned : ℕ → ℕ → List Known → List Known
learned flow t set = take set_room (record { flow = flow; mean = mean_with (or_none (mean_in flow set)) t } ∷ others flow set)

-- the set of a flow
abbrev pub set_of : Table → ℕ → List Known
set_of table flow = slice_index_or table.sets (flow % set_count) []

-- the mean of the first requests, with one more if its flow was not known
abbrev pub firsts_with : Option Mean → ℕ → Mean → Mean
firsts_with None t firsts = mean_with firsts t
firsts_with (Some mean) t firsts = firsts

-- the table when a request of the flow ran for t
unfoldable pub table_with : Table → ℕ → ℕ → Table
table_with table flow t = record {
  sets = slice_set table.sets (flow % set_count) (learned flow t (set_of table flow));
  firsts = firsts_with (mean_in flow (set_of table flow)) t table.firsts;
}

-- what a request is expected to run if nothing ran yet, in microseconds
abbrev pub first_guess : ℕ
first_guess = 10000

-- what a request of an unknown flow is expected to run: the mean of the first requests, or the guess if there were none
abbrev pub guess : Mean → ℕ
guess firsts = if nat_eq firsts.count 0 then first_guess else firsts.micros

-- what the next request of a flow is expected to run
abbrev pub expected_by : Option Mean → Mean → ℕ
expected_by (Some mean) firsts = mean.micros
expected_by None firsts = guess firsts

-- what the next request of a flow is charged at its dispatch, in microseconds of a seat: its width times what it is expected to run
unfoldable pub cost_of : Table → ℕ → ℕ → ℕ
cost_of table flow width = max 1 (min max_cost (width * expected_by (mean_in flow (set_of table flow)) table.firsts))
