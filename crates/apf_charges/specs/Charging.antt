-- What the requests of a level are charged.
use Rattle.std.specs.Prelude.{ℕ, List, Option, Some, None, bytes_eq, codes, if◌then◌else◌}
use Rattle.apf_charges.specs.declared.charges.Charges.{Charges}
use Rattle.apf_charges.specs.declared.charges.Charges.TheVariants.{Time, Seats}
use Rattle.apf_charges.specs.declared.charges.ChargedBy.{ChargedBy}
use Rattle.apf_charges.specs.declared.charges.ChargedBy.TheVariants as by
use Rattle.apf_charges.specs.Table.{new_table, table_with, cost_of}

-- what a word of a command line names
abbrev pub named : List ℕ → Option ChargedBy
named word = if bytes_eq word (codes "time") then Some by.Time else if bytes_eq word (codes "seats") then Some by.Seats else None

-- nothing ran yet
abbrev pub opening_charges : ChargedBy → Charges
opening_charges by.Time = Time new_table
opening_charges by.Seats = Seats

-- the cost of a request that was given none
abbrev pub own_cost : Charges → ℕ → ℕ → ℕ
own_cost (Time table) flow width = cost_of table flow width
own_cost Seats flow width = width

-- the cost of a request: the one that it was given, or what is reckoned
abbrev pub cost_for : Charges → ℕ → ℕ → Option ℕ → ℕ
cost_for charges flow width (Some cost) = cost
cost_for charges flow width None = own_cost charges flow width

-- a request of the flow ran for t
abbrev pub charges_with : Charges → ℕ → ℕ → Charges
charges_with (Time table) flow t = Time (table_with table flow t)
charges_with Seats flow t = Seats

-- what a queue is said to have been charged for a request of this width and cost
abbrev pub charge_of : Charges → ℕ → ℕ → ℕ
charge_of (Time table) width cost = cost
charge_of Seats width cost = width
