-- The times of arrivals from the first on.
use Rattle.std.specs.Prelude.{ℕ, ◌-◌, nat_le, if◌then◌else◌, Result, Ok, Err}
use Rattle.apf_times.specs.Limits.{max_arrival}
use Rattle.apf_audit.specs.declared.fault.AuditFault.{AuditFault}
use Rattle.apf_audit.specs.declared.fault.AuditFault.TheVariants.{BadArrival}

-- how long after the first the request of this line was received, or the fault that it arrives too late
abbrev pub arrives_at : (received line start : ℕ) → Result ℕ AuditFault
arrives_at received line start = if nat_le (received - start) max_arrival then Ok (received - start) else Err (BadArrival line (received - start))
