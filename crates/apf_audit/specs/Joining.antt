-- What the server's own log says of a request besides.
use Rattle.std.specs.Prelude.{ℕ, Bool, true, false, Option, Some, None}
use Rattle.apf_audit.specs.AuditEvent.{Event}

-- how long a request ran: as the server's own log says, if that is said and it was not turned away, and else as before
abbrev pub joined_run : (turned_away : Bool) → (runs_for : ℕ) → Option ℕ → ℕ
joined_run true runs_for said = runs_for
joined_run false runs_for None = runs_for
joined_run false runs_for (Some said) = said

-- the request with what the server's own log says of it: its width, and its run where that is said
abbrev pub joined : Event → (width : ℕ) → Option ℕ → Event
joined e width said = record e { runs_for = joined_run e.turned_away e.runs_for said; width = width }
