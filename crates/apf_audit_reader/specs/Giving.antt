-- What a line gives, and how a request goes through the window.
use Rattle.std.specs.Prelude.{◌≡◌, ◌≢◌, ℕ, ◌-◌, ◌^◌, ◌<◌, List, [], ◌∷◌, ◌++◌, length, Bool, true, false, Option, Some, None, Ok, Err, ◌⊎◌}
use Rattle.apf_times.specs.declared.window.Arrival.{Arrival}
use Rattle.apf_times.specs.Windows.{IsPushed, WindowView, is_late}
use Rattle.apf_traces.specs.TraceFile.{Line}
use Rattle.apf_audit.specs.AuditEvent.{Event, event, event_in, IsInRangeIfChosen, IsOfLine}
use Rattle.apf_audit.specs.AuditLog.{is_cut_line, is_nameless_line, judged_line}
use Rattle.apf_audit.specs.Estimates.{AreEstimates, EstimatesView, run_read}
use Rattle.apf_audit.specs.declared.choice.Choice.{Choice}
use Rattle.apf_audit.specs.declared.event.Outcome.{Outcome}
use Rattle.apf_audit.specs.declared.event.Outcome.TheVariants.{Chosen, Unnamed, LeftOut, Unfinished}
use Rattle.apf_audit.specs.declared.event.Taken.{Taken}
use Rattle.apf_audit.specs.declared.fault.AuditFault.{AuditFault}
use Rattle.apf_audit.specs.declared.fault.AuditFault.TheVariants.{TooLate}
use Rattle.apf_audit_reader.specs.declared.given.Given.{Given}
use Rattle.apf_audit_reader.specs.Log.{with_run}
use Rattle.apf_audit_reader.specs.Places.{place_of, placed}

-- what left the window is handed out, with its run by these requests
abbrev pub AreHanded : List Event → Option (Arrival Taken) → Option Taken → Type 0
AreHanded events None None = Unit {0}
AreHanded events (Some x) (Some first) = event first ≡ with_run (run_read events (event x.item)) (event x.item)
AreHanded events None (Some first) = ⊥
AreHanded events (Some x) None = ⊥

-- whatever was read, what left the window is handed out
abbrev pub Hands : Option (Arrival Taken) → EstimatesView → Option Taken → EstimatesView → Type 0
Hands out old first new = (events : List Event) → AreEstimates events old → AreHanded events out first × AreEstimates events new

-- a request was not late, and was put into the window; its own run counts for what is handed out
pub record IsPut (taken : Taken) (old : WindowView Taken) (known : EstimatesView) (first : Option Taken) (new : WindowView Taken) (more : EstimatesView) : Type 0 where
  pub timely : is_late (place_of (event taken)) old.last ≡ false
  pub out : Option (Arrival Taken)
  pub pushed : IsPushed (placed taken) old out new
  pub size : new.size ≡ old.size
  pub hands : (events : List Event) → length events < 2 ^ 64 - 1 → AreEstimates events known
      → AreHanded (events ++ event taken ∷ []) out first × AreEstimates (events ++ event taken ∷ []) more

-- a request goes into the window, and else nothing changes
abbrev pub Moves : Outcome → WindowView Taken → EstimatesView → Option Taken → WindowView Taken → EstimatesView → Type 0
Moves (Chosen taken) old known first new more = IsPut taken old known first new more
Moves Unnamed old known first new more = (first ≡ None) × (new ≡ old) × (more ≡ known)
Moves LeftOut old known first new more = (first ≡ None) × (new ≡ old) × (more ≡ known)
Moves Unfinished old known first new more = (first ≡ None) × (new ≡ old) × (more ≡ known)

-- what the line of this number gives
pub record Gives (choice : Choice) (number : ℕ) (line : Line) (old : WindowView Taken) (known : EstimatesView) (given : Given) (new : WindowView Taken) (more : EstimatesView) : Type 0 where
  pub outcome : Outcome
  pub judged : judged_line choice number line ≡ Ok (event_in outcome)
  pub of_line : IsOfLine number outcome
  pub ranges : IsInRangeIfChosen outcome
  pub moves : Moves outcome old known given.first new more
  pub unnamed : is_nameless_line line.bytes ≡ given.is_unnamed
  pub unfinished : is_cut_line line ≡ given.is_unfinished

-- the request of a line comes too late
pub record IsLateLine (choice : Choice) (number : ℕ) (line : Line) (old : WindowView Taken) (fault : AuditFault) : Type 0 where
  pub taken : Taken
  pub judged : judged_line choice number line ≡ Ok (Some (event taken))
  pub late : is_late (place_of (event taken)) old.last ≡ true
  pub is : fault ≡ TooLate taken.line

-- the line of this number has this fault, or comes too late
abbrev pub IsRefusal : Choice → ℕ → Line → WindowView Taken → AuditFault → Type 0
IsRefusal choice number line old fault = (judged_line choice number line ≡ Err fault) ⊎ IsLateLine choice number line old fault
