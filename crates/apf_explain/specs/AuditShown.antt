-- What the fault of an audit log says of the line and the value that it is shown with.
use Rattle.std.specs.Prelude.{◌≡◌, ◌⊎◌, ℕ, ◌+◌, ◌-◌, ◌<◌, List, [], ◌∷◌, false, Option, Some, None, option_and_then, Ok, codes, length}
use Rattle.serde_json.specs.Data.{Data}
use Rattle.serde_json.specs.Find.{get}
use Rattle.apf_files.specs.JsonFile.{text_at, value_of}
use Rattle.apf_traces.specs.TraceFile.{Line}
use Rattle.apf_audit.specs.AuditEvent.{instant_at, wait_at, max_name, name_found}
use Rattle.apf_audit.specs.AuditFaults.{line_of}
use Rattle.apf_audit.specs.AuditLog.{is_unfinished, max_line}
use Rattle.apf_audit.specs.Times.{run_of}
use Rattle.apf_audit.specs.declared.fault.AuditFault.{AuditFault}
use Rattle.apf_audit.specs.declared.fault.AuditFault.TheVariants as audit
use Rattle.apf_explain.specs.declared.wanted.Wanted.{Wanted}
use Rattle.apf_explain.specs.declared.wanted.Wanted.TheVariants.{Name, Instant, Wait}
use Rattle.apf_explain.specs.Wanted.{is_wanted}
use Rattle.apf_explain.specs.TraceShown.{IsUnwantedIfThere}

-- a value stands there, and is none that may stand there
abbrev pub IsUnwantedThere : Wanted → Option Data → Type 0
IsUnwantedThere wanted None = ⊥
IsUnwantedThere wanted (Some d) = is_wanted wanted d ≡ false

-- the times and the wait of an event are there, and make a run that no trace can have
pub record IsRunShown (d : Data) : Type 0 where
  pub received : ℕ
  pub completed : ℕ
  pub wait : ℕ
  pub from : instant_at (codes "requestReceivedTimestamp") d ≡ Some received
  pub to : instant_at (codes "stageTimestamp") d ≡ Some completed
  pub waited : wait_at d ≡ Some wait
  pub no_run : run_of received completed wait ≡ None

-- what the fault of an event says of its value
abbrev pub IsEventShown : Data → AuditFault → Type 0
IsEventShown d (audit.NotEvent n) = (text_at (codes "stage") d ≡ None) ⊎ (text_at (codes "verb") d ≡ None)
IsEventShown d (audit.BadUser n) = IsUnwantedThere (Name max_name) (name_found d (get (codes "impersonatedUser") d))
IsEventShown d (audit.BadNamespace n) = IsUnwantedThere (Name max_name) (option_and_then (get (codes "namespace")) (get (codes "objectRef") d))
IsEventShown d (audit.BadReceived n) = IsUnwantedIfThere Instant (get (codes "requestReceivedTimestamp") d)
IsEventShown d (audit.BadStage n) = IsUnwantedIfThere Instant (get (codes "stageTimestamp") d)
IsEventShown d (audit.BadWait n) =
    IsUnwantedThere Wait (option_and_then (get (codes "apiserver.latency.k8s.io/apf-queue-wait")) (get (codes "annotations") d))
IsEventShown d (audit.BadRun n) = IsRunShown d
IsEventShown d fault = ⊥

-- what the fault of an audit log says of its line
abbrev pub IsEventLineShown : Line → AuditFault → Type 0
IsEventLineShown line (audit.TooLong n) = max_line < length line.bytes
IsEventLineShown line (audit.NotUtf8Json n) = (value_of line.bytes ≡ None) × (is_unfinished line ≡ false)
IsEventLineShown line fault = (d : Data) × (value_of line.bytes ≡ Some d) × IsEventShown d fault

-- the fault is of the line of this number, and the line has it
abbrev pub IsAuditShown : ℕ → Line → AuditFault → Type 0
IsAuditShown number line fault = (line_of fault ≡ Some number) × IsEventLineShown line fault
