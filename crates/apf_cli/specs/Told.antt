-- Lines on standard error that say of a file what is wrong with it.
use Rattle.std.specs.Prelude.{◌≡◌, ℕ, ⊤, List, [], ◌++◌, Some}
use Rattle.std.specs.Io.KnownBytes.{Appends}
use Rattle.apf_model.specs.declared.config.Config.{Config as Settings}
use Rattle.apf_flow.specs.declared.fault.DealerFault.{DealerFault}
use Rattle.apf_files.specs.declared.config.ConfigFault.{ConfigFault}
use Rattle.apf_files.specs.declared.requests.RequestFault.{RequestFault}
use Rattle.apf_files.specs.declared.script.ScriptFault.{ScriptFault}
use Rattle.apf_traces.specs.declared.fault.TraceFault.{TraceFault}
use Rattle.apf_audit.specs.declared.fault.AuditFault.{AuditFault}
use Rattle.apf_audit.specs.AuditFaults.{line_of}
use Rattle.apf_explain.specs.AuditLines.{known_line, IsPlacedEvent}
use Rattle.apf_explain.specs.Lines.{IsConfigLine, IsRequestsLine, dealer_text}
use Rattle.apf_explain.specs.ScriptTexts.{IsScriptLine}
use Rattle.apf_explain.specs.TraceLines.{IsTraceLine}
use Rattle.apf_cli.specs.Names.{shown_name}
use Rattle.apf_cli.specs.declared.faults.Fault.{Fault}
use Rattle.apf_cli.specs.declared.faults.Fault.TheVariants.{Dealer, Config, Requests, Script, Told, NoMemory}
use Rattle.apf_cli.specs.declared.faults.Sizes.TheVariants.{OfConfig}
use Rattle.apf_cli.specs.declared.reading.Explained.{Explained}

-- the fault has the whole line of the fault of an audit log's line, or memory was refused
abbrev pub IsAuditLineTold : List ℕ → AuditFault → Fault → Type 0
IsAuditLineTold bytes fault (Told line) = IsPlacedEvent (known_line fault bytes) fault (line_of fault) (Some []) (Some line.items)
IsAuditLineTold bytes fault NoMemory = ⊤
IsAuditLineTold bytes fault _ = ⊥

-- the fault has the whole line of a trace's fault, or memory was refused
abbrev pub IsTraceTold : List ℕ → TraceFault → Fault → Type 0
IsTraceTold bytes fault (Told line) = IsTraceLine bytes fault (Some []) (Some line.items)
IsTraceTold bytes fault NoMemory = ⊤
IsTraceTold bytes fault _ = ⊥

-- the fault is this one, and what is said of its line holds; or memory was refused, and there is no part of a line
abbrev pub IsToldWith : (own : Fault) → (holds : Type 0) → Fault → (line : List ℕ) → Type 0
IsToldWith own holds NoMemory line = line ≡ []
IsToldWith own holds told line = (told ≡ own) × holds

-- the fault of the config of this name, with the line that `explain` has of it
abbrev pub IsConfigExplained : (name bytes : List ℕ) → ConfigFault → Explained → Type 0
IsConfigExplained name bytes fault told =
    IsToldWith (Config fault) (IsConfigLine (shown_name name) bytes fault (Some []) (Some told.line.items)) told.fault told.line.items

-- the fault of the requests of this name, with the line that `explain` has of it
abbrev pub IsRequestsExplained : (name bytes : List ℕ) → RequestFault → Explained → Type 0
IsRequestsExplained name bytes fault told =
    IsToldWith (Requests fault) (IsRequestsLine (shown_name name) bytes fault (Some []) (Some told.line.items)) told.fault told.line.items

-- the fault of the script of this name, with the line that `explain` has of it
abbrev pub IsScriptExplained : (name bytes : List ℕ) → (requests : ℕ) → ScriptFault → Explained → Type 0
IsScriptExplained name bytes requests fault told =
    IsToldWith (Script fault) (IsScriptLine (shown_name name) bytes requests fault (Some []) (Some told.line.items)) told.fault told.line.items

-- the fault of the dealer of the config of this name, with the line that `explain` has of it
abbrev pub IsDealerExplained : (name : List ℕ) → Settings → DealerFault → Explained → Type 0
IsDealerExplained name config fault told =
    IsToldWith (Dealer fault OfConfig) (Appends (Some []) (Some told.line.items) (dealer_text (shown_name name) config.queues config.hand_size fault)) told.fault told.line.items

-- the fault is told with this line behind its own, or memory was refused
abbrev pub StandsBehind : List ℕ → Fault → Type 0
StandsBehind line (Told lines) = (own : List ℕ) × (lines.items ≡ own ++ line)
StandsBehind line NoMemory = ⊤
StandsBehind line _ = ⊥
