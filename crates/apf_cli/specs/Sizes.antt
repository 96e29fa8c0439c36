-- How large the files may be.
use Rattle.std.specs.Prelude.{ℕ}
use Rattle.apf_cli.specs.declared.files.Input.{Input}
use Rattle.apf_cli.specs.declared.files.Input.TheVariants.{Config, Requests, Script, Trace, AuditLog, Objects, ServerLog}

-- the most bytes that a file may have
abbrev pub most_bytes : Input → ℕ
most_bytes Config = 65536
most_bytes Requests = 16777216
most_bytes Script = 2097152
most_bytes Trace = 67108864
most_bytes AuditLog = 67108864
most_bytes Objects = 8388608
most_bytes ServerLog = 67108864
