-- A fault that a reading has.
use Rattle.std.proofs.Common.{◌≡◌, Result, Err}
use Rattle.apf_request_lines.specs.declared.fault.RequestLineFault.{RequestLineFault}
use Rattle.apf_request_lines.specs.declared.fault.RequestLineFault.TheVariants.{NoMemory, Unended, NotOfKind, TooLong}
use Rattle.apf_request_lines.specs.Faults.{Fails}

pub fails : {Y : Type 0} (fault : RequestLineFault) (reading : Result Y RequestLineFault) → reading ≡ Err fault → Fails fault reading
fails NoMemory reading is = tt
fails Unended reading is = is
fails (NotOfKind key) reading is = is
fails TooLong reading is = is
