-- The workers of a run, or of a run in rounds, that were started.
use Rattle.std.specs.Prelude.{ℕ, ◌+◌, ◌<◌, List, [], ◌∷◌}
use Rattle.std.specs.declared.thread.PromisedHandle.{PromisedHandle}
use Rattle.apf_run.specs.declared.crew.Share.{Share}
use Rattle.apf_run.specs.declared.fault.RunFault.{RunFault}
use Rattle.apf_run.specs.declared.fault.RunFault.TheVariants.{NoMemory, Worker, Gate, Level}

-- how many requests they bring to their ends, or slots they give back
abbrev pub expected : {T : Type 0} → List (PromisedHandle T Share) → ℕ
expected {T} [] = 0
expected {T} (h ∷ hs) = h.promise.count + expected hs

-- what keeps this many workers from their ends: one of them could not be started, or memory was refused
abbrev pub IsCrewFault : ℕ → RunFault → Type 0
IsCrewFault workers (Worker k) = k < workers
IsCrewFault workers NoMemory = Unit {0}
IsCrewFault workers (Gate fault) = ⊥
IsCrewFault workers (Level fault) = ⊥
