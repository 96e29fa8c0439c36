-- What the faults of queues are called.
use Rattle.std.specs.Prelude.{ℕ, List, codes}
use Rattle.apf_queue.specs.declared.fault.QueueFault.{QueueFault}
use Rattle.apf_queue.specs.declared.fault.QueueFault.TheVariants.{BadShape, NoMemory}

-- the number of a fault; 2 is unused
abbrev pub queue_fault_number : QueueFault → ℕ
queue_fault_number BadShape = 1
queue_fault_number NoMemory = 3

-- the text of a fault
abbrev pub queue_fault_text : QueueFault → List ℕ
queue_fault_text BadShape = codes "bad shape"
queue_fault_text NoMemory = codes "out of memory"
