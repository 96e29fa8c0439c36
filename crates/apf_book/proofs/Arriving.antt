-- What an arrival was told, after earlier steps of the call.
use Rattle.apf_words.specs.declared.decision.Decision.TheVariants.{QueueFull, Closed, Cancelled}
use Rattle.apf_gate.specs.declared.record.Knowledge.{Knowledge}
use Rattle.apf_gate.specs.declared.record.PassRecord.{PassRecord}
use Rattle.apf_gate.specs.Records.{KnowsMore}
use Rattle.apf_book.specs.declared.handing.Handed.{Handed}
use Rattle.apf_book.specs.declared.handing.Handed.TheVariants as handed
use Rattle.apf_book.specs.Arrivals.{IsRefused}
use Rattle.apf_book.proofs.Knowing.{told_then}

pub refused_then : (answer : Handed) (pass' : PassRecord) (a b c : Knowledge) → KnowsMore a b → IsRefused answer pass' b c → IsRefused answer pass' a c
refused_then handed.Entered pass' a b c more told = told
refused_then handed.Full pass' a b c more told = (told_then a b c pass'.number QueueFull more told.0, told.1)
refused_then handed.Closed pass' a b c more told = (told_then a b c pass'.number Closed more told.0, told.1)
refused_then handed.Cancelled pass' a b c more told = (told_then a b c pass'.number Cancelled more told.0, told.1)
refused_then handed.Raced pass' a b c more told = told
