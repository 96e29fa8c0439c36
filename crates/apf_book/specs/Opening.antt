-- How a ledger begins.
use Rattle.std.specs.Prelude.{◌≡◌, ℕ, List, [], map, length, Some}
use Rattle.apf_flow.specs.Fault.{fault_of}
use Rattle.apf_flow.specs.Sizes.{IsDealable}
use Rattle.apf_queue.specs.View.{IsQueueShape}
use Rattle.apf_queue.specs.declared.fault.QueueFault.TheVariants as queue
use Rattle.apf_model.specs.declared.config.Config.{Config}
use Rattle.apf_model.specs.declared.config.Ask.{Ask}
use Rattle.apf_book.specs.declared.fault.BookFault.{BookFault}
use Rattle.apf_book.specs.declared.fault.BookFault.TheVariants.{Dealer, Queues, NoMemory}
use Rattle.apf_book.specs.LedgerView.{LedgerView}

-- nothing happened yet, and the dispatch of each request is charged this
abbrev pub opening_ledger_with : Config → List Ask → List ℕ → LedgerView
opening_ledger_with c asks costs =
    record {
      history = [];
      costs = costs;
      hashes = map (λ (a : Ask). a.hash) asks;
      sizes = record { deck = c.queues; hand = c.hand_size };
      limit = c.queue_length_limit;
    }

-- the same, where each is charged its width
abbrev pub opening_ledger : Config → List Ask → LedgerView
opening_ledger c asks = opening_ledger_with c asks (map (λ (a : Ask). a.width) asks)

-- the settings make a dealer and queues
abbrev pub AreSettings : Config → List Ask → Type 0
AreSettings c asks = IsDealable c.queues c.hand_size × IsQueueShape c.queues c.queue_length_limit (length asks)

-- the first fault: the dealer's, the queues', out of memory
abbrev pub IsFaultOf : Config → List Ask → BookFault → Type 0
IsFaultOf c asks (Dealer f) = fault_of c.queues c.hand_size ≡ Some f
IsFaultOf c asks (Queues f) = IsDealable c.queues c.hand_size × (f ≡ queue.BadShape) × (¬ IsQueueShape c.queues c.queue_length_limit (length asks))
IsFaultOf c asks NoMemory = AreSettings c asks
