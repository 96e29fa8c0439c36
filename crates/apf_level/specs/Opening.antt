-- How a level begins.
use Rattle.std.specs.Prelude.{◌≡◌, List}
use Rattle.apf_model.specs.declared.response.Response.{Response}
use Rattle.apf_model.specs.declared.response.Response.TheVariants.{Queue, Reject}
use Rattle.apf_model.specs.declared.config.Config.{Config}
use Rattle.apf_model.specs.declared.config.Ask.{Ask}
use Rattle.apf_book.specs.declared.fault.BookFault.{BookFault}
use Rattle.apf_book.specs.declared.fault.BookFault.TheVariants.{NoMemory}
use Rattle.apf_book.specs.Opening.{AreSettings, IsFaultOf}

-- the first fault: with queues the book's, without them out of memory alone
abbrev pub FaultBy : Response → Config → List Ask → BookFault → Type 0
FaultBy Queue c asks fault = IsFaultOf c asks fault
FaultBy Reject c asks fault = fault ≡ NoMemory

-- with queues, the settings make a dealer and queues
abbrev pub SettledBy : Response → Config → List Ask → Type 0
SettledBy Queue c asks = AreSettings c asks
SettledBy Reject c asks = Unit {0}
