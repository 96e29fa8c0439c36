-- What a stream is, as its contracts see it.
use Rattle.std.specs.Prelude.{◌≤◌, List, IfSome}
use Rattle.apf_words.specs.Limits.{max_width}
use Rattle.apf_charges.specs.declared.charges.Charges.{Charges}
use Rattle.apf_charges.specs.declared.charges.ChargedBy.{ChargedBy}
use Rattle.apf_charges.specs.declared.charges.ChargedBy.TheVariants.{Time, Seats}
use Rattle.apf_book.specs.declared.settling.Settling.{Settling}
use Rattle.apf_book.specs.declared.settling.Settling.TheVariants.{Told, Never}
use Rattle.apf_local.specs.declared.answer.Ask.{Ask}
use Rattle.apf_local.specs.Levels.{LocalView}
use Rattle.apf_times.specs.Courses.{AreInRange}
use Rattle.apf_calendar.specs.Guests.{SlotsView}
use Rattle.apf_stream.specs.declared.asked.Asked.{Asked}
use Rattle.apf_stream.specs.declared.asked.Hold.{Hold}
use Rattle.apf_stream.specs.declared.stream.Stream.{Stream}

-- a level, who is in its slots by the calendar, what is noted of these, and what requests are charged
pub record State : Type 0 where
  pub level : LocalView
  pub slots : SlotsView
  pub holds : List Hold
  pub charges : Charges

abbrev pub state_of : Stream → State
state_of s = record { level = s.level.level; slots = s.calendar; holds = s.holds.items; charges = s.charges }

-- each number that a request asks for is in its range
pub record IsAsked (a : Asked) : Type 0 where
  pub times : AreInRange a.times
  pub some_width : 1 ≤ a.width
  pub narrow : a.width ≤ max_width
  pub some_cost : IfSome a.cost (λ cost. 1 ≤ cost)

-- what the level is asked for a request
abbrev pub ask_of : Hold → Ask
ask_of h = record { width = h.asked.width; hash = h.asked.hash; cost = h.cost }

-- whether what requests take is settled, by what they are charged
abbrev pub settling_by : ChargedBy → Settling
settling_by Time = Told
settling_by Seats = Never
