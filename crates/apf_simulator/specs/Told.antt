-- What the commands on a simulation print.
use Rattle.std.specs.Prelude.{◌≡◌, ℕ, Bool, true, false, List, ◌++◌, Option, Some, None}
use Rattle.std.specs.Io.KnownBytes.{Appends}
use Rattle.apf_charges.specs.declared.charges.ChargedBy.{ChargedBy}
use Rattle.apf_model.specs.declared.config.Config.{Config}
use Rattle.apf_bound.specs.declared.bound.Sides.{Sides}
use Rattle.apf_line.specs.declared.report.Report.{Report}
use Rattle.apf_local.specs.Levels.{EndsFrom, LocalView}
use Rattle.apf_rows.specs.Comparisons.{IsOrder, comparison_text}
use Rattle.apf_rows.specs.Tables.{IsTable}
use Rattle.apf_rows.specs.declared.comparison.Place.{Place}
use Rattle.apf_rows.specs.Texts.{table_text}
use Rattle.apf_rows.specs.declared.table.Table.{Table}
use Rattle.apf_texts.specs.Texts.{totals_text}
use Rattle.apf_simulator.specs.Books.{AreOfBook, book_of, sides_text}
use Rattle.apf_simulator.specs.Calls.{calls_by, script_text}
use Rattle.apf_simulator.specs.Hearing.{AllTold, AreListed}
use Rattle.apf_stream.specs.States.{State}
use Rattle.apf_stream.specs.declared.deed.NewLimit.{NewLimit}
use Rattle.apf_stream.specs.declared.ended.Ended.{Ended}
use Rattle.apf_times.specs.declared.window.Arrival.{Arrival}
use Rattle.apf_traces.specs.declared.request.TraceRequest.{TraceRequest}
use Rattle.apf_simulator.specs.Lanes.{IsLaneUnder, LaneView}
use Rattle.apf_simulator.specs.Runs.{HasRunAll, HasRunToo}
use Rattle.apf_simulator.specs.Turns.{Turn, came_by, told_by}
use Rattle.apf_watched.specs.Followed.{AreSidesIn}
use Rattle.apf_simulator.specs.declared.held.TimeWindow.{TimeWindow}
use Rattle.apf_simulator.specs.declared.listed.Listed.{Listed}

-- the whole trace ran, and the fate of each request was told
pub record HasToldFates (config : Config) (patience : ℕ) (by : Option ChargedBy) (size : ℕ) (was left before after : Option (List ℕ)) : Type 0 where
  pub turns : List Turn
  pub lane : LaneView
  pub ran : HasRunAll config patience by size was left turns lane
  pub told : AllTold before after turns

-- the whole trace ran, and the script of the calls was written
pub record HasToldCalls (config : Config) (patience : ℕ) (by : Option ChargedBy) (size : ℕ) (was left before after : Option (List ℕ)) : Type 0 where
  pub turns : List Turn
  pub lane : LaneView
  pub ran : HasRunAll config patience by size was left turns lane
  pub written : Appends before after (script_text (calls_by turns))

-- the whole trace ran, and these are its requests that were there in the window, each with what became of it, and the time when the last of all was over
pub record HasListed (window : TimeWindow) (config : Config) (patience : ℕ) (by : Option ChargedBy) (size : ℕ) (was left : Option (List ℕ)) (l : Listed) : Type 0 where
  pub turns : List Turn
  pub lane : LaneView
  pub ran : HasRunAll config patience by size was left turns lane
  pub listed : AreListed window (came_by turns) (told_by turns) l
  pub end : l.end ≡ lane.rows.all.sums.last

-- both sides of the bound are printed exactly if they are asked for: those of a log of the level
abbrev pub AreAskedFor : Bool → LocalView → Option Sides → Type 0
AreAskedFor true l None = ⊥
AreAskedFor true l (Some s) = AreSidesIn l s
AreAskedFor false l sides = sides ≡ None

-- A lane's level has ended. What its flows came to was printed, and the book of the level, and both sides of the bound, if they were asked for
pub record IsPrinted (limit patience : ℕ) (has_bound : Bool) (lane : LaneView) (before after : Option (List ℕ)) : Type 0 where
  pub table : Table
  pub of_all : (under : List NewLimit) (opening : State) (came : List (Arrival TraceRequest)) (told : List Ended) → IsLaneUnder under opening came told lane → IsTable came told table
  pub report : Report
  pub ended : EndsFrom lane.state.level report
  pub of_book : AreOfBook table.all.sums report.words.counts
  pub sides : Option Sides
  pub asked : AreAskedFor has_bound lane.state.level sides
  pub written : Appends before after ((table_text limit patience table ++ totals_text (book_of report)) ++ sides_text sides)

-- The whole trace ran; what its flows came to was printed, and the book of the level, which ended; and both sides of the bound, if they were asked for
pub record HasSimulated (config : Config) (patience : ℕ) (by : Option ChargedBy) (has_bound : Bool) (size : ℕ) (was left before after : Option (List ℕ)) : Type 0 where
  pub turns : List Turn
  pub lane : LaneView
  pub ran : HasRunAll config patience by size was left turns lane
  pub table : Table
  pub of_all : IsTable (came_by turns) (told_by turns) table
  pub report : Report
  pub ended : EndsFrom lane.state.level report
  pub of_book : AreOfBook table.all.sums report.words.counts
  pub sides : Option Sides
  pub asked : AreAskedFor has_bound lane.state.level sides
  pub written : Appends before after ((table_text config.limit patience table ++ totals_text (book_of report)) ++ sides_text sides)

-- a level ended, and these are the numbers of its book
pub record EndsWith (lane : LaneView) (t : Table) : Type 0 where
  pub report : Report
  pub ended : EndsFrom lane.state.level report
  pub of_book : AreOfBook t.all.sums report.words.counts

-- the requests that ran on a lane, and what its flows came to
pub record IsTableOf (lane : LaneView) (t : Table) : Type 0 where
  pub of_all : (under : List NewLimit) (opening : State) (came : List (Arrival TraceRequest)) (told : List Ended) → IsLaneUnder under opening came told lane → IsTable came told t
  pub ends : EndsWith lane t

-- what the flows of two lanes came to was printed side by side
pub record ArePrinted (one other : LaneView) (before after : Option (List ℕ)) : Type 0 where
  pub table : Table
  pub table_is : IsTableOf one table
  pub other_table : Table
  pub other_is : IsTableOf other other_table
  pub order : List Place
  pub ordered : IsOrder table.lines.items other_table.lines.items order
  pub written : Appends before after (comparison_text table other_table order)

-- The whole trace ran on both levels, its requests charged alike; and what its flows came to on each was printed, side by side
pub record HaveCompared (config other_config : Config) (patience : ℕ) (by : Option ChargedBy) (size : ℕ) (was left before after : Option (List ℕ)) : Type 0 where
  pub turns : List Turn
  pub lane : LaneView
  pub ran : HasRunAll config patience by size was left turns lane
  pub other_turns : List Turn
  pub other : LaneView
  pub other_ran : HasRunToo other_config ran.slots patience ran.charged (came_by turns) other_turns other
  pub table : Table
  pub of_all : IsTable (came_by turns) (told_by turns) table
  pub ends : EndsWith lane table
  pub other_table : Table
  pub other_of_all : IsTable (came_by turns) (told_by other_turns) other_table
  pub other_ends : EndsWith other other_table
  pub order : List Place
  pub ordered : IsOrder table.lines.items other_table.lines.items order
  pub written : Appends before after (comparison_text table other_table order)
