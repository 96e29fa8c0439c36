-- A whole trace that ran on a level.
use Rattle.std.specs.Prelude.{◌≡◌, ℕ, List, [], unwrap_or, Option}
use Rattle.std.specs.Option.{option_to_list}
use Rattle.std.specs.Io.KnownBytes.{Consumes, IsAtEnd}
use Rattle.apf_charges.specs.declared.charges.ChargedBy.{ChargedBy}
use Rattle.apf_model.specs.declared.config.Config.{Config}
use Rattle.apf_stream.specs.States.{State}
use Rattle.apf_times.specs.declared.window.Arrival.{Arrival}
use Rattle.apf_traces.specs.declared.request.TraceRequest.{TraceRequest}
use Rattle.apf_trace_reader.specs.Reading.{AreAll, HasRead}
use Rattle.apf_trace_reader.specs.Views.{ReaderView, all_lines}
use Rattle.apf_simulator.specs.Lanes.{IsLane, IsOpening, LaneView, slots_for, usual_charge}
use Rattle.apf_simulator.specs.Feeds.{IsOver}
use Rattle.apf_simulator.specs.Turns.{AreTurns, Turn, came_by, first_of}

-- What requests are charged: this, or where nothing is said what they usually are, by what was read when this one, the first, was handed out.
pub record IsCharge (by : Option ChargedBy) (was : Option (List ℕ)) (first : Option (Arrival TraceRequest)) (charged : ChargedBy) : Type 0 where
  pub front : List ℕ
  pub left : Option (List ℕ)
  pub given : Consumes was left front
  pub reader : ReaderView
  pub read : HasRead front (option_to_list first) left reader
  pub is : charged ≡ unwrap_or by (usual_charge reader.has_cost)

-- How many slots a level has: by whether the whole input was read when this one, the first, was handed out, and by how many requests there are then.
pub record HasSlots (was : Option (List ℕ)) (first : Option (Arrival TraceRequest)) (slots : ℕ) : Type 0 where
  pub front : List ℕ
  pub left : Option (List ℕ)
  pub given : Consumes was left front
  pub reader : ReaderView
  pub read : HasRead front (option_to_list first) left reader
  pub is : slots ≡ slots_for (all_lines reader.stage reader.number)

-- from a level of this config with this many slots, to which nobody came, the lane went on by these turns until nothing was due, and each that came was told
pub record HasGone (config : Config) (slots patience : ℕ) (charged : ChargedBy) (turns : List Turn) (v : LaneView) : Type 0 where
  pub opening : State
  pub opened : IsOpening config slots patience charged opening
  pub start : LaneView
  pub nobody : IsLane opening [] [] start
  pub turns_are : AreTurns turns start v
  pub is_over : IsOver v

-- the whole input was read, and all of its requests ran in these turns, in their one order
pub record HasRunAll (config : Config) (patience : ℕ) (by : Option ChargedBy) (size : ℕ) (was left : Option (List ℕ)) (turns : List Turn) (v : LaneView) : Type 0 where
  pub bytes : List ℕ
  pub given : Consumes was left bytes
  pub all : AreAll size bytes (came_by turns)
  pub ended : IsAtEnd left
  pub charged : ChargedBy
  pub charge : IsCharge by was (first_of (came_by turns)) charged
  pub slots : ℕ
  pub slots_are : HasSlots was (first_of (came_by turns)) slots
  pub gone : HasGone config slots patience charged turns v

-- the same, in turns of which this was heard
pub record HasBeenHeard (config : Config) (patience : ℕ) (by : Option ChargedBy) (size : ℕ) (was left : Option (List ℕ)) (v : LaneView) (heard : List Turn → Type 0) : Type 0 where
  pub turns : List Turn
  pub ran : HasRunAll config patience by size was left turns v
  pub heard_them : heard turns

-- the same, and this is when the last request was over
pub record HasBeenHeardTo (end : ℕ) (config : Config) (patience : ℕ) (by : Option ChargedBy) (size : ℕ) (was left : Option (List ℕ)) (heard : List Turn → Type 0) : Type 0 where
  pub lane : LaneView
  pub been : HasBeenHeard config patience by size was left lane heard
  pub last : end ≡ lane.rows.all.sums.last

-- the same requests ran on another level with this many slots, in these turns
pub record HasRunToo (config : Config) (slots patience : ℕ) (charged : ChargedBy) (came : List (Arrival TraceRequest)) (turns : List Turn) (v : LaneView) : Type 0 where
  pub same : came_by turns ≡ came
  pub gone : HasGone config slots patience charged turns v
