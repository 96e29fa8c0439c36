-- What is said of a whole log is said of each of its beginnings, and what the Desk knew is a beginning of all steps.
use Rattle.std.proofs.Common.{◌≡◌, ℕ, ◌≤◌, List, [], ◌∷◌, ◌++◌, sym, ap, ◌∙◌, arith}
use Rattle.apf_history.specs.declared.events.LogEntry.{LogEntry}
use Rattle.apf_history.specs.declared.events.LogEntry.TheVariants.{Happens, Spends, Settles}
use Rattle.apf_model.specs.Charged.{AreMeasures, SpendsWithin, HaveSeats}
use Rattle.apf_model.specs.Schedule.{world, IsSchedule}
use Rattle.apf_model.specs.declared.moves.Move.{Move}
use Rattle.apf_gate.specs.declared.record.Actor.TheVariants.{OfDesk}
use Rattle.apf_gate.specs.declared.record.Entry.{Entry}
use Rattle.apf_gate.specs.declared.record.Shape.{Shape}
use Rattle.apf_gate.specs.Traces.{opening_of, moves, world_of, GoesOn}
use Rattle.apf_line.proofs.Placing.{moves_append}
use Rattle.apf_line.proofs.Stages.{largest_grows}

pub measures_earlier : (measure : ℕ → ℕ) (later l : List LogEntry) → AreMeasures measure (later ++ l) → AreMeasures measure l
measures_earlier measure [] l m = m
measures_earlier measure (Happens e ∷ later) l m = measures_earlier measure later l m
measures_earlier measure (Spends r q old new ∷ later) l m = measures_earlier measure later l m
measures_earlier measure (Settles r q old new ∷ later) l m = measures_earlier measure later l m.1

pub spends_earlier : (longest : ℕ) (wide : ℕ → ℕ) (later l : List LogEntry) → SpendsWithin longest wide (later ++ l) → SpendsWithin longest wide l
spends_earlier longest wide [] l m = m
spends_earlier longest wide (Happens e ∷ later) l m = spends_earlier longest wide later l m
spends_earlier longest wide (Spends r q old new ∷ later) l m = spends_earlier longest wide later l m.1
spends_earlier longest wide (Settles r q old new ∷ later) l m = spends_earlier longest wide later l m

pub seats_earlier : (seats : ℕ) (wide measure : ℕ → ℕ) (costs : List ℕ) (later l : List LogEntry) → HaveSeats seats wide measure costs (later ++ l) → HaveSeats seats wide measure costs l
seats_earlier seats wide measure costs [] l m = m
seats_earlier seats wide measure costs (x ∷ later) l m = seats_earlier seats wide measure costs later l m.1

-- the Desk's steps are a beginning of all, with no larger limit
module _ (shape : Shape) (trace known : List Entry) (on : GoesOn trace OfDesk known) where
  split : moves on.0 ++ moves known ≡ moves trace
  split = sym (moves_append on.0 known) ∙ ap moves on.1

  pub known_schedule : ((later earlier : List Move) → later ++ earlier ≡ moves trace → IsSchedule (opening_of shape) earlier) → IsSchedule (opening_of shape) (moves known)
  known_schedule beginnings = beginnings (moves on.0) (moves known) split

  pub known_largest : (most : ℕ) → (world_of shape trace).largest ≤ most → (world_of shape known).largest ≤ most
  known_largest most low =
      let grows = largest_grows (opening_of shape) (moves on.0) (moves known) in
      let all : (world (opening_of shape) (moves on.0 ++ moves known)).largest ≡ (world_of shape trace).largest = ap (λ (ms : List Move). (world (opening_of shape) ms).largest) split in
      omega arith
