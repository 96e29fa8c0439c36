-- What the words of a gate say at any moment, and what its tokens know.
use Rattle.std.specs.Prelude.{◌≡◌, ℕ, ◌+◌, ◌<◌, List, length, slice_index}
use mathlib.Core.Option.{some}
use lib.ListN.{get_elem?}
use Rattle.apf_words.specs.Codes.{marked}
use Rattle.apf_words.specs.Level.{packed}
use Rattle.apf_model.specs.Schedule.{IsSchedule}
use Rattle.apf_gate.specs.declared.record.Shape.{Shape}
use Rattle.apf_gate.specs.declared.record.Actor.TheVariants.{OfPass, OfDesk, OfStation}
use Rattle.apf_gate.specs.declared.record.Entry.{Entry}
use Rattle.apf_gate.specs.declared.record.Record.{Record}
use Rattle.apf_gate.specs.declared.record.Record.TheVariants.{Pass, Desk, Station}
use Rattle.apf_gate.specs.Account.{IsKnown}
use Rattle.apf_gate.specs.Records.{level_of}
use Rattle.apf_gate.specs.Rule.{Every}
use Rattle.apf_gate.specs.Slots.{mark_of}
use Rattle.apf_gate.specs.Traces.{opening_of, moves, world_of, AreMade}
use Rattle.atomic_table.specs.Table.{State}

-- what this token knows is so after these steps
abbrev pub KnowsTruly : Shape → List Entry → Record → Type 0
KnowsTruly s trace (Pass p) = IsKnown s (OfPass p.number) p.knows trace
KnowsTruly s trace (Desk d) = IsKnown s OfDesk d.knows trace
KnowsTruly s trace (Station t) = IsKnown s (OfStation t.number) t.knows trace

-- one trace of steps explains the words and what every token knows
pub record IsExplained (s : Shape) (t : State (Unit {0}) (List Record)) : Type 0 where
  pub trace : List Entry
  -- its moves are a schedule, and each step is of a kind that its maker makes
  pub schedule : IsSchedule (opening_of s) (moves trace)
  pub made : AreMade s trace
  -- the words: the level word, then the word of each slot, which has the mark and the decision of the request that holds it
  pub count : length t.words ≡ s.slots + 1
  pub level : slice_index t.words 0 ≡ packed (level_of s.widths (world_of s trace))
  pub holder : ℕ → ℕ
  pub decisions : (i : ℕ) → i < s.slots → slice_index t.words (i + 1) ≡ marked (mark_of (holder i)) ((world_of s trace).decision (holder i))
  -- each token, at whichever place it is kept
  pub tokens : (i : ℕ) (records : List Record) → get_elem? t.views i ≡ some records → Every (KnowsTruly s trace) records
