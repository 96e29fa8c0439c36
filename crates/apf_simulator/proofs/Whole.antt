-- A whole trace that ran.
use Rattle.std.proofs.Common.{◌≡◌, ℕ, Bool, List, [], Option, Some, None, refl, sym, ◌∙◌, subst}
use Rattle.std.specs.Prelude.{IfSome}
use Rattle.std.specs.Io.KnownBytes.{Appends, Keeps}
use Rattle.std.proofs.KnownBytes.{Appends-trans}
use Rattle.std.proofs.lemmas.List.{append-nil}
use Rattle.apf_charges.specs.declared.charges.ChargedBy.{ChargedBy}
use Rattle.apf_model.specs.declared.config.Config.{Config}
use Rattle.apf_times.specs.declared.window.Arrival.{Arrival}
use Rattle.apf_traces.specs.declared.request.TraceRequest.{TraceRequest}
use Rattle.apf_rows.specs.Tables.{IsTable}
use Rattle.apf_trace_reader.specs.Reading.{AreAll}
use Rattle.apf_trace_reader.specs.Views.{ReaderView}
use Rattle.apf_simulator.specs.Feeds.{HaveGone, IsOver}
use Rattle.apf_simulator.specs.Lanes.{IsLane, IsOpening, LaneView}
use Rattle.apf_simulator.specs.Runs.{HasBeenHeard, HasSlots, IsCharge}
use Rattle.apf_simulator.specs.Told.{ArePrinted, HasSimulated, HaveCompared, IsPrinted}
use Rattle.apf_simulator.specs.Turns.{Begins, Turn, came_by, told_by}
use Rattle.apf_simulator.proofs.Going.{first_came, lane_by}

abbrev pub Came : Type 0
Came = Arrival TraceRequest

-- the same bytes, with nothing behind them
kept : (a b : Option (List ℕ)) → Keeps a b → Appends a b []
kept None b k = tt
kept (Some xs) None k = absurd k
kept (Some xs) (Some ys) k = k ∙ sym (append-nil xs)

pub kept_then : (a b c : Option (List ℕ)) (text : List ℕ) → Keeps a b → Appends b c text → Appends a c text
kept_then a b c text k is = Appends-trans a b c [] text (kept a b k) is

-- from an opening lane, by what came, to the end
pub heard_all : (config : Config) (slots patience : ℕ) (by : Option ChargedBy) (charged : ChargedBy) (first : Option Came) (size : ℕ) (was left : Option (List ℕ)) (start lane : LaneView) (v : ReaderView) (heard : List Turn → Type 0)
    → IsOpening config slots patience charged start.state → IsLane start.state [] [] start → IsCharge by was first charged → HasSlots was first slots → IsOver lane → v.window.size ≡ size
    → HaveGone was left None v start None lane None (λ turns. heard turns × Begins first turns None) → HasBeenHeard config patience by size was left lane heard
heard_all config slots patience by charged first size was left start lane v heard opened nobody charge slots_are over same g =
    let all = g.fed.all refl in record {
      turns = g.turns;
      ran = record {
        bytes = g.fed.bytes;
        given = g.fed.given;
        all = subst (λ (n : ℕ). AreAll n g.fed.bytes (came_by g.turns)) same all.0;
        ended = all.1;
        charged = charged;
        charge = subst (λ (f : Option Came). IsCharge by was f charged) (first_came first g.turns g.heard_them.1) charge;
        slots = slots;
        slots_are = subst (λ (f : Option Came). HasSlots was f slots) (first_came first g.turns g.heard_them.1) slots_are;
        gone = record { opening = start.state; opened = opened; start = start; nobody = nobody; turns_are = g.lanes; is_over = over };
      };
      heard_them = g.heard_them.0;
    }

-- it ran, and what it came to was printed
pub simulated : (config : Config) (patience : ℕ) (by : Option ChargedBy) (has_bound : Bool) (size : ℕ) (was left before mid after : Option (List ℕ)) (lane : LaneView)
    → HasBeenHeard config patience by size was left lane (λ turns. Keeps before mid) → IsPrinted config.limit patience has_bound lane mid after → HasSimulated config patience by has_bound size was left before after
simulated config patience by has_bound size was left before mid after lane h p =
    let gone = h.ran.gone in record {
      turns = h.turns;
      lane = lane;
      ran = h.ran;
      table = p.table;
      of_all = p.of_all [] gone.opening (came_by h.turns) (told_by h.turns) (lane_by h.turns gone.opening [] [] gone.start lane gone.turns_are gone.nobody);
      report = p.report;
      ended = p.ended;
      of_book = p.of_book;
      sides = p.sides;
      asked = p.asked;
      written = kept_then before mid after _ h.heard_them p.written;
    }

-- both ran, and what they came to was printed
pub compared : (config other_config : Config) (slots patience : ℕ) (by : Option ChargedBy) (charged : ChargedBy) (first : Option Came) (size : ℕ) (was left before mid after : Option (List ℕ)) (start : LaneView) (other_start : Option LaneView) (one other : LaneView) (v : ReaderView)
    → IsOpening config slots patience charged start.state × IsLane start.state [] [] start → IfSome other_start (λ o. IsOpening other_config slots patience charged o.state × IsLane o.state [] [] o)
    → IsCharge by was first charged → HasSlots was first slots → IsOver one × IsOver other → v.window.size ≡ size
    → HaveGone was left None v start other_start one (Some other) (λ turns. Keeps before mid × Begins first turns None) → ArePrinted one other mid after → HaveCompared config other_config patience by size was left before after
compared config other_config slots patience by charged first size was left before mid after start None one other v opened other_opened charge slots_are over same g p = absurd g.lanes
compared config other_config slots patience by charged first size was left before mid after start (Some o) one other v opened other_opened charge slots_are over same g p =
    let all = g.fed.all refl in
    let too = g.lanes.1 in record {
      turns = g.turns;
      lane = one;
      ran = record {
        bytes = g.fed.bytes;
        given = g.fed.given;
        all = subst (λ (n : ℕ). AreAll n g.fed.bytes (came_by g.turns)) same all.0;
        ended = all.1;
        charged = charged;
        charge = subst (λ (f : Option Came). IsCharge by was f charged) (first_came first g.turns g.heard_them.1) charge;
        slots = slots;
        slots_are = subst (λ (f : Option Came). HasSlots was f slots) (first_came first g.turns g.heard_them.1) slots_are;
        gone = record { opening = start.state; opened = opened.0; start = start; nobody = opened.1; turns_are = g.lanes.0; is_over = over.0 };
      };
      other_turns = too.0;
      other = other;
      other_ran = record {
        same = too.1;
        gone = record { opening = o.state; opened = other_opened.0; start = o; nobody = other_opened.1; turns_are = too.2; is_over = over.1 };
      };
      table = p.table;
      of_all = p.table_is.of_all [] start.state (came_by g.turns) (told_by g.turns) (lane_by g.turns start.state [] [] start one g.lanes.0 opened.1);
      ends = p.table_is.ends;
      other_table = p.other_table;
      other_of_all = subst (λ (l : List Came). IsTable l (told_by too.0) p.other_table) too.1 (p.other_is.of_all [] o.state (came_by too.0) (told_by too.0) (lane_by too.0 o.state [] [] o other too.2 other_opened.1));
      other_ends = p.other_is.ends;
      order = p.order;
      ordered = p.ordered;
      written = kept_then before mid after _ g.heard_them.0 p.written;
    }
