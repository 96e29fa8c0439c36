-- What was handed out, and what the lanes did with it.
use Rattle.std.proofs.Common.{◌≡◌, ℕ, List, [], ◌∷◌, ◌++◌, Option, Some, None, Ok, sym, ◌∙◌, subst}
use Rattle.std.specs.Io.KnownBytes.{Consumes}
use Rattle.std.proofs.KnownBytes.{Consumes-trans}
use Rattle.std.proofs.lemmas.List.{append-nil}
use Rattle.apf_times.specs.declared.window.Arrival.{Arrival}
use Rattle.apf_times.specs.declared.window.Place.{Place}
use Rattle.apf_traces.specs.declared.request.TraceRequest.{TraceRequest}
use Rattle.apf_stream.specs.declared.ended.Ended.{Ended}
use Rattle.apf_trace_reader.specs.Reading.{Answers, AnswersEach, AreAll, Follows, HasRead}
use Rattle.apf_trace_reader.specs.Views.{ReaderView}
use Rattle.apf_simulator.specs.Feeds.{AreInTime, AreOver, GoOn, HasFed, HaveGone, IsAhead, IsHandedOut, IsOver}
use Rattle.apf_simulator.specs.Lanes.{LaneView}
use Rattle.apf_simulator.specs.Turns.{AreBothTurns, Turn, came_by}
use Rattle.apf_simulator.proofs.Going.{both_then, came_then, turn_of}
use Rattle.apf_simulator.proofs.Turns.{in_turn}

abbrev pub Came : Type 0
Came = Arrival TraceRequest

pub handed : (was : Option Place) (next : Option Came) (now : Option Place) → Follows was (Ok next) now → IsHandedOut next now
handed was None now f = tt
handed was (Some x) now f = (f.ranges, f.time, f.last)

pub ahead : (place : Place) (was : Option Place) (at : ℕ) (next : Option Came) (now : Option Place) (one : LaneView) (other : Option LaneView) → was ≡ Some place → place.arrives_at ≡ at → Follows was (Ok next) now → AreInTime at one other → IsAhead next one other
ahead place was at None now one other is time f in_time = tt
ahead place was at (Some x) now one other is time f in_time =
    let g = subst (λ (w : Option Place). Follows w (Ok (Some x)) now) is f in
    in_turn place x.place at x.item.arrives_at one other time g.time g.forward in_time

-- the first was handed out, or nothing is there
pub first_fed : (was left : Option (List ℕ)) (next : Option Came) (v : ReaderView) → (more : List ℕ) × Consumes was left more × Answers more [] left (Ok next) v → HasFed was left [] next v
first_fed was left None v a = record { bytes = a.0; given = a.1; read = a.2.0; all = λ is. (a.2.1, a.2.2) }
first_fed was left (Some x) v a = record { bytes = a.0; given = a.1; read = a.2; all = λ is. let no : ◌≡◌ {A = Option Came} (Some x) None = is in absurd (cc) }

fed_by : (was mid left : Option (List ℕ)) (turns turns' : List Turn) (x : Came) (next : Option Came) (v v' : ReaderView) → came_by turns' ≡ came_by turns ++ x ∷ [] → (f : HasFed was mid turns (Some x) v)
    → (more : List ℕ) × Consumes mid left more × Answers (f.bytes ++ more) (came_by turns ++ x ∷ []) left (Ok next) v' → HasFed was left turns' next v'
fed_by was mid left turns turns' x None v v' came f a = record {
  bytes = f.bytes ++ a.0;
  given = Consumes-trans was mid left f.bytes a.0 f.given a.1;
  read = subst (λ (l : List Came). HasRead (f.bytes ++ a.0) l left v') (sym (append-nil (came_by turns'))) (subst (λ (l : List Came). HasRead (f.bytes ++ a.0) l left v') (sym came) a.2.0);
  all = λ is. (subst (AreAll v'.window.size (f.bytes ++ a.0)) (sym came) a.2.1, a.2.2);
}
fed_by was mid left turns turns' x (Some y) v v' came f a = record {
  bytes = f.bytes ++ a.0;
  given = Consumes-trans was mid left f.bytes a.0 f.given a.1;
  read = subst (λ (l : List Came). HasRead (f.bytes ++ a.0) (l ++ y ∷ []) left v') (sym came) a.2;
  all = λ is. let no : ◌≡◌ {A = Option Came} (Some y) None = is in absurd (cc);
}

-- one came, and the next one was handed out
pub more_fed : (was mid left : Option (List ℕ)) (turns : List Turn) (x : Came) (ends : List Ended) (next : Option Came) (v v' : ReaderView) → AnswersEach mid left v (Ok next) v'
    → HasFed was mid turns (Some x) v → HasFed was left (turns ++ record { came = Some x; ends = ends } ∷ []) next v'
more_fed was mid left turns x ends next v v' answers f =
    let t : Turn = record { came = Some x; ends = ends } in
    fed_by was mid left turns (turns ++ t ∷ []) x next v v' (came_then turns t) f (answers f.bytes (came_by turns ++ x ∷ []) f.read)

-- the lanes went on by one turn more
pub gone_on : (was mid left : Option (List ℕ)) (x : Came) (next : Option Came) (v v' : ReaderView) (one : LaneView) (other : Option LaneView) (one' : LaneView) (other' : Option LaneView) (one'' : LaneView) (other'' : Option LaneView) (heard heard' : List Turn → Type 0)
    → ((turns : List Turn) (ends : List Ended) → HasFed was mid turns (Some x) v → HasFed was left (turns ++ record { came = Some x; ends = ends } ∷ []) next v')
    → GoOn (x ∷ []) one' other' one'' other'' → ((turns : List Turn) → heard turns → heard' (turns ++ record { came = Some x; ends = one''.ends } ∷ []))
    → HaveGone was mid (Some x) v one other one' other' heard → HaveGone was left next v' one other one'' other'' heard'
gone_on was mid left x next v v' one other one' other' one'' other'' heard heard' fed goes hears g = record {
  turns = g.turns ++ turn_of (Some x) one'' ∷ [];
  fed = fed g.turns one''.ends g.fed;
  lanes = both_then g.turns (Some x) one other one' other' one'' other'' g.lanes goes;
  heard_them = hears g.turns g.heard_them;
}

none_fed : (was left : Option (List ℕ)) (turns turns' : List Turn) (v : ReaderView) → came_by turns' ≡ came_by turns → HasFed was left turns None v → HasFed was left turns' None v
none_fed was left turns turns' v same f = record {
  bytes = f.bytes;
  given = f.given;
  read = subst (λ (l : List Came). HasRead f.bytes (l ++ []) left v) (sym same) f.read;
  all = λ is. (subst (AreAll v.window.size f.bytes) (sym same) (f.all is).0, (f.all is).1);
}

-- nobody comes any more
pub gone_last : (was left : Option (List ℕ)) (v : ReaderView) (one : LaneView) (other : Option LaneView) (one' : LaneView) (other' : Option LaneView) (one'' : LaneView) (other'' : Option LaneView) (heard heard' : List Turn → Type 0)
    → GoOn [] one' other' one'' other'' → ((turns : List Turn) → heard turns → heard' (turns ++ record { came = None; ends = one''.ends } ∷ []))
    → HaveGone was left None v one other one' other' heard → HaveGone was left None v one other one'' other'' heard'
gone_last was left v one other one' other' one'' other'' heard heard' goes hears g =
    let t = turn_of None one'' in record {
      turns = g.turns ++ t ∷ [];
      fed = none_fed was left g.turns (g.turns ++ t ∷ []) v (came_then g.turns t ∙ append-nil (came_by g.turns)) g.fed;
      lanes = both_then g.turns None one other one' other' one'' other'' g.lanes goes;
      heard_them = hears g.turns g.heard_them;
    }

pub over_one : (one : LaneView) (other : Option LaneView) → AreOver one other → IsOver one
over_one one None over = over
over_one one (Some o) over = over.0

-- one lane alone
pub gone_alone : (was left : Option (List ℕ)) (next : Option Came) (v : ReaderView) (one one' one'' : LaneView) (other' : Option LaneView) (heard : List Turn → Type 0) → one'' ≡ one'
    → HaveGone was left next v one None one' other' heard → HaveGone was left next v one None one'' None heard
gone_alone was left next v one one' one'' None heard is g = record {
  turns = g.turns;
  fed = g.fed;
  lanes = subst (λ (w : LaneView). AreBothTurns g.turns one None w None) (sym is) g.lanes;
  heard_them = g.heard_them;
}
gone_alone was left next v one one' one'' (Some o) heard is g = absurd g.lanes
