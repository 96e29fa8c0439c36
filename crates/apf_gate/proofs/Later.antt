-- One more step of a trace, and what stays as the trace goes on.
use Rattle.std.proofs.Common.{◌≡◌, ◌≢◌, ℕ, false, List, [], ◌∷◌, ◌++◌, ◌≤◌, length, Option, Some, None, refl, sym, ap, ◌∙◌, arith}
use Rattle.std.proofs.lemmas.List.{length-append}
use Rattle.apf_model.specs.declared.moves.Move.{Move}
use Rattle.apf_model.specs.declared.moves.Move.TheVariants.{Take, Enter, Grant, Leave, Decide, Release, Close, SetLimit, See}
use Rattle.apf_model.specs.World.{Allowed}
use Rattle.apf_model.specs.Schedule.{world, IsSchedule}
use Rattle.apf_gate.specs.declared.record.Shape.{Shape}
use Rattle.apf_gate.specs.declared.record.Actor.{Actor}
use Rattle.apf_gate.specs.declared.record.Actor.TheVariants.{OfPass, OfDesk, OfStation}
use Rattle.apf_gate.specs.declared.record.Entry.{Entry}
use Rattle.apf_gate.specs.declared.record.Knowledge.{Knowledge}
use Rattle.apf_gate.specs.Traces.{opening_of, entry, moves, world_of, MayMake, NoneOf, GoesOn}
use Rattle.apf_gate.specs.Account.{IsKnown}
use Rattle.apf_gate.proofs.Puts.{put_else}

-- no two tokens have one name
abbrev actor_number : Actor → ℕ
actor_number (OfPass r) = r
actor_number OfDesk = 0
actor_number (OfStation k) = k

pub other_pass : (j r : ℕ) → j ≢ r → OfPass r ≢ OfPass j
other_pass j r ne = λ e. ne (sym (ap actor_number e))

pub other_station : (j k : ℕ) → j ≢ k → OfStation k ≢ OfStation j
other_station j k ne = λ e. ne (sym (ap actor_number e))

module _ (s : Shape) where
  -- a closed level stays closed, and a decision stays
  pub record IsLater (old new : List Entry) : Type 0 where
    pub closed : (world_of s old).is_open ≡ false → (world_of s new).is_open ≡ false
    pub kept : (r : ℕ) → (world_of s old).decision r ≢ None → (world_of s new).decision r ≡ (world_of s old).decision r

  -- a load
  pub same_schedule : (who : Actor) (es : List Entry) → IsLater es (entry who None ∷ es)
  same_schedule who es = record { closed = λ e. e; kept = λ r _. refl }

  -- a move that is allowed
  pub one_more : (who : Actor) (m : Move) (es : List Entry) → Allowed s.widths m (world_of s es) → IsLater es (entry who (Some m) ∷ es)
  one_more who (Take r) es a = record { closed = λ e. e; kept = λ r _. refl }
  one_more who (Enter r) es a = record { closed = λ e. e; kept = λ r _. refl }
  one_more who (Grant r) es a = record { closed = λ e. e; kept = λ r _. refl }
  one_more who (Leave r) es a = record { closed = λ e. e; kept = λ r _. refl }
  one_more who (Decide r d) es a = record {
    closed = λ e. e;
    kept = λ j some. put_else (world_of s es).decision r (Some d) j (λ e. some (ap (world_of s es).decision e ∙ a.is_undecided));
  }
  one_more who (Release r) es a = record { closed = λ e. e; kept = λ r _. refl }
  one_more who Close es a = record { closed = λ _. refl; kept = λ r _. refl }
  one_more who (SetLimit n) es a = record { closed = λ e. e; kept = λ r _. refl }
  one_more who (See r) es a = record { closed = λ e. e; kept = λ r _. refl }

  -- a token may make this step next
  pub record IsNext (who : Actor) (m : Option Move) (es : List Entry) : Type 0 where
    pub made : MayMake who m
    pub schedule : IsSchedule (opening_of s) (moves (entry who m ∷ es))
    pub later : IsLater es (entry who m ∷ es)

  any_loads : (who : Actor) → MayMake who None
  any_loads (OfPass r) = tt
  any_loads OfDesk = tt
  any_loads (OfStation k) = tt

  pub next_load : (who : Actor) (es : List Entry) → IsSchedule (opening_of s) (moves es) → IsNext who None es
  next_load who es schedule = record { made = any_loads who; schedule = schedule; later = same_schedule who es }

  pub next_move : (who : Actor) (m : Move) (es : List Entry) → IsSchedule (opening_of s) (moves es) → Allowed s.widths m (world_of s es) → MayMake who (Some m) → IsNext who (Some m) es
  next_move who m es schedule allowed made = record { made = made; schedule = (allowed, schedule); later = one_more who m es allowed }

  -- a step of another token
  pub known_later : (u : Knowledge) (other who : Actor) (m : Option Move) (old : List Entry) → who ≢ other → IsLater old (entry who m ∷ old) → IsKnown s other u old → IsKnown s other u (entry who m ∷ old)
  known_later u other who m old apart l k = record {
    shape_is = k.shape_is;
    closed = λ e. l.closed (k.closed e);
    told = λ r some. l.kept r (λ none. some (sym (k.told r some) ∙ none)) ∙ k.told r some;
    newer = (entry who m ∷ k.newer.0, ap (λ es. entry who m ∷ es) k.newer.1, (apart, k.newer.2));
  }

  -- the response is fixed
  same_moves : (ms : List Move) → (world (opening_of s) ms).response ≡ s.response
  same_moves [] = refl
  same_moves (Take r ∷ ms) = same_moves ms
  same_moves (Enter r ∷ ms) = same_moves ms
  same_moves (Grant r ∷ ms) = same_moves ms
  same_moves (Leave r ∷ ms) = same_moves ms
  same_moves (Decide r d ∷ ms) = same_moves ms
  same_moves (Release r ∷ ms) = same_moves ms
  same_moves (Close ∷ ms) = same_moves ms
  same_moves (SetLimit n ∷ ms) = same_moves ms
  same_moves (See r ∷ ms) = same_moves ms

  pub same_response : (es : List Entry) → (world_of s es).response ≡ s.response
  same_response es = same_moves (moves es)

  -- whose own step is the newest saw the whole trace
  pub own_newest : (who : Actor) (later saw : List Entry) (m : Option Move) (es : List Entry) → later ++ saw ≡ entry who m ∷ es → NoneOf who later → saw ≡ entry who m ∷ es
  own_newest who [] saw m es is none = is
  own_newest who (x ∷ later) saw m es is none = absurd (none.0 (ap by_first is))
    where
      by_first : List Entry → Actor
      by_first [] = who
      by_first (y ∷ ys) = y.by

  -- what a token saw is no longer than the trace
  pub not_longer : (who : Actor) (es saw : List Entry) → GoesOn es who saw → length saw ≤ length es
  not_longer who es saw k = let e = ap (λ (l : List Entry). length l) k.1 in let f = length-append k.0 saw in omega arith
