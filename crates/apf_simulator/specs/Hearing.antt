-- What those who listen to a lane keep of it.
use Rattle.std.specs.Prelude.{◌≡◌, ℕ, Bool, true, false, nat_lt, IsPermutation, List, [], ◌∷◌, ◌++◌, map, Contains, slice_get, slice_set, Option, Some, IfSome}
use Rattle.std.specs.List.{AllByRecursion, flat_map}
use Rattle.std.specs.Option.{option_to_list}
use Rattle.std.specs.Io.KnownBytes.{Appends, Keeps}
use Rattle.apf_times.specs.declared.window.Arrival.{Arrival}
use Rattle.apf_traces.specs.declared.request.TraceRequest.{TraceRequest}
use Rattle.apf_stream.specs.declared.ended.Ended.{Ended}
use Rattle.apf_simulator.specs.Fates.{fate_text, fates_header}
use Rattle.apf_simulator.specs.Turns.{Turn, came_by, told_by}
use Rattle.apf_simulator.specs.Windows.{is_there, stays}
use Rattle.std.specs.List.Sorted.{IsSortedBy}
use Rattle.apf_simulator.specs.declared.held.Held.{Held}
use Rattle.apf_simulator.specs.declared.held.TimeWindow.{TimeWindow}
use Rattle.apf_simulator.specs.declared.listed.Listed.{Listed}

-- a request that came, with what became of it
pub record Fate : Type 0 where
  pub came : Arrival TraceRequest
  pub ended : Ended

-- it was told, of the request of this line
pub record IsFate (told : List Ended) (f : Fate) : Type 0 where
  pub was_told : Contains told f.ended
  pub line : f.ended.hold.asked.line ≡ f.came.place.line

-- of what is known of a request that is held
abbrev pub IsHeldOf : List Ended → Held → Type 0
IsHeldOf told h = IfSome h.ended (λ e. IsFate told (record { came = h.came; ended = e }))

-- these came, and are held, each with what became of it, if that was told
pub record AreHeld (came : List (Arrival TraceRequest)) (told : List Ended) (held : List Held) : Type 0 where
  pub are : map (λ (h : Held). h.came) held ≡ came
  pub known : AllByRecursion (IsHeldOf told) held

-- what is written of these
abbrev pub fates_written : Bool → List Fate → List ℕ
fates_written false fates = []
fates_written true fates = fates_header ++ flat_map (λ (f : Fate). fate_text f.came f.ended) fates

-- nothing is written before the names of the columns are
abbrev pub IsBegun : Bool → List Fate → Type 0
IsBegun true fates = Unit {0}
IsBegun false fates = fates ≡ []

-- Of who came in these turns, those in front are told, and the others are held
pub record Tells (before now : Option (List ℕ)) (turns : List Turn) (has_begun : Bool) (held : List Held) : Type 0 where
  pub fates : List Fate
  pub back : List (Arrival TraceRequest)
  pub written : Appends before now (fates_written has_begun fates)
  pub begun : IsBegun has_begun fates
  pub are : came_by turns ≡ map (λ (f : Fate). f.came) fates ++ back
  pub told : AllByRecursion (IsFate (told_by turns)) fates
  pub held_are : AreHeld back (told_by turns) held

-- it was not there in the window
abbrev pub IsOutside : TimeWindow → Fate → Type 0
IsOutside w f = is_there w f.came f.ended ≡ false

-- nothing is written; of who came in these turns some are held, and the others are over and were not there in the window
pub record Holds (window : TimeWindow) (before now : Option (List ℕ)) (turns : List Turn) (held : List Held) : Type 0 where
  pub kept : Keeps before now
  pub back : List (Arrival TraceRequest)
  pub held_are : AreHeld back (told_by turns) held
  pub out : List Fate
  pub all : IsPermutation (came_by turns) (back ++ map (λ (f : Fate). f.came) out)
  pub told : AllByRecursion (IsFate (told_by turns)) out
  pub outside : AllByRecursion (IsOutside window) out

-- what is written so far, where the names of the columns are written now if they were not before
abbrev pub TellsStill : Option (List ℕ) → Bool → Option (List ℕ) → Bool → Type 0
TellsStill was has_begun now begins = (before : Option (List ℕ)) (fates : List Fate) → IsBegun has_begun fates → Appends before was (fates_written has_begun fates) → Appends before now (fates_written begins fates)

-- a line of names was written, and the line of each that came in these turns, in their order, with what became of it
pub record AllTold (before now : Option (List ℕ)) (turns : List Turn) : Type 0 where
  pub fates : List Fate
  pub are : map (λ (f : Fate). f.came) fates ≡ came_by turns
  pub told : AllByRecursion (IsFate (told_by turns)) fates
  pub written : Appends before now (fates_written true fates)

-- these, and then this one, if there is one
abbrev pub came_more : List (Arrival TraceRequest) → Option (Arrival TraceRequest) → List (Arrival TraceRequest)
came_more all came = all ++ option_to_list came

-- this became of one of these, the request of its line
pub record GoesToOne (e : Ended) (old new : List Held) : Type 0 where
  pub place : ℕ
  pub held : Held
  pub there : slice_get old place ≡ Some held
  pub line : held.came.place.line ≡ e.hold.asked.line
  pub set : new ≡ slice_set old place (record { came = held.came; ended = Some e })

-- each request that is held, with what became of it
abbrev pub AreParts : List Held → List TraceRequest → List Ended → Type 0
AreParts [] [] [] = Unit {0}
AreParts [] [] (e ∷ ends) = ⊥
AreParts [] (r ∷ requests) ends = ⊥
AreParts (h ∷ held) [] ends = ⊥
AreParts (h ∷ held) (r ∷ requests) [] = ⊥
AreParts (h ∷ held) (r ∷ requests) (e ∷ ends) = (h.came.item ≡ r) × (h.ended ≡ Some e) × AreParts held requests ends

-- whether the line of a request is before that of another
abbrev pub line_before : Held → Held → Bool
line_before a b = nat_lt a.came.place.line b.came.place.line

-- it is not over, or was there in the window
abbrev pub Stays : TimeWindow → Held → Type 0
Stays w h = stays w h ≡ true

-- Of those that came, just those are listed that were there in the window, each with what became of it, in the order of their lines. Of each of the others it was told what became of it, and it was not there.
pub record AreListed (window : TimeWindow) (came : List (Arrival TraceRequest)) (told : List Ended) (l : Listed) : Type 0 where
  pub held : List Held
  pub out : List Fate
  pub all : IsPermutation came (map (λ (h : Held). h.came) held ++ map (λ (f : Fate). f.came) out)
  pub order : IsSortedBy line_before held
  pub known : AllByRecursion (IsHeldOf told) held
  pub there : AllByRecursion (Stays window) held
  pub told_out : AllByRecursion (IsFate told) out
  pub outside : AllByRecursion (IsOutside window) out
  pub parts : AreParts held l.requests.items l.ends.items
