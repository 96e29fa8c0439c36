-- Requests that are held, and what became of them.
use Rattle.std.proofs.Common.{◌≡◌, ℕ, zero, suc, ◌+◌, ◌<◌, ◌≤◌, List, [], ◌∷◌, ◌++◌, length, map, take, get_or, Contains, Option, Some, None, refl, sym, ap, ◌∙◌, subst, arith}
use Rattle.std.specs.Prelude.{slice_get, slice_set, IfSome}
use Rattle.std.specs.List.{AllByRecursion}
use Rattle.std.proofs.lemmas.List.{map-append, append-nil, take_more}
use Rattle.std.proofs.lemmas.List.Elements.{Contains-append_left, Contains-push}
use Rattle.apf_times.specs.declared.window.Arrival.{Arrival}
use Rattle.apf_traces.specs.declared.request.TraceRequest.{TraceRequest}
use Rattle.apf_stream.specs.declared.ended.Ended.{Ended}
use Rattle.apf_simulator.specs.Hearing.{AreHeld, Fate, GoesToOne, IsFate, IsHeldOf}
use Rattle.apf_simulator.specs.declared.held.Held.{Held}

abbrev pub Came : Type 0
Came = Arrival TraceRequest

abbrev pub came_of : Held → Came
came_of h = h.came

abbrev pub with_end : Held → Ended → Held
with_end h e = record { came = h.came; ended = Some e }

-- one more of a list
pub take_one : (xs : List Ended) (k : ℕ) (d : Ended) → k < length xs → take k xs ++ get_or xs k d ∷ [] ≡ take (k + 1) xs
take_one xs k d low = sym (take_more xs k d low)

-- all of a list
pub take_past : (xs : List Ended) (k : ℕ) → length xs ≤ k → take k xs ≡ xs
take_past [] zero low = refl
take_past [] (suc k) low = refl
take_past (x ∷ xs) zero low = absurd (omega arith)
take_past (x ∷ xs) (suc k) low = ap (λ (l : List Ended). x ∷ l) (take_past xs k (omega arith))

fate_more : (told more : List Ended) (f : Fate) → IsFate told f → IsFate (told ++ more) f
fate_more told more f is = record { was_told = Contains-append_left told more f.ended is.was_told; line = is.line }

pub fates_more : (told more : List Ended) (fates : List Fate) → AllByRecursion (IsFate told) fates → AllByRecursion (IsFate (told ++ more)) fates
fates_more told more [] all = tt
fates_more told more (f ∷ fates) all = (fate_more told more f all.0, fates_more told more fates all.1)

known_more : (told more : List Ended) (x : Came) (ended : Option Ended) → IfSome ended (λ e. IsFate told (record { came = x; ended = e })) → IfSome ended (λ e. IsFate (told ++ more) (record { came = x; ended = e }))
known_more told more x None is = is
known_more told more x (Some e) is = fate_more told more (record { came = x; ended = e }) is

pub all_more : (told more : List Ended) (held : List Held) → AllByRecursion (IsHeldOf told) held → AllByRecursion (IsHeldOf (told ++ more)) held
all_more told more [] all = tt
all_more told more (h ∷ held) all = (known_more told more h.came h.ended all.0, all_more told more held all.1)

is_one : (g h : Held) → Some g ≡ Some h → g ≡ h
is_one g h same = cc

same_came : (held : List Held) (i : ℕ) (h : Held) (e : Ended) → slice_get held i ≡ Some h → map came_of (slice_set held i (with_end h e)) ≡ map came_of held
same_came [] i h e is = let no : None ≡ Some h = is in absurd (cc)
same_came (g ∷ held) zero h e is = ap (λ (x : Held). x.came ∷ map came_of held) (sym (is_one g h is))
same_came (g ∷ held) (suc i) h e is = ap (λ (xs : List Came). g.came ∷ xs) (same_came held i h e is)

set_known : (told : List Ended) (held : List Held) (i : ℕ) (h : Held) (e : Ended) → slice_get held i ≡ Some h → h.came.place.line ≡ e.hold.asked.line → Contains told e
    → AllByRecursion (IsHeldOf told) held → AllByRecursion (IsHeldOf told) (slice_set held i (with_end h e))
set_known told [] i h e is line has all = tt
set_known told (g ∷ held) zero h e is line has all = (record { was_told = has; line = sym line }, all.1)
set_known told (g ∷ held) (suc i) h e is line has all = (all.0, set_known told held i h e is line has all.1)

-- one more was told
pub one_more : (came : List Came) (told : List Ended) (e : Ended) (old new : List Held) → GoesToOne e old new → AreHeld came told old → AreHeld came (told ++ e ∷ []) new
one_more came told e old new goes held = record {
  are = ap (λ (hs : List Held). map came_of hs) goes.set ∙ same_came old goes.place goes.held e goes.there ∙ held.are;
  known =
      subst (AllByRecursion (IsHeldOf (told ++ e ∷ []))) (sym goes.set)
      (set_known (told ++ e ∷ []) old goes.place goes.held e goes.there goes.line (Contains-push told e) (all_more told (e ∷ []) old held.known));
}

pub none_more : (came : List Came) (told : List Ended) (held : List Held) → AreHeld came told held → AreHeld came (told ++ []) held
none_more came told held are = subst (λ (l : List Ended). AreHeld came l held) (sym (append-nil told)) are

all_then : (told : List Ended) (xs ys : List Held) → AllByRecursion (IsHeldOf told) xs → AllByRecursion (IsHeldOf told) ys → AllByRecursion (IsHeldOf told) (xs ++ ys)
all_then told [] ys a b = b
all_then told (x ∷ xs) ys a b = (a.0, all_then told xs ys a.1 b)

-- one more came
pub came_too : (all : List Came) (told : List Ended) (x : Came) (old new : List Held) → new ≡ old ++ record { came = x; ended = None } ∷ [] → AreHeld all told old → AreHeld (all ++ x ∷ []) told new
came_too all told x old new is held =
    let h : Held = record { came = x; ended = None } in
    subst (AreHeld (all ++ x ∷ []) told) (sym is)
    (record {
      are = map-append came_of old (h ∷ []) ∙ ap (λ (l : List Came). l ++ x ∷ []) held.are;
      known = all_then told old (h ∷ []) held.known (tt, tt);
    })

-- one came, and these were told
pub took_one : (all : List Came) (told : List Ended) (x : Came) (ends : List Ended) (old mid new : List Held) → mid ≡ old ++ record { came = x; ended = None } ∷ []
    → ((c : List Came) (t : List Ended) → AreHeld c t mid → AreHeld c (t ++ ends) new) → AreHeld all told old → AreHeld (all ++ x ∷ []) (told ++ ends) new
took_one all told x ends old mid new is end held = end (all ++ x ∷ []) told (came_too all told x old mid is held)

-- nobody came, and these were told
pub took_none : (all : List Came) (told : List Ended) (ends : List Ended) (old mid new : List Held) → mid ≡ old
    → ((c : List Came) (t : List Ended) → AreHeld c t mid → AreHeld c (t ++ ends) new) → AreHeld all told old → AreHeld (all ++ []) (told ++ ends) new
took_none all told ends old mid new is end held = end (all ++ []) told (subst (λ (l : List Came). AreHeld l told mid) (sym (append-nil all)) (subst (AreHeld all told) (sym is) held))
