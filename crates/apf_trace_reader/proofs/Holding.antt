-- What is held, and what is handed out of it.
use Rattle.std.proofs.Common.{◌≡◌, ℕ, Bool, List, [], ◌∷◌, Option, Some, None, Ok, IsPermutation, false, refl, sym, ap, ◌∙◌, subst}
use Rattle.std.specs.List.{AllByRecursion}
use Rattle.std.proofs.lemmas.List.Elements.{All-from_recursion, recursion_from_All}
use Rattle.std.proofs.lemmas.List.Sorted.{All-permutation}
use Rattle.apf_times.specs.declared.window.Arrival.{Arrival}
use Rattle.apf_times.specs.declared.window.Place.{Place}
use Rattle.apf_times.specs.Windows.{HandsOut, NoneBefore, WindowView, IsPopped, IsPushed, is_late, precedes}
use Rattle.apf_traces.specs.TraceFile.{Line}
use Rattle.apf_traces.specs.TraceValue.{entry}
use Rattle.apf_traces.specs.declared.request.TraceRequest.{TraceRequest}
use Rattle.apf_trace_reader.specs.Reading.{Follows, IsNext}
use Rattle.apf_trace_reader.specs.Turns.{IsHeld, IsTaken, placed}

moved : (P : Arrival TraceRequest → Type 0) (xs ys : List (Arrival TraceRequest)) → IsPermutation xs ys → AllByRecursion P xs → AllByRecursion P ys
moved P xs ys same all = recursion_from_All P ys (All-permutation P xs ys same (All-from_recursion P xs all))

-- what is held once this was handed out is not before it
behind : (was : Option Place) (first : Arrival TraceRequest) (xs : List (Arrival TraceRequest)) → NoneBefore first xs → AllByRecursion (IsHeld was) xs → AllByRecursion (IsHeld (Some first.place)) xs
behind was first [] none all = tt
behind was first (x ∷ xs) none all =
    (record { ranges = all.0.ranges; named = all.0.named; time = all.0.time; forward = none.0 }, behind was first xs none.1 all.1)

-- how what is held and what was handed out last follow each other
abbrev pub Leads : Option Place → Option (Arrival TraceRequest) → WindowView TraceRequest → Type 0
Leads was None v = (v.last ≡ was) × AllByRecursion (IsHeld v.last) v.held
Leads was (Some x) v = IsNext x was v.last × AllByRecursion (IsHeld v.last) v.held

pub handed : (was : Option Place) (xs : List (Arrival TraceRequest)) (first : Arrival TraceRequest) (v : WindowView TraceRequest) → HandsOut xs first v → AllByRecursion (IsHeld was) xs → Leads was (Some first) v
handed was xs first v out all =
    let both = moved (IsHeld was) xs (first ∷ v.held) out.same all in (
      record { ranges = both.0.ranges; named = both.0.named; time = both.0.time; forward = both.0.forward; last = out.last },
      subst (λ l. AllByRecursion (IsHeld l) v.held) (sym out.last) (behind was first v.held out.is_first both.1),
    )

-- once a request was put in
pub pushed_leads : (x : Arrival TraceRequest) (u v : WindowView TraceRequest) (out : Option (Arrival TraceRequest)) → IsHeld u.last x → AllByRecursion (IsHeld u.last) u.held → IsPushed x u out v → Leads u.last out v
pushed_leads x u v None one all pushed =
    (pushed.2, subst (λ l. AllByRecursion (IsHeld l) v.held) (sym pushed.2) (moved (IsHeld u.last) (x ∷ u.held) v.held pushed.1 (one, all)))
pushed_leads x u v (Some first) one all pushed = handed u.last (x ∷ u.held) first v pushed.1 (one, all)

pub taken_leads : (number : ℕ) (line : Line) (u v : WindowView TraceRequest) (out : Option (Arrival TraceRequest)) (has_cost : Bool) → IsTaken number line u out v has_cost → AllByRecursion (IsHeld u.last) u.held → Leads u.last out v
taken_leads number line u v out has_cost taken all =
    pushed_leads (placed number taken.request) u v out (record { ranges = taken.ranges; named = taken.named; time = refl; forward = taken.timely }) all taken.pushed

-- once one was taken out
pub popped_leads : (u v : WindowView TraceRequest) (out : Option (Arrival TraceRequest)) → AllByRecursion (IsHeld u.last) u.held → IsPopped u out v → Leads u.last out v
popped_leads u v None all popped = (ap (λ w. w.last) popped.1, subst (λ w. AllByRecursion (IsHeld w.last) w.held) (sym popped.1) all)
popped_leads u v (Some first) all popped = handed u.last u.held first v popped all

pub leads_held : (was : Option Place) (out : Option (Arrival TraceRequest)) (v : WindowView TraceRequest) → Leads was out v → AllByRecursion (IsHeld v.last) v.held
leads_held was None v leads = leads.1
leads_held was (Some x) v leads = leads.1

pub leads_on : (was : Option Place) (out : Option (Arrival TraceRequest)) (v : WindowView TraceRequest) → Leads was out v → Follows was (Ok out) v.last
leads_on was None v leads = leads.0
leads_on was (Some x) v leads = leads.0
