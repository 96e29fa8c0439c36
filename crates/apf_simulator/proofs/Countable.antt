-- Who was told is one of those that came, and can be counted.
use Rattle.std.proofs.Common.{◌≡◌, ℕ, zero, suc, ◌+◌, ◌<◌, ◌≤◌, List, [], ◌∷◌, ◌++◌, length, map, get_or, take, All, Contains, Option, Some, None, refl, sym, ap, ◌∙◌, subst, arith}
use Rattle.std.specs.Prelude.{IfSome, nat_lt}
use Rattle.std.specs.List.{AllByRecursion}
use Rattle.std.proofs.lemmas.List.{take_more}
use Rattle.std.proofs.lemmas.List.Elements.{All-from_recursion}
use Rattle.apf_times.specs.Limits.{max_wait}
use Rattle.apf_times.specs.declared.window.Arrival.{Arrival}
use Rattle.apf_traces.specs.declared.request.TraceRequest.{TraceRequest}
use Rattle.apf_stream.specs.declared.asked.Asked.{Asked}
use Rattle.apf_stream.specs.declared.ended.Ended.{Ended}
use Rattle.apf_stream.specs.Runs.{IsOverBy}
use Rattle.apf_stream.specs.States.{IsAsked}
use Rattle.apf_rows.specs.Rows.{IsMet, RowsView, is_among, max_flows}
use Rattle.apf_simulator.specs.Lanes.{IsCounted, asked_by}

abbrev pub Came : Type 0
Came = Arrival TraceRequest

-- who asked so
asker : (came : List Came) (a : Asked) (i : ℕ) → i < length (map asked_by came) → get_or (map asked_by came) i a ≡ a → AllByRecursion IsAsked (map asked_by came) → (x : Came) × Contains came x × (asked_by x ≡ a) × IsAsked a
asker [] a i low is all = absurd (omega arith)
asker (x ∷ came) a zero low is all = (x, (0, omega arith, refl), is, subst IsAsked is all.0)
asker (x ∷ came) a (suc i) low is all =
    let r = asker came a i (omega arith) is all.1 in
    let h = r.1 in
    (r.0, (suc h.0, (let l = h.1 in omega arith), h.2), r.2, r.3)

since_reach : (time : ℕ) (since : Option ℕ) → time ≤ max_wait → IfSome since (λ at. at ≤ time) → IfSome since (λ at. at ≤ max_wait)
since_reach time None low is = is
since_reach time (Some at) low is = omega arith

counted : (came : List Came) (v : RowsView) (time : ℕ) (e : Ended) → time ≤ max_wait → AllByRecursion IsAsked (map asked_by came) → ((x : Came) → Contains came x → IsMet v x.item.hash)
    → Contains (map asked_by came) e.hold.asked → IsOverBy time e → IsCounted v e
counted came v time e low all met has over =
    let r = asker came e.hold.asked has.0 has.1 has.2 all in
    let o = over.over in
    record {
      reach = record { asked = r.3; over = omega arith; since = since_reach e.over_at e.since (omega arith) over.since };
      met = subst (λ (a : Asked). IsMet v a.hash) r.2 (met r.0 r.1);
    }

all_counted : (came : List Came) (v : RowsView) (time : ℕ) (told : List Ended) → time ≤ max_wait → AllByRecursion IsAsked (map asked_by came) → ((x : Came) → Contains came x → IsMet v x.item.hash)
    → AllByRecursion (λ e. Contains (map asked_by came) e.hold.asked) told → AllByRecursion (IsOverBy time) told → AllByRecursion (IsCounted v) told
all_counted came v time [] low all met has over = tt
all_counted came v time (e ∷ told) low all met has over = (counted came v time e low all met has.0 over.0, all_counted came v time told low all met has.1 over.1)

last_of : (P : Ended → Type 0) (told ends : List Ended) → AllByRecursion P (told ++ ends) → AllByRecursion P ends
last_of P [] ends all = all
last_of P (e ∷ told) ends all = last_of P told ends all.1

pub are_counted : (came : List Came) (v : RowsView) (time : ℕ) (told ends : List Ended) → time ≤ max_wait → AllByRecursion IsAsked (map asked_by came) → ((x : Came) → Contains came x → IsMet v x.item.hash)
    → AllByRecursion (λ e. Contains (map asked_by came) e.hold.asked) (told ++ ends) → AllByRecursion (IsOverBy time) (told ++ ends) → All (IsCounted v) ends
are_counted came v time told ends low all met has over =
    All-from_recursion (IsCounted v) ends (last_of (IsCounted v) told ends (all_counted came v time (told ++ ends) low all met has over))

-- rows with the same flows
pub counted_still : (v w : RowsView) (e : Ended) → w.flows ≡ v.flows → IsCounted v e → IsCounted w e
counted_still v w e same is = record {
  reach = is.reach;
  met = λ room. ap (λ (fs : List ℕ). is_among fs e.hold.asked.hash) same ∙ is.met (ap (λ (fs : List ℕ). nat_lt (length fs) max_flows) (sym same) ∙ room);
}

-- one more of a list
pub take_one : (xs : List Ended) (k : ℕ) (d : Ended) → k < length xs → take k xs ++ get_or xs k d ∷ [] ≡ take (k + 1) xs
take_one xs k d low = sym (take_more xs k d low)
