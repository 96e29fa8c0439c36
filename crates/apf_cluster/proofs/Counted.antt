-- Those that come from a time on are counted in rows of their own.
use Rattle.std.proofs.Common.{◌≡◌, ℕ, zero, suc, ◌+◌, ◌<◌, ◌≤◌, List, [], ◌∷◌, ◌++◌, length, map, get_or, take, All, Contains, Option, Some, None, Bool, true, false, cond, refl, sym, ap, ◌∙◌, subst, arith}
use Rattle.std.specs.Prelude.{IfSome, nat_le}
use Rattle.std.specs.List.{AllByRecursion}
use Rattle.std.proofs.lemmas.Bool.{le-leb}
use Rattle.std.proofs.lemmas.List.{take_more}
use Rattle.std.proofs.lemmas.List.Elements.{All-from_recursion}
use Rattle.apf_times.specs.Limits.{max_wait}
use Rattle.apf_times.specs.declared.window.Arrival.{Arrival}
use Rattle.apf_traces.specs.declared.request.TraceRequest.{TraceRequest}
use Rattle.apf_stream.specs.declared.asked.Asked.{Asked}
use Rattle.apf_stream.specs.declared.ended.Ended.{Ended}
use Rattle.apf_stream.specs.Runs.{IsOverBy}
use Rattle.apf_stream.specs.States.{IsAsked}
use Rattle.apf_rows.specs.Accounts.{IsInReach}
use Rattle.apf_rows.specs.Rows.{HaveMet, IsMet, RowsView}
use Rattle.apf_rows.specs.Tables.{IsTable}
use Rattle.apf_rows.specs.declared.table.Table.{Table}
use Rattle.apf_simulator.specs.Lanes.{asked_by}
use Rattle.apf_cluster.specs.Late.{AreCounted, AreCountedBy, CanCount, CanCountIn, came_from, told_from}
use Rattle.apf_cluster.specs.declared.late.Late.{Late}

abbrev pub Came : Type 0
Came = Arrival TraceRequest

-- from the beginning on that is all
all_came : (came : List Came) → came_from 0 came ≡ came
all_came [] = refl
all_came (x ∷ came) = ap (λ (b : Bool). cond b (x ∷ came_from 0 came) (came_from 0 came)) (le-leb 0 x.item.arrives_at (omega arith)) ∙ ap (λ (l : List Came). x ∷ l) (all_came came)

all_told : (told : List Ended) → told_from 0 told ≡ told
all_told [] = refl
all_told (e ∷ told) =
    ap (λ (b : Bool). cond b (e ∷ told_from 0 told) (told_from 0 told)) (le-leb 0 e.hold.asked.times.arrives_at (omega arith)) ∙ ap (λ (l : List Ended). e ∷ l) (all_told told)

pub table_of_all : (since : ℕ) (came : List Came) (told : List Ended) (t : Table) → since ≡ 0 → IsTable came told t → IsTable (came_from since came) (told_from since told) t
table_of_all since came told t none is =
    subst (λ (n : ℕ). IsTable (came_from n came) (told_from n told) t) (sym none) (subst (λ (c : List Came). IsTable c (told_from 0 told) t) (sym (all_came came)) (subst (λ (l : List Ended). IsTable came l t) (sym (all_told told)) is))

-- one more of a list
pub take_one : (xs : List Ended) (k : ℕ) (d : Ended) → k < length xs → take k xs ++ get_or xs k d ∷ [] ≡ take (k + 1) xs
take_one xs k d low = sym (take_more xs k d low)

-- ---- who was told last can be counted

-- who asked so
asker : (came : List Came) (a : Asked) (i : ℕ) → i < length (map asked_by came) → get_or (map asked_by came) i a ≡ a → AllByRecursion IsAsked (map asked_by came) → (x : Came) × Contains came x × (asked_by x ≡ a) × IsAsked a
asker [] a i low is all = absurd (omega arith)
asker (x ∷ came) a zero low is all = (x, (0, omega arith, refl), is, subst IsAsked is all.0)
asker (x ∷ came) a (suc i) low is all =
    let r = asker came a i (omega arith) is all.1 in
    let h = r.1 in
    (r.0, (suc h.0, (let l = h.1 in omega arith), h.2), r.2, r.3)

-- one of a list is among those from a time on, if it came then
from_on : (since : ℕ) (came : List Came) (x : Came) (i : ℕ) → i < length came → get_or came i x ≡ x → nat_le since x.item.arrives_at ≡ true → Contains (came_from since came) x
from_on since [] x i low is late = absurd (omega arith)
from_on since (y ∷ came) x zero low is late =
    let here : nat_le since y.item.arrives_at ≡ true = ap (λ (z : Came). nat_le since z.item.arrives_at) is ∙ late in
    rw here (0, omega arith, is)
from_on since (y ∷ came) x (suc i) low is late =
    let rest = from_on since came x i (omega arith) is late in
    behind (nat_le since y.item.arrives_at) rest where
      behind : (b : Bool) → Contains (came_from since came) x → Contains (cond b (y ∷ came_from since came) (came_from since came)) x
      behind true h = (suc h.0, (let l = h.1 in omega arith), h.2)
      behind false h = h

since_reach : (time : ℕ) (since : Option ℕ) → time ≤ max_wait → IfSome since (λ at. at ≤ time) → IfSome since (λ at. at ≤ max_wait)
since_reach time None low is = is
since_reach time (Some at) low is = omega arith

in_reach : (e : Ended) (time : ℕ) → time ≤ max_wait → IsAsked e.hold.asked → IsOverBy time e → IsInReach e
in_reach e time low asked over = let o = over.over in record { asked = asked; over = omega arith; since = since_reach e.over_at e.since (omega arith) over.since }

can_one : (since : ℕ) (came : List Came) (told : List Ended) (rows : Option RowsView) (time : ℕ) (e : Ended) → time ≤ max_wait → AllByRecursion IsAsked (map asked_by came)
    → ((c : List Came) (r : RowsView) (x : Came) → HaveMet c r → Contains c x → IsMet r x.item.hash) → AreCountedBy since came told rows
    → Contains (map asked_by came) e.hold.asked → IsOverBy time e → CanCountIn rows since e
can_one since came told None time e low all met are has over = tt
can_one since came told (Some r) time e low all met are has over =
    λ late.
    let a = asker came e.hold.asked has.0 has.1 has.2 all in
    let x = a.0 in
    let x_late : nat_le since x.item.arrives_at ≡ true = ap (λ (q : Asked). nat_le since q.times.arrives_at) a.2 ∙ late in
    let h = a.1 in (
      in_reach e time low a.3 over,
      subst (λ (q : Asked). IsMet r q.hash) a.2 (met (came_from since came) r x are.0 (from_on since came x h.0 h.1 h.2 x_late)),
    )

can_all : (l : Late) (came : List Came) (told : List Ended) (time : ℕ) (ends : List Ended) → time ≤ max_wait → AllByRecursion IsAsked (map asked_by came)
    → ((c : List Came) (r : RowsView) (x : Came) → HaveMet c r → Contains c x → IsMet r x.item.hash) → AreCounted came told l
    → AllByRecursion (λ (e : Ended). Contains (map asked_by came) e.hold.asked) ends → AllByRecursion (IsOverBy time) ends → AllByRecursion (CanCount l) ends
can_all l came told time [] low all met are has over = tt
can_all l came told time (e ∷ ends) low all met are has over = (can_one l.since came told l.rows time e low all met are has.0 over.0, can_all l came told time ends low all met are has.1 over.1)

last_of : (P : Ended → Type 0) (told ends : List Ended) → AllByRecursion P (told ++ ends) → AllByRecursion P ends
last_of P [] ends all = all
last_of P (e ∷ told) ends all = last_of P told ends all.1

pub can_count : (l : Late) (came : List Came) (told ends : List Ended) (time : ℕ) → time ≤ max_wait → AllByRecursion IsAsked (map asked_by came)
    → ((c : List Came) (r : RowsView) (x : Came) → HaveMet c r → Contains c x → IsMet r x.item.hash) → AreCounted came told l
    → AllByRecursion (λ (e : Ended). Contains (map asked_by came) e.hold.asked) (told ++ ends) → AllByRecursion (IsOverBy time) (told ++ ends) → All (CanCount l) ends
can_count l came told ends time low all met are has over =
    All-from_recursion (CanCount l) ends (can_all l came told time ends low all met are (last_of (λ (e : Ended). Contains (map asked_by came) e.hold.asked) told ends has) (last_of (IsOverBy time) told ends over))
