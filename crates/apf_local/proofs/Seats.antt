-- Logs whose settled requests held their seats, from call to call.
use Rattle.std.proofs.Common.{◌≡◌, ◌≢◌, ◌⊎◌, inl, inr, ℕ, zero, suc, Bool, true, false, List, [], ◌∷◌, ◌++◌, set, Option, Some, None, refl, sym, ap, ◌∙◌, subst}
use Rattle.std.specs.Prelude.{map, slice_get, All}
use Rattle.std.proofs.lemmas.Bool.{cases_eq}
use Rattle.std.proofs.lemmas.Option.{slice_get-get_or, slice_get_within}
use Rattle.std.proofs.lemmas.List.{append_assoc}
use Rattle.apf_history.specs.declared.events.Event.{Event}
use Rattle.apf_history.specs.declared.events.LogEntry.{LogEntry}
use Rattle.apf_history.specs.declared.events.LogEntry.TheVariants.{Happens, Spends, Settles}
use Rattle.apf_model.specs.declared.moves.Stage.TheVariants.{Stands}
use Rattle.apf_model.specs.Charged.{events, log_of}
use Rattle.apf_gate.specs.declared.record.Entry.{Entry}
use Rattle.apf_gate.specs.declared.record.Shape.{Shape}
use Rattle.apf_gate.specs.Records.{KnowsMore}
use Rattle.apf_gate.specs.Tokens.{GateId, PassToken}
use Rattle.apf_gate.specs.Traces.{world_of}
use Rattle.apf_book.specs.Life.{LifeView, then_settled}
use Rattle.apf_book.specs.LifeBook.{LifeBookView, IsLifeKept, then_came_all}
use Rattle.apf_book.specs.Said.{saying}
use Rattle.apf_line.specs.Seats.{HeldSeats, AreSeated}
use Rattle.apf_line.specs.Tokens.{IsRunning}
use Rattle.apf_local.specs.declared.answer.Answer.{Answer}
use Rattle.apf_local.specs.declared.answer.Answer.TheVariants as answers
use Rattle.apf_local.specs.declared.answer.Ask.{Ask}
use Rattle.apf_local.specs.declared.answer.Place.{Place}
use Rattle.apf_local.specs.declared.answer.Place.TheVariants as places
use Rattle.apf_local.specs.Levels.{LocalView, SameLocal, SlotMoves, Finishes, IsFinish, IsArrival, IsRenewal, IsArrivalOfRenewed, GoesOn}
use Rattle.apf_local.specs.Seats.{IsExecuting, HeldIn, AreSeatedIn, KeepsSeats, HeldSlot}
use Rattle.apf_local.specs.declared.answer.Settlement.{Settlement}
use Rattle.apf_local.specs.Owners.{OwnerView, SameOwner, SettlesTold}
use Rattle.apf_local.specs.Tries.{IsTry, IsReading, SlotsStay}
use Rattle.apf_book.specs.declared.life_event.LifeEvent.{LifeEvent}

-- a Pass that was just heard, and executes, held its seats when all had happened that the book's history has
pub held_now : (v : LifeView) (b b' : LifeBookView) (shape : Shape) (p : PassToken) (r : ℕ) → IsRunning p → p.pass.number ≡ r → p.pass.knows.shape ≡ shape → p.pass.knows.trace ≡ b.desk.desk.knows.trace
    → IsLifeKept v b → KnowsMore b.desk.desk.knows b'.desk.desk.knows → HeldSeats shape b'.desk.desk.knows.trace v.history r
held_now v b b' shape p r runs number same follows kept more = record {
  at = b.desk.desk.knows.trace;
  is_beginning = (more.trace.0, sym more.trace.1);
  had_come = ([], kept.agrees.said);
  stood = subst (λ (t : List Entry). (world_of shape t).stage r ≡ Stands) follows
      (subst (λ (s : Shape). (world_of s p.pass.knows.trace).stage r ≡ Stands) same
      (subst (λ (n : ℕ). (world_of p.pass.knows.shape p.pass.knows.trace).stage n ≡ Stands) number runs.stands));
}

held_more : (shape : Shape) (newer trace : List Entry) (h : List Event) (r : ℕ) → HeldSeats shape trace h r → HeldSeats shape (newer ++ trace) h r
held_more shape newer trace h r held = record {
  at = held.at;
  is_beginning = (newer ++ held.is_beginning.0, append_assoc newer held.is_beginning.0 held.at ∙ ap (λ (t : List Entry). newer ++ t) held.is_beginning.1);
  had_come = held.had_come;
  stood = held.stood;
}

held_less : (shape : Shape) (trace : List Entry) (newer h : List Event) (r : ℕ) → HeldSeats shape trace (newer ++ h) r → HeldSeats shape trace h r
held_less shape trace newer h r held = record {
  at = held.at;
  is_beginning = held.is_beginning;
  had_come = (held.had_come.0 ++ newer, ap (map saying) (append_assoc held.had_come.0 newer h) ∙ held.had_come.1);
  stood = held.stood;
}

events_append : (later earlier : List LogEntry) → events (later ++ earlier) ≡ events later ++ events earlier
events_append [] earlier = refl
events_append (Happens e ∷ later) earlier = ap (λ (h : List Event). e ∷ h) (events_append later earlier)
events_append (Spends r q old new ∷ later) earlier = events_append later earlier
events_append (Settles r q old new ∷ later) earlier = events_append later earlier

-- events change nothing of it
pub seated_with : (l : LocalView) (es : List Event) (log : List LogEntry) → AreSeatedIn l log → AreSeatedIn l (log_of es ++ log)
seated_with l [] log s = s
seated_with l (e ∷ es) log s = seated_with l es log s

pub seated_without : (l : LocalView) (es : List Event) (log : List LogEntry) → AreSeatedIn l (log_of es ++ log) → AreSeatedIn l log
seated_without l [] log s = s
seated_without l (e ∷ es) log s = seated_without l es log s

pub all_seated_with : (shape : Shape) (trace : List Entry) (es : List Event) (log : List LogEntry) → AreSeated shape trace log → AreSeated shape trace (log_of es ++ log)
all_seated_with shape trace [] log s = s
all_seated_with shape trace (e ∷ es) log s = all_seated_with shape trace es log s

-- who held its seats by the steps of an owner did so by more
pub held_then : (o o' : OwnerView) → SameOwner o o' → (h : List Event) (r : ℕ) → HeldSeats o.gate.shape o.book.desk.desk.knows.trace h r → HeldSeats o'.gate.shape o'.book.desk.desk.knows.trace h r
held_then o o' same h r held =
    let more = same.book.more.trace in
    let then : HeldSeats o.gate.shape o'.book.desk.desk.knows.trace h r = subst (λ (t : List Entry). HeldSeats o.gate.shape t h r) (sym more.1) (held_more o.gate.shape more.0 o.book.desk.desk.knows.trace h r held) in
    subst (λ (g : GateId). HeldSeats g.shape o'.book.desk.desk.knows.trace h r) (sym same.gate) then

-- a history is the same after a settlement
pub settled_view : (v : LifeView) (b b' : LifeBookView) (r m : ℕ) (told : Option Settlement) → IsLifeKept v b → SettlesTold v b r m told b' → (w : LifeView) × IsLifeKept w b' × (w.history ≡ v.history)
settled_view v b b' r m (Some s) kept settles = (then_settled v r s.charge.queue s.charge.amount m, settles.3, refl)
settled_view v b b' r m None kept settles = (v, subst (λ (x : LifeBookView). IsLifeKept v x) (sym settles.0) kept, refl)

module _ (l l' : LocalView) (same : SameLocal l l') where
  held_on : (h : List Event) (r : ℕ) → HeldIn l h r → HeldIn l' h r
  held_on h r held = held_then l.owner l'.owner same.owner h r held

  module _ (whole : List LogEntry) (each : (r : ℕ) → IsExecuting l r → HeldIn l' (events whole) r ⊎ IsExecuting l' r) where
    spent_on : (later log : List LogEntry) → later ++ log ≡ whole → (r : ℕ) → HeldIn l (events log) r ⊎ IsExecuting l r → HeldIn l' (events log) r ⊎ IsExecuting l' r
    spent_on later log is r (inl held) = inl (held_on (events log) r held)
    spent_on later log is r (inr executes) = elim (each r executes) [
      | inl held ↦ inl (held_less l'.owner.gate.shape l'.owner.book.desk.desk.knows.trace (events later) (events log) r
          (subst (λ (h : List Event). HeldIn l' h r) (ap events (sym is) ∙ events_append later log) held))
      | inr still ↦ inr still
    ]

    seated_on : (later log : List LogEntry) → later ++ log ≡ whole → AreSeatedIn l log → AreSeatedIn l' log
    seated_on later [] is s = tt
    seated_on later (Happens e ∷ log) is s = seated_on (later ++ (Happens e ∷ [])) log (append_assoc later (Happens e ∷ []) log ∙ is) s
    seated_on later (Spends r q old new ∷ log) is s =
        (spent_on (later ++ (Spends r q old new ∷ [])) log (append_assoc later (Spends r q old new ∷ []) log ∙ is) r s.0, seated_on (later ++ (Spends r q old new ∷ [])) log (append_assoc later (Spends r q old new ∷ []) log ∙ is) s.1)
    seated_on later (Settles r q old new ∷ log) is s = (held_on (events log) r s.0, seated_on (later ++ (Settles r q old new ∷ [])) log (append_assoc later (Settles r q old new ∷ []) log ∙ is) s.1)

  pub keeps : ((v : LifeView) → IsLifeKept v l.owner.book → (r : ℕ) → IsExecuting l r → HeldIn l' v.history r ⊎ IsExecuting l' r) → KeepsSeats l l'
  keeps each v kept s = seated_on v.log (λ r executes. subst (λ (h : List Event). HeldIn l' h r ⊎ IsExecuting l' r) (sym kept.of_life.events_are) (each v kept r executes)) [] v.log refl s

  -- no slot changed
  executes_still : SlotsStay l l' → (r : ℕ) → IsExecuting l r → IsExecuting l' r
  executes_still stay r e = record {
    slot = e.slot;
    token = e.token;
    runs = ap (λ (ps : List Place). slice_get ps e.slot) stay.places ∙ e.runs;
    holds = ap (λ (ts : List PassToken). slice_get ts e.slot) stay.passes ∙ e.holds;
    is = e.is;
  }

  pub stays_seated : SlotsStay l l' → KeepsSeats l l'
  stays_seated stay = keeps (λ v kept r e. inr (executes_still stay r e))

pub get_else : {A : Type 0} (xs : List A) (i j : ℕ) (x : A) → j ≢ i → slice_get (set xs i x) j ≡ slice_get xs j
get_else [] i j x ne = refl
get_else (y ∷ ys) zero zero x ne = absurd (ne refl)
get_else (y ∷ ys) zero (suc j) x ne = refl
get_else (y ∷ ys) (suc i) zero x ne = refl
get_else (y ∷ ys) (suc i) (suc j) x ne = get_else ys i j x (λ e. ne (ap suc e))

some_is : {A : Type 0} (a b : A) → ◌≡◌ {A = Option A} (Some a) (Some b) → a ≡ b
some_is a b is = cc

-- a slot whose request did not execute is free
pub left_seated : (l : LocalView) (slot : ℕ) (p : Place) → SameLocal l (record l { places = set l.places slot places.Free }) → slice_get l.places slot ≡ Some p → p ≢ places.Runs → KeepsSeats l (record l { places = set l.places slot places.Free })
left_seated l slot p same here other = keeps l (record l { places = set l.places slot places.Free }) same (λ v kept r e. inr (record {
  slot = e.slot;
  token = e.token;
  runs = get_else l.places slot e.slot places.Free (λ is. other (some_is p places.Runs (sym here ∙ (ap (slice_get l.places) (sym is) ∙ e.runs)))) ∙ e.runs;
  holds = e.holds;
  is = e.is;
}))

-- another slot's request executes as before
module _ (l l' : LocalView) (slot : ℕ) (Does : Place → PassToken → Place → PassToken → Type 0) (moves : SlotMoves slot l l' Does) where
  else_still : (r : ℕ) (e : IsExecuting l r) → e.slot ≢ slot → IsExecuting l' r
  else_still r e ne = record {
    slot = e.slot;
    token = e.token;
    runs = ap (λ (ps : List Place). slice_get ps e.slot) moves.now_at ∙ (get_else l.places slot e.slot moves.place' ne ∙ e.runs);
    holds = ap (λ (ts : List PassToken). slice_get ts e.slot) moves.now ∙ (get_else l.owner.passes slot e.slot moves.after ne ∙ e.holds);
    is = e.is;
  }

  is_at : (r : ℕ) (e : IsExecuting l r) → e.slot ≡ slot → moves.place ≡ places.Runs
  is_at r e here = some_is moves.place places.Runs (sym moves.was_at ∙ (ap (slice_get l.places) (sym here) ∙ e.runs))

  pub moves_seated : SameLocal l l' → moves.place ≢ places.Runs → KeepsSeats l l'
  moves_seated same other = keeps l l' same (λ v kept r e. inr (else_still r e (λ here. other (is_at r e here))))

pub finish_seated : (l l' : LocalView) (slot : ℕ) → SameLocal l l' → SlotMoves slot l l' Finishes → HeldSlot slot l l' → KeepsSeats l l'
finish_seated l l' slot same moves held = keeps l l' same (λ v kept r e. elim (cases_eq e.slot slot) [
  | inl here ↦ inl (subst (λ (n : ℕ). HeldIn l' v.history n) e.is (held e.token (ap (slice_get l.owner.passes) (sym here) ∙ e.holds) v kept))
  | inr ne ↦ inr (else_still l l' slot Finishes moves r e ne)
])

same_seated : (l l' : LocalView) → l' ≡ l → KeepsSeats l l'
same_seated l l' is = λ v kept s. subst (λ (x : LocalView). AreSeatedIn x v.log) (sym is) s

free_runs : (p : Place) → p ≡ places.Free → p ≢ places.Runs
free_runs p is runs = let z : places.Free ≡ places.Runs = sym is ∙ runs in cc

waits_runs : (p : Place) → p ≡ places.Waits → p ≢ places.Runs
waits_runs p is runs = let z : places.Waits ≡ places.Runs = sym is ∙ runs in cc

pub reading_seated : (slot : ℕ) (l l' : LocalView) (place : Place) → SameLocal l l' → IsReading slot l place l' → KeepsSeats l l'
reading_seated slot l l' place same (inl moves) = moves_seated l l' slot _ moves same (waits_runs moves.place moves.does.waited)
reading_seated slot l l' place same (inr stays) = same_seated l l' stays.0

pub arrival_seated : (slot : ℕ) (ask : Ask) (hand : List ℕ) (l l' : LocalView) (answer : Answer) (event : Option LifeEvent) → SameLocal l l' → IsArrival slot ask hand l answer event l' → KeepsSeats l l'
arrival_seated slot ask hand l l' answers.Wrong event same is = same_seated l l' is.0
arrival_seated slot ask hand l l' answers.Spent event same is = same_seated l l' is.0
arrival_seated slot ask hand l l' answers.Run event same moves = moves_seated l l' slot _ moves same (free_runs moves.place moves.does.was_free)
arrival_seated slot ask hand l l' (answers.Over d) event same moves = moves_seated l l' slot _ moves same (free_runs moves.place moves.does.was_free)
arrival_seated slot ask hand l l' answers.Busy event same moves = moves_seated l l' slot _ moves same (free_runs moves.place moves.does.was_free)
arrival_seated slot ask hand l l' answers.Waits event same moves = moves_seated l l' slot _ moves same (free_runs moves.place moves.does.was_free)
arrival_seated slot ask hand l l' answers.Released event same moves = moves_seated l l' slot _ moves same (free_runs moves.place moves.does.was_free)

fresh_runs : (p : Place) (ask : Ask) → p ≡ places.Fresh ask → p ≢ places.Runs
fresh_runs p ask is runs = let z : places.Fresh ask ≡ places.Runs = sym is ∙ runs in cc

pub renewal_seated : (slot : ℕ) (ask : Ask) (l l' : LocalView) (done : Bool) → SameLocal l l' → IsRenewal slot ask l done l' → KeepsSeats l l'
renewal_seated slot ask l l' true same moves = moves_seated l l' slot _ moves same (free_runs moves.place moves.does.was_free)
renewal_seated slot ask l l' false same is = same_seated l l' is.0

pub renewed_seated : (slot : ℕ) (l l' : LocalView) (answer : Answer) (event : Option LifeEvent) → SameLocal l l' → IsArrivalOfRenewed slot l answer event l' → KeepsSeats l l'
renewed_seated slot l l' answers.Wrong event same is = same_seated l l' is.0
renewed_seated slot l l' answers.Spent event same moves = moves_seated l l' slot _ moves same (fresh_runs moves.place moves.does.ask moves.does.was_fresh)
renewed_seated slot l l' answers.Run event same moves = moves_seated l l' slot _ moves same (fresh_runs moves.place moves.does.ask moves.does.was_fresh)
renewed_seated slot l l' (answers.Over d) event same moves = moves_seated l l' slot _ moves same (fresh_runs moves.place moves.does.ask moves.does.was_fresh)
renewed_seated slot l l' answers.Busy event same moves = moves_seated l l' slot _ moves same (fresh_runs moves.place moves.does.ask moves.does.was_fresh)
renewed_seated slot l l' answers.Waits event same moves = moves_seated l l' slot _ moves same (fresh_runs moves.place moves.does.ask moves.does.was_fresh)
renewed_seated slot l l' answers.Released event same moves = moves_seated l l' slot _ moves same (fresh_runs moves.place moves.does.ask moves.does.was_fresh)

pub try_seated : (slot : ℕ) (ask : Ask) (l l' : LocalView) (answer : Answer) → SameLocal l l' → IsTry slot ask l answer l' → KeepsSeats l l'
try_seated slot ask l l' answers.Wrong same is = same_seated l l' is.0
try_seated slot ask l l' answers.Spent same is = same_seated l l' is.0
try_seated slot ask l l' answers.Run same moves = moves_seated l l' slot _ moves same (free_runs moves.place moves.does.was_free)
try_seated slot ask l l' (answers.Over d) same moves = moves_seated l l' slot _ moves same (free_runs moves.place moves.does.was_free)
try_seated slot ask l l' answers.Busy same moves = moves_seated l l' slot _ moves same (free_runs moves.place moves.does.was_free)
try_seated slot ask l l' answers.Waits same moves = moves_seated l l' slot _ moves same (free_runs moves.place moves.does.was_free)
try_seated slot ask l l' answers.Released same moves = moves_seated l l' slot _ moves same (free_runs moves.place moves.does.was_free)

pub finishing_seated : (slot : ℕ) (l l' : LocalView) (answer : Answer) → SameLocal l l' → IsFinish slot l answer l' → (answer ≡ answers.Released → HeldSlot slot l l') → KeepsSeats l l'
finishing_seated slot l l' answers.Wrong same is held = same_seated l l' is.0
finishing_seated slot l l' answers.Released same moves held = finish_seated l l' slot same moves (held refl)
finishing_seated slot l l' answers.Run same is held = absurd is
finishing_seated slot l l' (answers.Over d) same is held = absurd is
finishing_seated slot l l' answers.Busy same is held = absurd is
finishing_seated slot l l' answers.Waits same is held = absurd is
finishing_seated slot l l' answers.Spent same is held = absurd is

-- where all slots are free nobody executes
nobody_executes : (l : LocalView) → All (λ (p : Place). p ≡ places.Free) l.places → (r : ℕ) → IsExecuting l r → ⊥
nobody_executes l free r e = free_runs places.Runs (of_all l.places e.slot free e.runs) refl where
  none_is : (b : Place) → ◌≡◌ {A = Option Place} None (Some b) → ⊥
  none_is b is = cc

  of_all : (ps : List Place) (i : ℕ) → All (λ (p : Place). p ≡ places.Free) ps → slice_get ps i ≡ Some places.Runs → places.Runs ≡ places.Free
  of_all ps i all is =
      let low = slice_get_within ps i places.Runs is in
      let there = slice_get-get_or ps i places.Free low in
      some_is places.Runs places.Free (sym is ∙ (there ∙ ap (λ (p : Place). Some p) (all i places.Free low)))

pub idle_seated : (l : LocalView) → All (λ (p : Place). p ≡ places.Free) l.places → (log : List LogEntry) → AreSeatedIn l log → AreSeated l.owner.gate.shape l.owner.book.desk.desk.knows.trace log
idle_seated l free [] s = tt
idle_seated l free (Happens e ∷ log) s = idle_seated l free log s
idle_seated l free (Spends r q old new ∷ log) s = elim s.0 [
  | inl held ↦ (held, idle_seated l free log s.1)
  | inr executes ↦ absurd (nobody_executes l free r executes)
]
idle_seated l free (Settles r q old new ∷ log) s = (s.0, idle_seated l free log s.1)

-- one call after another
pub keeps_then : (a b c : LocalView) → ((v : LifeView) → IsLifeKept v a.owner.book → GoesOn v b.owner.book) → KeepsSeats a b → KeepsSeats b c → KeepsSeats a c
keeps_then a b c on first then = λ v kept s.
    let next = on v kept in
    seated_without c next.events v.log (then (then_came_all next.events v) next.kept (seated_with b next.events v.log (first v kept s)))

pub keeps_same : (l : LocalView) → KeepsSeats l l
keeps_same l = λ v kept s. s
