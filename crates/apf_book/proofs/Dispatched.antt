-- A request that was dispatched waited until then.
use Rattle.std.proofs.Common.{◌≡◌, ℕ, ◌+◌, ◌<◌, ◌-◌, List, [], ◌∷◌, ◌++◌, length, take, drop, reverse, sym, ap, ◌∙◌, subst, arith}
use Rattle.std.specs.Prelude.{slice_get, Some}
use Rattle.std.proofs.lemmas.Option.{slice_get_within, get_or_from_slice_get}
use Rattle.apf_history.specs.declared.events.Event.{Event}
use Rattle.apf_history.specs.declared.events.Event.TheVariants.{Dispatch}
use Rattle.apf_model.specs.History.{waiting, NamesQueues, IsLegal}
use Rattle.apf_book.specs.LedgerView.{LedgerView, IsLogOf, hand_in}
use Rattle.apf_book.specs.Stretch.{history_at, WaitsFrom, AreWaitsBounded, IsBounded, seats_before}
use Rattle.apf_book.specs.Dispatched.{WaitedBetween, AreDispatchesBounded}
use Rattle.apf_book.specs.Histories.{Laws, Waits}
use Rattle.apf_book.proofs.Lists.{first_contains}
use Rattle.apf_book.proofs.Stretches.{history_whole, history_more, waits_bounded}
use Rattle.apf_model.specs.Fair.{IsFair}

-- what an ending of a history names
names_earlier : (n : ℕ) (later h : List Event) → NamesQueues n (later ++ h) → NamesQueues n h
names_earlier n [] h names = names
names_earlier n (e ∷ later) h names = names_earlier n later h names.1

opened : (queues : ℕ) (widths : List ℕ) (log : List Event) → AreWaitsBounded queues widths log
    → (from to r q : ℕ) → WaitsFrom log from to r q → q < queues → IsBounded queues widths log (from + 1) to q (seats_before widths log from q)
unfolding AreWaitsBounded
opened queues widths log is = is

module _ (laws : Laws) (waits : Waits) (v : LedgerView) (log : List Event) (is : IsLogOf v) (same : reverse log ≡ v.history) (from to r q : ℕ) (waited : WaitedBetween log from to r q) where
  inside : to < length log
  inside = slice_get_within log to (Dispatch r q) waited.2

  -- what came until that Dispatch
  until : history_at log (to + 1) ≡ Dispatch r q ∷ history_at log to
  until = history_more log to (Dispatch r q) inside ∙ ap (λ (e : Event). e ∷ history_at log to) (get_or_from_slice_get log to (Dispatch r q) (Dispatch r q) waited.2)

  whole : v.history ≡ reverse (take (length log - (to + 1)) (drop (to + 1) log)) ++ Dispatch r q ∷ history_at log to
  whole = sym same ∙ (history_whole log (to + 1) (omega (arith, inside)) ∙ ap (λ (h : List Event). reverse (take (length log - (to + 1)) (drop (to + 1) log)) ++ h) until)

  was_first : slice_get (waiting (history_at log to) q) 0 ≡ Some r
  was_first = (laws.beginnings (hand_in v) v.limit (reverse (take (length log - (to + 1)) (drop (to + 1) log))) (Dispatch r q ∷ history_at log to) (subst (IsLegal (hand_in v) v.limit) whole is.fair.0)).0

  is_queue : q < v.sizes.deck
  is_queue = (names_earlier v.sizes.deck (reverse (take (length log - (to + 1)) (drop (to + 1) log))) (Dispatch r q ∷ history_at log to) (subst (NamesQueues v.sizes.deck) whole is.names_queues)).0

  waits_from : WaitsFrom log from to r q
  waits_from = (waited.0, omega (arith, inside), waited.1, first_contains (waiting (history_at log to) q) r was_first)

  bounded : IsBounded v.sizes.deck v.costs log (from + 1) to q (seats_before v.costs log from q)
  bounded = opened v.sizes.deck v.costs log (waits_bounded log v.costs v.sizes.deck (hand_in v) v.limit (subst (IsFair v.sizes.deck v.costs (hand_in v) v.limit) (sym same) is.fair) waits) from to r q waits_from is_queue

pub dispatches_bounded : Laws → Waits → (v : LedgerView) (log : List Event) → IsLogOf v → reverse log ≡ v.history → AreDispatchesBounded v.sizes.deck v.costs log
dispatches_bounded laws waits v log is same = bounded laws waits v log is same
