-- A request that finished on a level whose log was told, and a level to which nothing happened.
use Rattle.std.proofs.Common.{◌≡◌, ℕ, zero, suc, List, [], ◌∷◌, length, Option, Some, None, true, refl, sym, ap, ◌∙◌, subst}
use Rattle.std.specs.Prelude.{slice_get, replicate, IfSome}
use Rattle.apf_history.specs.declared.events.Event.{Event}
use Rattle.apf_history.specs.declared.events.LogEntry.{LogEntry}
use Rattle.apf_history.specs.declared.events.LogEntry.TheVariants.{Happens, Spends, Settles}
use Rattle.apf_history.specs.History.{has_arrived}
use Rattle.apf_history.specs.Charged.{events, runs, IsAmong, FollowsChoices}
use Rattle.apf_gate.specs.declared.ticket.Ticket.{Ticket}
use Rattle.apf_book.specs.Life.{LifeView, then_settled}
use Rattle.apf_book.specs.LifeBook.{IsLifeKept}
use Rattle.apf_bound.specs.Kept.{IsKeptOf}
use Rattle.apf_local.specs.declared.answer.Settlement.{Settlement}
use Rattle.apf_local.specs.declared.answer.Answer.{Answer}
use Rattle.apf_local.specs.declared.answer.Answer.TheVariants as answers
use Rattle.apf_gate.specs.Tokens.{PassToken}
use Rattle.apf_local.specs.Owners.{IsSlotOf}
use Rattle.apf_local.specs.Levels.{LocalView, GoesOn, IsFinish, SettlesOn, SettlesSlot}
use Rattle.apf_watched.specs.declared.note.Note.{Note}
use Rattle.apf_watched.specs.declared.watch.Watch.{Watch}
use Rattle.apf_watched.specs.Followed.{ReadsAll, TellsSettlement, IsSettled, IsFollowedBy, IsFollowed}
use Rattle.apf_watched.proofs.Logs.{arrived_more, followed_on}
use Rattle.apf_watched.proofs.Arriving.{gone_on}

-- what was settled was told, and then requests that wait were dispatched
module _ (l l' : LocalView) (w0 w1 w2 : Watch) (followed : IsFollowedBy l w0) (reads : ReadsAll l' w1 w2) (t : Ticket) (r m : ℕ) (s : Settlement) where
  pub settled_on : t.number ≡ r → TellsSettlement t s w0 w1 → SettlesOn followed.view l.owner.book r m (Some s) l'.owner.book → IsFollowedBy l' w2
  settled_on number tells settles =
      let v : LifeView = then_settled followed.view r s.charge.queue s.charge.amount m in
      let on : GoesOn v l'.owner.book = settles.3 in
      let slot = tells.is.slot in
      let named : tells.note.ticket.number ≡ r = ap (λ (x : Ticket). x.number) tells.is.ticket ∙ number in
      let took : m ≡ followed.measure r = sym settles.0 ∙ (sym tells.takes ∙ (sym (followed.noted slot tells.note tells.is.is_there).takes_so ∙ ap followed.measure named)) in
      let here : has_arrived followed.view.history r ≡ true = subst (λ (j : ℕ). has_arrived followed.view.history j ≡ true) named (followed.arrived slot tells.note tells.is.is_there) in
      let was : (i : ℕ) (n : Note) → slice_get w1.notes.items i ≡ Some (Some n) → slice_get w0.notes.items i ≡ Some (Some n) = λ i n at. subst (λ (ns : _). slice_get ns.items i ≡ Some (Some n)) tells.notes at in
      followed_on l' w1 w2 v followed.measure on.events on.kept (tells.queues ∙ followed.queues)
      (λ i n at. arrived_more on.events v.history n.ticket.number (followed.arrived i n (was i n at)))
      (λ i n at. followed.noted i n (was i n at))
      (λ short. let told = followed.tells short in record {
        seen = tells.seen ∙ told.seen;
        settled = (took, here, told.settled);
        told = λ costs measure' hands limit agree.
            subst (λ (j : ℕ). IsKeptOf costs measure' hands limit (Settles j s.charge.queue s.charge.amount m ∷ followed.view.log) w1.bound) number
            (subst (λ (x : ℕ). IsKeptOf costs measure' hands limit (Settles t.number s.charge.queue s.charge.amount x ∷ followed.view.log) w1.bound) settles.0
            (tells.told costs measure' hands limit followed.view.log (told.told costs measure' hands limit agree)));
      })
      reads

-- a request finished, or nothing was done
module _ (l l' : LocalView) (w0 w1 w2 : Watch) (followed : IsFollowedBy l w0) (reads : ReadsAll l' w1 w2) (t : Ticket) where
  by_told : (told : Option Settlement) (r m : ℕ) → t.number ≡ r → SettlesOn followed.view l.owner.book r m told l'.owner.book → IsSettled t told w0 w1 → IsFollowedBy l' w2
  by_told None r m number settles is = gone_on l l' w0 w1 w2 followed reads is settles.1
  by_told (Some s) r m number settles tells = settled_on l l' w0 w1 w2 followed reads t r m s number tells settles

  pub finished_on : (slot micros : ℕ) (told : Option Settlement) (answer : Answer) → IsSlotOf l.owner.passes slot (λ (p : PassToken). t.number ≡ p.pass.number) → IsFinish slot l answer l'
      → (answer ≡ answers.Released → SettlesSlot slot micros told l l') → (answer ≡ answers.Wrong → told ≡ None) → IsSettled t told w0 w1 → IsFollowedBy l' w2
  finished_on slot micros told answers.Wrong number is settles none settled =
      let same : w1 ≡ w0 = subst (λ (x : Option Settlement). IsSettled t x w0 w1) (none refl) settled in
      gone_on l l' w0 w1 w2 followed reads same (record { events = []; kept = subst (λ (x : LocalView). IsLifeKept followed.view x.owner.book) (sym is.0) followed.kept; servings = tt })
  finished_on slot micros told answers.Released number moves settles none settled =
      by_told told moves.before.pass.number _ (number moves.before moves.was) (settles refl moves.before moves.was followed.view followed.kept) settled
  finished_on slot micros told answers.Run number is settles none settled = absurd is
  finished_on slot micros told (answers.Over d) number is settles none settled = absurd is
  finished_on slot micros told answers.Busy number is settles none settled = absurd is
  finished_on slot micros told answers.Waits number is settles none settled = absurd is
  finished_on slot micros told answers.Spent number is settles none settled = absurd is

-- what is kept once all was read, if anything is
pub of_some : (l' : LocalView) (mid new : Option Watch) → IfSome new (λ (after : Watch). (before : Watch) × (mid ≡ Some before) × ReadsAll l' before after)
    → ((before after : Watch) → mid ≡ Some before → ReadsAll l' before after → IsFollowedBy l' after) → IsFollowed l' new
of_some l' mid None told then = tt
of_some l' mid (Some after) told then = then told.0 after told.1 told.2

pub is_followed : (l : LocalView) (old : Option Watch) (w : Watch) → IsFollowed l old → old ≡ Some w → IsFollowedBy l w
is_followed l old w followed is = subst (λ (x : Option Watch). IsFollowed l x) is followed

pub some_of : (P : Watch → Type 0) (o : Option Watch) (w : Watch) → IfSome o P → o ≡ Some w → P w
some_of P o w told is = subst (λ (x : Option Watch). IfSome x P) is told

-- nothing settles where nothing happened
pub log_empty : (queues : ℕ) (costs : List ℕ) (l : List LogEntry) → FollowsChoices queues costs l → events l ≡ [] → l ≡ []
log_empty queues costs [] follows none = refl
log_empty queues costs (Happens e ∷ l) follows none = absurd (let z : e ∷ events l ≡ [] = none in cc)
log_empty queues costs (Spends r q old new ∷ l) follows none =
    absurd (subst (λ (x : List LogEntry). IsAmong r old (runs costs x q)) (log_empty queues costs l follows.1 none) follows.0)
log_empty queues costs (Settles r q old new ∷ l) follows none =
    absurd (subst (λ (x : List LogEntry). IsAmong r old (runs costs x q)) (log_empty queues costs l follows.1 none) follows.0)

pub none_of : (n i : ℕ) (x : Note) → slice_get {X = Option Note} (replicate n None) i ≡ Some (Some x) → ⊥
none_of zero i x is = let z : ◌≡◌ {A = Option (Option Note)} None (Some (Some x)) = is in cc
none_of (suc n) zero x is = let z : ◌≡◌ {A = Option (Option Note)} (Some None) (Some (Some x)) = is in cc
none_of (suc n) (suc i) x is = none_of n i x is

pub length_none : (h : List Event) → length h ≡ 0 → h ≡ []
length_none [] is = refl
length_none (e ∷ h) is = absurd (let z : suc (length h) ≡ 0 = is in cc)
