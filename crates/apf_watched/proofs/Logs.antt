-- A log that was told, once more came to it.
use Rattle.std.proofs.Common.{◌≡◌, ◌<◌, ◌==◌, ◌^◌, ℕ, List, [], ◌∷◌, ◌++◌, length, Some, true, refl, sym, ap, ◌∙◌, subst, arith}
use Rattle.std.specs.Prelude.{map, drop, reverse, slice_get}
use Rattle.std.proofs.Math.Seq.{drop-append_seam}
use Rattle.std.proofs.lemmas.Bool.{or_right}
use Rattle.std.proofs.lemmas.List.{length-append, length-reverse, reverse-append, reverse-reverse}
use Rattle.apf_history.specs.declared.events.Event.{Event}
use Rattle.apf_history.specs.declared.events.Event.TheVariants.{Enter, Full, Dispatch, Strike}
use Rattle.apf_history.specs.declared.events.LogEntry.{LogEntry}
use Rattle.apf_history.specs.declared.events.LogEntry.TheVariants.{Happens, Spends, Settles}
use Rattle.apf_history.specs.History.{has_arrived}
use Rattle.apf_history.specs.Charged.{AreMeasures, log_of}
use Rattle.apf_book.specs.declared.life_event.LifeEvent.{LifeEvent}
use Rattle.apf_book.specs.Life.{LifeView}
use Rattle.apf_book.specs.LifeBook.{IsLifeKept, then_came_all}
use Rattle.apf_book.specs.RecentEvents.{event_of}
use Rattle.apf_bound.specs.Kept.{IsKeptOf, queues_of}
use Rattle.apf_local.specs.Levels.{LocalView}
use Rattle.apf_watched.specs.declared.note.Note.{Note}
use Rattle.apf_watched.specs.declared.watch.Watch.{Watch}
use Rattle.apf_watched.specs.Notes.{AreOf}
use Rattle.apf_watched.specs.Followed.{with_events, ReadsAll, Agree, AreSettled, IsToldOf, IsFollowedBy}

-- who arrived stays so
pub arrived_more : (news h : List Event) (r : ℕ) → has_arrived h r ≡ true → has_arrived (news ++ h) r ≡ true
arrived_more [] h r is = is
arrived_more (Enter j q ∷ news) h r is = or_right (j == r) (has_arrived (news ++ h) r) (arrived_more news h r is)
arrived_more (Full j q ∷ news) h r is = or_right (j == r) (has_arrived (news ++ h) r) (arrived_more news h r is)
arrived_more (Dispatch j q ∷ news) h r is = arrived_more news h r is
arrived_more (Strike j q ∷ news) h r is = arrived_more news h r is

pub settled_more : (news h : List Event) (measure : ℕ → ℕ) (l : List LogEntry) → AreSettled h measure l → AreSettled (news ++ h) measure l
settled_more news h measure [] s = tt
settled_more news h measure (Happens e ∷ l) s = settled_more news h measure l s
settled_more news h measure (Spends r q old new ∷ l) s = settled_more news h measure l s
settled_more news h measure (Settles r q old new ∷ l) s = (s.0, arrived_more news h r s.1, settled_more news h measure l s.2)

-- events settle nothing
pub settled_with : (h : List Event) (measure : ℕ → ℕ) (es : List Event) (l : List LogEntry) → AreSettled h measure l → AreSettled h measure (log_of es ++ l)
settled_with h measure [] l s = s
settled_with h measure (e ∷ es) l s = settled_with h measure es l s

pub measures_of : (h : List Event) (measure : ℕ → ℕ) (l : List LogEntry) → AreSettled h measure l → AreMeasures measure l
measures_of h measure [] s = tt
measures_of h measure (Happens e ∷ l) s = measures_of h measure l s
measures_of h measure (Spends r q old new ∷ l) s = measures_of h measure l s
measures_of h measure (Settles r q old new ∷ l) s = (s.0, measures_of h measure l s.2)

-- two parts of a history, before a log
pub log_of_both : (a b : List Event) (l : List LogEntry) → log_of (a ++ b) ++ l ≡ log_of a ++ (log_of b ++ l)
log_of_both [] b l = refl
log_of_both (e ∷ a) b l = ap (λ (rest : List LogEntry). Happens e ∷ rest) (log_of_both a b l)

with_log : (es : List LifeEvent) (l : List LogEntry) → with_events es l ≡ log_of (reverse (map event_of es)) ++ l
with_log [] l = refl
with_log (e ∷ es) l =
    let x : Event = event_of e in
    let ms : List Event = map event_of es in
    with_log es (Happens x ∷ l) ∙ (sym (log_of_both (reverse ms) (x ∷ []) l) ∙ ap (λ (h : List Event). log_of h ++ l) (sym (reverse-append (x ∷ []) ms)))

pub told_log : (es : List LifeEvent) (news : List Event) (l : List LogEntry) → map event_of es ≡ reverse news → with_events es l ≡ log_of news ++ l
told_log es news l is = with_log es l ∙ ap (λ (h : List Event). log_of h ++ l) (ap (λ (h : List Event). reverse h) is ∙ reverse-reverse news)

-- what came behind what was read
pub rest_is : (news h : List Event) (seen : ℕ) → seen ≡ length h → drop seen (reverse (news ++ h)) ≡ reverse news
rest_is news h seen is =
    let parts : reverse (news ++ h) ≡ reverse h ++ reverse news = reverse-append news h in
    ap (λ (n : ℕ). drop n (reverse (news ++ h))) (is ∙ sym (length-reverse h)) ∙ (ap (λ (xs : List Event). drop (length (reverse h)) xs) parts ∙ drop-append_seam (reverse h) (reverse news))

pub agree_less : (news h : List Event) (costs costs' : List ℕ) (measure measure' : ℕ → ℕ) → Agree (news ++ h) costs measure costs' measure' → Agree h costs measure costs' measure'
agree_less news h costs costs' measure measure' agree = record {
  costs_are = λ r is. agree.costs_are r (arrived_more news h r is);
  measures_are = λ r is. agree.measures_are r (arrived_more news h r is);
}

pub agree_same : (h : List Event) (costs : List ℕ) (measure : ℕ → ℕ) → Agree h costs measure costs measure
agree_same h costs measure = record { costs_are = λ r is. refl; measures_are = λ r is. refl }

-- all of a log was told, and then these events came, and were read
module _ (l' : LocalView) (w w' : Watch) (v : LifeView) (measure : ℕ → ℕ) (news : List Event) where
  pub followed_on : IsLifeKept (then_came_all news v) l'.owner.book → queues_of w.bound ≡ v.queues
      → ((slot : ℕ) (n : Note) → slice_get w.notes.items slot ≡ Some (Some n) → has_arrived (news ++ v.history) n.ticket.number ≡ true)
      → AreOf v.costs measure w.notes.items → (length v.history < 2 ^ 64 → IsToldOf v measure w) → ReadsAll l' w w' → IsFollowedBy l' w'
  followed_on kept queues arrived noted tells reads =
      let was : (slot : ℕ) (n : Note) → slice_get w'.notes.items slot ≡ Some (Some n) → slice_get w.notes.items slot ≡ Some (Some n) = λ slot n at. subst (λ (ns : _). slice_get ns.items slot ≡ Some (Some n)) reads.notes at in
      record {
        view = then_came_all news v;
        measure = measure;
        kept = kept;
        queues = reads.tells.queues ∙ queues;
        arrived = λ slot n at. arrived slot n (was slot n at);
        noted = λ slot n at. noted slot n (was slot n at);
        tells = λ short.
            let read = reads.read (then_came_all news v) kept short in
            let sum = length-append news v.history in
            let before : length v.history < 2 ^ 64 = omega (arith, short, sum) in
            let told = tells before in
            let all = read.0 ∙ rest_is news v.history w.seen told.seen in
            record {
              seen = read.1;
              settled = settled_with (news ++ v.history) measure news v.log (settled_more news v.history measure v.log told.settled);
              told = λ costs measure' hands limit agree.
                  let numbers : AreOf costs measure' w.notes.items = λ slot n at. record {
                    cost = agree.costs_are n.ticket.number (arrived slot n at) ∙ (noted slot n at).cost;
                    takes_so = agree.measures_are n.ticket.number (arrived slot n at) ∙ (noted slot n at).takes_so;
                  } in
                  let first = told.told costs measure' hands limit (agree_less news v.history v.costs costs measure measure' agree) in
                  subst (λ (x : List LogEntry). IsKeptOf costs measure' hands limit x w'.bound) (told_log reads.events news v.log all) (reads.tells.told costs measure' hands limit v.log numbers first);
            };
      }
