-- Nothing came to the log yet.
use Rattle.std.proofs.Common.{rules, ◌≡◌, ℕ, List, [], Option, Some, length, sym, ◌∙◌, subst}
use Rattle.std.specs.Prelude.{slice_get}
use Rattle.apf_history.specs.declared.events.LogEntry.{LogEntry}
use Rattle.apf_bound.specs.Kept.{IsKeptOf}
use Rattle.apf_watched.specs.declared.note.Note.{Note}
use Rattle.apf_watched.specs.Followed.{AreSettled}
use Rattle.apf_watched.proofs.Finishing.{log_empty, none_of, length_none}
use Rattle.apf_watched.proofs.watch.watch_of.Goals as goal

pub returns : goal.returns
returns c =
    let v = c.has_a_history.ensures.view in
    let kept = c.has_a_history.ensures.kept in
    let w = c.in_ok-watch.watch in
    let e = c.in_ok-watch.ensures in
    let nobody : (slot : ℕ) (n : Note) → slice_get w.notes.items slot ≡ Some (Some n) → ⊥ = λ slot n at. none_of c.slots.result slot n (subst (λ (ns : List (Option Note)). slice_get ns slot ≡ Some (Some n)) e.notes at) in
    record {
      view = v;
      measure = λ r. 0;
      kept = kept;
      queues = e.queues ∙ (c.requires ∙ (sym c.has_queues.ensures ∙ kept.of_life.deck));
      arrived = λ slot n at. absurd (nobody slot n at);
      noted = λ slot n at. absurd (nobody slot n at);
      tells = λ short.
          let zero_events : c.events.result ≡ 0 = search rules in
          let none : length v.history ≡ 0 = sym (c.events.ensures v kept short) ∙ zero_events in
          let log : v.log ≡ [] = log_empty v.queues v.costs v.log kept.of_life.fair.1 (kept.of_life.events_are ∙ length_none v.history none) in
          record {
            seen = e.seen ∙ sym none;
            settled = subst (λ (x : List LogEntry). AreSettled v.history (λ r. 0) x) (sym log) tt;
            told = λ costs measure' hands limit agree. subst (λ (x : List LogEntry). IsKeptOf costs measure' hands limit x w.bound) (sym log) (e.kept costs measure' hands limit);
          };
    }
