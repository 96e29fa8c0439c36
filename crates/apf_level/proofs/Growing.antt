-- The log goes on between two publications.
use Rattle.std.proofs.Common.{◌≡◌, ◌++◌, List, ℕ, length, reverse, sym, ap, ◌∙◌}
use Rattle.std.proofs.lemmas.List.{append_assoc, length-reverse}
use Rattle.apf_history.specs.declared.events.Event.{Event}
use Rattle.apf_level.specs.Shown.{shown_of, WentOn}

-- some events, since the numbers of the log were published when it had its length
pub went_once : (shown : List ℕ) (before : ℕ) (log old new first : List Event) → shown ≡ shown_of old → before ≡ length log → reverse log ≡ old → new ≡ first ++ old → WentOn shown before new
went_once shown before log old new first is len same once = record {
  older = old;
  newer = first;
  shown_is = is;
  length_is = len ∙ (sym (length-reverse log) ∙ ap (λ (l : List Event). length l) same);
  log = once;
}

-- and then some more
pub went_more : (shown : List ℕ) (before : ℕ) (between new then : List Event) → WentOn shown before between → new ≡ then ++ between → WentOn shown before new
went_more shown before between new then went again = record {
  older = went.older;
  newer = then ++ went.newer;
  shown_is = went.shown_is;
  length_is = went.length_is;
  log = again ∙ (ap (λ (l : List Event). then ++ l) went.log ∙ sym (append_assoc then went.newer went.older));
}
