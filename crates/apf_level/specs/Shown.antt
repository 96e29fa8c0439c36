-- The numbers that a level publishes.
use Rattle.std.specs.Prelude.{◌≡◌, ℕ, List, [], ◌∷◌, ◌++◌, length, count_by}
use Rattle.apf_history.specs.declared.events.Event.{Event}
use Rattle.apf_model.specs.Outcome.{is_enter, is_full, is_dispatch, is_strike}

-- entered, dispatched, struck and full of a log
abbrev pub shown_of : List Event → List ℕ
shown_of h = count_by is_enter h ∷ count_by is_dispatch h ∷ count_by is_strike h ∷ count_by is_full h ∷ []

-- the log went on since these numbers were published, when it had this length
pub record WentOn (shown : List ℕ) (before : ℕ) (h : List Event) : Type 0 where
  pub older : List Event
  pub newer : List Event
  pub shown_is : shown ≡ shown_of older
  pub length_is : before ≡ length older
  pub log : h ≡ newer ++ older
