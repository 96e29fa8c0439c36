-- What is granted while a request waits.
use Rattle.std.specs.Prelude.{ℕ, ◌+◌, List, [], ◌∷◌}
use Rattle.apf_history.specs.declared.events.Event.{Event}
use Rattle.apf_history.specs.Numbered.{width}
use Rattle.apf_history.specs.Tally.{tally}
use Rattle.apf_history.specs.Fair.{service}

-- the widths of these requests together
abbrev pub total_width : List ℕ → List ℕ → ℕ
total_width widths [] = 0
total_width widths (r ∷ rs) = width widths r + total_width widths rs

-- what these requests take together, by what each of them takes
abbrev pub total_time : (ℕ → ℕ) → List ℕ → ℕ
total_time measure [] = 0
total_time measure (r ∷ rs) = measure r + total_time measure rs

-- the seats that were granted out of this many queues in a stretch: their services together
abbrev pub granted : ℕ → List ℕ → List Event → ℕ
granted queues widths stretch = tally (service widths stretch) queues
