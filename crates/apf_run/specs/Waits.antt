-- The waits of a log, and how they are written.
use Rattle.std.specs.Prelude.{◌≡◌, ℕ, zero, suc, ◌*◌, ◌<◌, ◌≤◌, List, [], ◌∷◌, ◌++◌, length, reverse, codes, All, MatchOption, Option, Some, None}
use Rattle.std.specs.Fmt.{decimal}
use Rattle.apf_words.specs.Limits.{max_requests, max_queues}
use Rattle.apf_history.specs.declared.events.Event.{Event}
use Rattle.apf_history.specs.declared.events.Status.{Status}
use Rattle.apf_history.specs.declared.events.Status.TheVariants as became
use Rattle.apf_model.specs.History.{request_of, queue_of, IsLegal}
use Rattle.apf_model.specs.Order.{status}
use Rattle.apf_book.specs.declared.overtaking.Wait.{Wait}
use Rattle.apf_book.specs.Overtaken.{NeverEnters, IsWaitOf}
use Rattle.apf_texts.specs.Texts.{joined}

-- a log with its oldest event first, and the widths of its requests
pub record Logged : Type 0 where
  pub log : List Event
  pub widths : List ℕ

-- the log may be that of a level: it is legal for some hands and some length limit, each of its requests has a width, and each of its queues is one that a level may have
pub record IsOfLevel (l : Logged) : Type 0 where
  pub legal : (hands : ℕ → List ℕ) × ((limit : ℕ) × IsLegal hands limit (reverse l.log))
  pub have_widths : All (λ e. request_of e < length l.widths) l.log
  pub have_queues : All (λ e. queue_of e < max_queues) l.log
  pub few_events : length l.log ≤ 2 * max_requests
  pub few_widths : length l.widths ≤ max_requests

-- the wait of a request, or None if it entered no queue
abbrev pub IsWaitIn : Logged → ℕ → Option Wait → Type 0
IsWaitIn l r wait = MatchOption wait (NeverEnters l.log r) (IsWaitOf l.widths l.log r)

-- how it is written what became of a request that entered
abbrev pub end_name : Status → List ℕ
end_name became.Dispatched = codes "dispatched"
end_name became.Struck = codes "struck"
end_name _ = codes "waiting"

-- the line of a request that entered
unfoldable pub line_of : ℕ → Wait → Status → List ℕ
line_of r w end = joined (codes "request " ∷ decimal r ∷ codes " queue " ∷ decimal w.queue ∷ codes " ahead " ∷ decimal w.ahead
    ∷ codes " most " ∷ decimal w.most ∷ codes " all " ∷ decimal w.all ∷ codes " " ∷ end_name end ∷ codes "\n" ∷ [])

-- the line of a request, which is not written where it entered no queue
abbrev pub wait_text : ℕ → Option Wait → Status → List ℕ
wait_text r None end = []
wait_text r (Some wait) end = line_of r wait end

-- the text has the lines of the first n requests, in the order of their numbers
abbrev pub IsTextOf : Logged → ℕ → List ℕ → Type 0
IsTextOf l zero text = text ≡ []
IsTextOf l (suc n) text =
    (before : List ℕ) × ((wait : Option Wait) × (IsTextOf l n before × IsWaitIn l n wait × (text ≡ before ++ wait_text n wait (status (reverse l.log) n))))

-- the text has the lines of all requests
abbrev pub IsWaitsText : Logged → List ℕ → Type 0
IsWaitsText l text = IsTextOf l (length l.widths) text
