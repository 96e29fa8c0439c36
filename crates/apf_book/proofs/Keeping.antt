-- What keeps the Desk and the log in agreement.
use Rattle.std.proofs.Common.{◌≡◌, ◌≢◌, ◌↔◌, ℕ, ◌⊎◌, Bool, true, false, List, [], ◌∷◌, length, Option, Some, None, refl, sym, ap, ◌∙◌, subst}
use Rattle.std.specs.Prelude.{Contains}
use Rattle.apf_words.specs.declared.decision.Decision.{Decision}
use Rattle.apf_words.specs.declared.decision.Decision.TheVariants.{Cancelled}
use Rattle.apf_history.specs.declared.events.Event.{Event}
use Rattle.apf_history.specs.declared.events.Event.TheVariants.{Enter, Full, Strike}
use Rattle.apf_history.specs.declared.events.Status.{Status}
use Rattle.apf_history.specs.declared.events.Status.TheVariants as status_is
use Rattle.apf_model.specs.History.{request_of, has_arrived, waiting, MayFollow, IsLegal}
use Rattle.apf_model.specs.Order.{status, makes, has_entered, AreStatuses, Follows}
use Rattle.apf_gate.specs.declared.record.Shape.{Shape}
use Rattle.apf_gate.specs.declared.record.Service.{Service}
use Rattle.apf_gate.specs.declared.record.Service.TheVariants.{NotHanded, Waiting}
use Rattle.apf_gate.specs.declared.record.DeskRecord.{DeskRecord}
use Rattle.apf_gate.specs.Records.{told_of, service, KnowsMore}
use Rattle.apf_gate.specs.Requests as requests
use Rattle.apf_book.specs.LedgerView.{LedgerView, hand_in, IsLogOf}
use Rattle.apf_book.specs.BookView.{logged, IsKept}
use Rattle.apf_book.specs.Agreeing.{IsDeskOf}
use Rattle.apf_book.specs.Moves.{Moves}
use Rattle.apf_book.specs.Said.{saying, Says}
use Rattle.apf_book.proofs.Puts.{put_here}
use Rattle.apf_book.proofs.Moving.{moves_same}
use Rattle.apf_book.proofs.Agreeing.{agreed_moves, agreed_after, agreed_away, agreed_away_heard, agreed_waits, agreed_cancelled, agreed_entered, agreed_not_entered, agreed_new, agreed_head, agreed_refused, agreed_arrived, said_of_status, struck_waits_not, strike_adds_none}

-- the Desk of a book is in agreement with its log
pub desk_of_log : (desk : DeskRecord) (v : LedgerView) → IsKept desk v → IsDeskOf v.history desk
desk_of_log desk v kept = record { did = kept.did; holds_none = kept.holds_none; said = kept.said; struck = kept.struck }

-- the laws of legal histories on what became of each request
abbrev pub Statuses : Type 0
Statuses = (hands : ℕ → List ℕ) (limit : ℕ) (h : List Event) → IsLegal hands limit h → AreStatuses h

module _ (laws : Statuses) (desk : DeskRecord) (v : LedgerView) (kept : IsKept desk v) where
  pub statuses : AreStatuses v.history
  statuses = laws (hand_in v) v.limit v.history kept.of_log.fair.0

  -- a member of a queue waits
  pub member_waits : (q r : ℕ) → Contains (waiting v.history q) r → service desk r ≡ Waiting
  member_waits q r member = agreed_waits v.history statuses desk (desk_of_log desk v kept) q r member

-- a Pass entered exactly if its request has an Enter
pub entered_logs : (laws : Statuses) (desk : DeskRecord) (v : LedgerView) (kept : IsKept desk v) (r : ℕ) (entered : Bool) → entered ≡ requests.has_entered (service desk r)
    → (entered ≡ true) ↔ ((q : ℕ) × Contains v.history (Enter r q))
entered_logs laws desk v kept r entered is = agreed_entered v.history (statuses laws desk v kept) desk (desk_of_log desk v kept) r entered is

-- the Desk did this with a request exactly if the log has this of it
pub says : (desk : DeskRecord) (v : LedgerView) → IsKept desk v → (r : ℕ) (x : Service) (s : Status) → logged x ≡ Some s → ((y : Service) → logged y ≡ Some s → y ≡ x) → (service desk r ≡ x) ↔ (status v.history r ≡ s)
says desk v kept r x s of only = (
  (λ is. ap said_of_status (sym (kept.did r) ∙ (ap logged is ∙ of))),
  (λ is. only (service desk r) (kept.did r ∙ ap (λ (t : Status). Some t) is)),
)
