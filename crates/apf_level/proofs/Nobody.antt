-- Nobody waits in the queues of a level none of whose requests waits.
use Rattle.std.proofs.Common.{◌≡◌, ◌≢◌, ℕ, zero, ◌<◌, List, [], ◌∷◌, length, refl, ap, arith}
use Rattle.std.specs.Prelude.{Contains}
use Rattle.apf_history.specs.declared.events.Event.{Event}
use Rattle.apf_model.specs.History.{waiting, IsLegal}
use Rattle.apf_model.specs.Order.{AreCounted}
use Rattle.apf_gate.specs.declared.record.Service.TheVariants as service_is
use Rattle.apf_gate.specs.Records.{service}
use Rattle.apf_gate.specs.Tokens.{GateId, DeskToken, desk_gate}
use Rattle.apf_book.specs.LedgerView.{LedgerView, NothingWaits, hand_in}
use Rattle.apf_book.specs.BookView.{IsKept}
use Rattle.apf_book.specs.Laws.{DeskAgreesWithLog}
use Rattle.apf_level.specs.Levels.{LevelId, logged_as}

nothing : (xs : List ℕ) → ((r : ℕ) → ¬ Contains xs r) → xs ≡ []
nothing [] none = refl
nothing (x ∷ xs) none = absurd (none x (zero, omega arith, refl))

pub nobody : (counted : (hands : ℕ → List ℕ) (limit : ℕ) (h : List Event) → IsLegal hands limit h → AreCounted h)
    (k : LevelId) (d : DeskToken) (v : LedgerView) → desk_gate d ≡ k.gate → IsKept d.desk v → DeskAgreesWithLog d.desk v
    → ((r : ℕ) → r < length k.gate.shape.widths → service d.desk r ≢ service_is.Waiting) → NothingWaits (logged_as k v.history)
nobody counted k d v own kept mind none q = nothing (waiting v.history q) (λ r here.
    let low : r < length v.costs = (counted (hand_in v) v.limit v.history kept.of_log.fair.0).waits_named (length v.costs) kept.of_log.names_requests q r here in
    let a = kept.one_cost_each in
    let b = ap (λ (x : GateId). length x.shape.widths) own in
    none r (omega arith) ((mind.waiting_is r).1 (q, here)))
