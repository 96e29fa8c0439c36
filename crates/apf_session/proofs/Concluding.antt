-- What the end of a session tells of its requests and operators.
use Rattle.std.proofs.Common.{◌≡◌, ◌≢◌, ℕ, ◌-◌, ◌<◌, List, length, get_or, Option, None, All, sym, ap, ◌∙◌, arith}
use Rattle.std.specs.Prelude.{Result, Ok, Err, IfOk, reverse, slice_get}
use Rattle.std.specs.declared.alloc.AllocError.{AllocError}
use Rattle.apf_words.specs.declared.decision.Decision.{Decision}
use Rattle.apf_model.specs.Outcome.{stats_of}
use Rattle.apf_gate.specs.Records.{told_own, new_pass}
use Rattle.apf_gate.specs.Tokens.{PassToken, StationToken}
use Rattle.apf_session.specs.Requests.{RequestView, told_by, AreLeftOf, StayTold}
use Rattle.apf_book.specs.LedgerKept.{AreStats}
use Rattle.apf_level.specs.declared.report.Report.{Report}
use Rattle.apf_level.specs.Levels.{LevelId}
use Rattle.apf_level.specs.Reports.{AreSums, Ended}
use Rattle.apf_session.specs.Operators.{KeepsOrder}
use Rattle.apf_session.specs.Ends.{FirstCancels, SessionEnds}

-- what the Passes were told is decided, so what the requests were told before is
pub told_the_same : (old now : List RequestView) (passes : List PassToken) (decision : ℕ → Option Decision) (e : PassToken)
    → length now ≡ length old → ((i : ℕ) (d : RequestView) → (get_or now i d).number ≡ (get_or old i d).number) → StayTold old now
    → length passes ≡ length now → AreLeftOf now passes → All (λ (t : PassToken). decision t.pass.number ≡ told_own t.pass) passes
    → (i : ℕ) (d : RequestView) → i < length old → told_by (get_or old i d).token ≢ None
    → decision (get_or old i d).number ≡ told_by (get_or old i d).token
told_the_same old now passes decision e count numbers stay many left told i d low some =
    let at : ℕ = length now - 1 - i in
    let pass : PassToken = get_or passes at e in
    let is = left i d e (omega (arith, low, count)) in
    let kept = stay i d some in
    ap decision (sym (numbers i d)) ∙ (ap decision (sym is.number)
    ∙ (told at e (omega (arith, low, count, many))
    ∙ (is.told (λ none. some (sym kept ∙ none)) ∙ kept)))

-- the end of a session, of what is known of each call that it makes
pub ends : (k : LevelId) (requests now : List RequestView) (operators stations : List StationToken) (passes : List PassToken) (result : Result Report AllocError)
    → length now ≡ length requests → ((i : ℕ) (d : RequestView) → (get_or now i d).number ≡ (get_or requests i d).number) → StayTold requests now
    → length passes ≡ length now → AreLeftOf now passes → KeepsOrder operators stations → FirstCancels requests operators stations
    → IfOk result (λ (r : Report). Ended k r.word (slice_get r.decisions.items) (reverse r.log.items) passes stations)
    → IfOk result (λ (r : Report). length r.decisions.items ≡ length k.gate.shape.widths)
    → IfOk result (λ (r : Report). AreSums r.counts (slice_get r.decisions.items) (length r.decisions.items))
    → IfOk result (λ (r : Report). AreStats r.stats (stats_of k.opening.sizes.deck (reverse r.log.items)))
    → IfOk result (SessionEnds k requests operators)
ends k requests now operators stations passes (Ok r) count numbers stay many left order cancels ended decided sums stats = record {
  ended = record { passes = passes; stations = stations; ended = ended; all_decided = decided; sums = sums; stats = stats };
  told = told_the_same requests now passes (slice_get r.decisions.items) (record { table = k.gate.table; pass = new_pass k.gate.shape 0 }) count numbers stay many left ended.told;
  order = order;
  cancels = cancels;
}
ends k requests now operators stations passes (Err e) count numbers stay many left order cancels ended decided sums stats = ended
