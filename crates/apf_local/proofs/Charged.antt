-- What a log has after a settlement, and after requests that waited were dispatched.
use Rattle.std.proofs.Common.{ℕ, inl, inr, Bool, true, false, Option, Some, None, sym, subst}
use Rattle.apf_book.specs.Life.{LifeView, then_settled, then_spent}
use Rattle.apf_book.specs.LifeBook.{LifeBookView, IsLifeKept, ServesLife, SpendsLife}
use Rattle.apf_local.specs.declared.answer.Settlement.{Settlement}
use Rattle.apf_local.specs.Levels.{SettlesOn, SpendsOn}
use Rattle.apf_local.specs.Owners.{SettlesTold}
use Rattle.apf_local.proofs.Logging.{went_on}

module _ (v : LifeView) (b b1 b2 b' : LifeBookView) (r m count : ℕ) (kept : IsLifeKept v b) (keeps : (w : LifeView) → IsLifeKept w b1 → IsLifeKept w b2) (served : (w : LifeView) → IsLifeKept w b2 → ServesLife w b2 count b') where
  pub settles_on : (told : Option Settlement) → SettlesTold v b r m told b1 → SettlesOn v b r m told b'
  settles_on (Some s) settles =
      let w : LifeView = then_settled v r s.charge.queue s.charge.amount m in
      (settles.0, settles.1, settles.2, went_on w b2 b' count (served w (keeps w settles.3)))
  settles_on None settles = (settles.1, went_on v b2 b' count (served v (keeps v (subst (λ (x : LifeBookView). IsLifeKept v x) (sym settles.0) kept))))

  pub spends_on : (answer : Bool) → SpendsLife v b r m answer b1 → SpendsOn v b r m b'
  spends_on true spends =
      let w : LifeView = then_spent v r spends.0.queue spends.0.amount m in
      inl (spends.0, spends.1, spends.2, spends.3, went_on w b2 b' count (served w (keeps w spends.4)))
  spends_on false spends = inr (spends.1, went_on v b2 b' count (served v (keeps v (subst (λ (x : LifeBookView). IsLifeKept v x) (sym spends.0) kept))))
