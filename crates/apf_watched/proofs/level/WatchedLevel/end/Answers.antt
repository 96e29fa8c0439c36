-- The level ended as its own call ends it.
use Rattle.std.proofs.Common.{subst}
use Rattle.std.specs.Prelude.{IfOk}
use Rattle.apf_book.specs.Life.{LifeView}
use Rattle.apf_book.specs.LifeBook.{IsLifeKept}
use Rattle.apf_local.specs.Seats.{AreSeatedIn, EndsSeated}
use Rattle.apf_watched.specs.Watched.{WatchedView}
use Rattle.apf_watched.proofs.level.WatchedLevel.end.Goals as goal

pub returns-clause-seated : goal.returns-clause-seated
returns-clause-seated c = subst (λ (w : WatchedView). IfOk c.end.result (λ r. (v : LifeView) → IsLifeKept v w.level.owner.book → AreSeatedIn w.level v.log → EndsSeated w.level v r)) c.self.view_is c.end.ensures.seated
