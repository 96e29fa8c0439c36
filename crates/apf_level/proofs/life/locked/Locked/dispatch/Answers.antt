-- What was served under the lock.
use Rattle.std.proofs.Common.{refl}
use Rattle.apf_level.proofs.life.locked.Locked.dispatch.Goals as goal
use Rattle.apf_level.proofs.life.locked.Locked.dispatch.Goals.{in-Some, in-None}

pub returns : goal.returns
returns g c = elim c.match-self.branch [
  | in-Some w ↦
      (let same = rw w.deref_mut.ensures.value at w.dispatch.ensures.same in
      let served = rw w.deref_mut.ensures.value at w.dispatch.ensures.served in
      record { answer = rw (← c.self.view_is, w.in-Some.is, w.result-is, w.self-inside-is) (w.dispatch.new.self.book, refl, same, served) })
  | in-None w ↦ record { answer = rw (← c.self.view_is, w.in-None.is, w.result-is, w.self-inside-is) (refl, rw w.in-None.is refl) }
]
