-- Between two tries nothing became of the request.
use Rattle.apf_book.proofs.Trying.{RacedSoFar}
use Rattle.apf_book.proofs.life_book.LifeBook.arrive.Given as goal

abbrev pub invariant-loop : goal.invariant-loop
invariant-loop g l = record {
  iterator : (goal.iterator-loop g).can_next l.iterator' × (goal.iterator-loop g).is_finite l.iterator';
  far : RacedSoFar l.initial.self l.initial.pass l.self l.pass;
}
