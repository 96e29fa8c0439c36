-- What is true of every book of a level.
use Rattle.apf_line.specs.Laws.{HasHistories, LevelHistories}
use Rattle.apf_line.proofs.Histories.{history_of, is_nothing_yet}
use Rattle.apf_line.proofs.Stopped.{at_rest, begins_at_rest}

pub lawful : HasHistories
lawful = record {
  of_level = history_of;
  nothing = is_nothing_yet;
  begins = λ v b empty kept. ∣ begins_at_rest v b empty kept ∣₁;
  served = λ v b b' count same served. ∣ at_rest v b b' count same served ∣₁;
}

pub closed : LevelHistories
unfolding LevelHistories
closed = lawful
