-- All that was due was carried out, and the level's book has the numbers of all its requests.
use Rattle.std.proofs.Common.{refl}
use Rattle.apf_cluster.specs.declared.lanes.LevelLane.{LevelLane}
use Rattle.apf_cluster.proofs.closing.close.Goals as goal

pub returns : goal.returns
returns c =
    let over : LevelLane = c.finish.new.level in
    let f = c.in_ok-finish.ensures in
    let w = c.in_ok-whole.ensures in
    record {
      over = over;
      runs = f.runs;
      same = f.same;
      is_over = f.over;
      quiet = f.quiet;
      whole = c.in_ok-whole.whole;
      of_all = record { of_all = w.table; ends = record { report = c.in_ok-whole._report; ended = w.report; of_book = w.book } };
      last = refl;
      since = refl;
      table = c.in_ok-table.ensures;
      drawn = c.in_ok-strip.ensures.strip;
      still = c.in_ok-strip.ensures.still;
      nominal = refl;
      least = refl;
      greatest = refl;
      turned_away = refl;
    }
