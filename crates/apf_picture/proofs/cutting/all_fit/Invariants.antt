-- There is room for the names so far.
use Rattle.std.proofs.Common.{◌≡◌, map, drop}
use Rattle.std.specs.List.{list_all}
use Rattle.apf_picture.specs.Rows.{label_in}
use Rattle.apf_picture.specs.Cuttings.{fits}
use Rattle.apf_picture.proofs.cutting.all_fit.Given as goal

abbrev pub invariant-loop-row : goal.invariant-loop-row
invariant-loop-row l = list_all fits (map label_in (drop l.row-index l.rows)) ≡ list_all fits (map label_in l.rows)
