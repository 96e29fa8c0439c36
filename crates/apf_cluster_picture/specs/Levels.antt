-- What is drawn of a level.
use Rattle.std.specs.Prelude.{ℕ, Bool, true, false, ◌&&◌, ◌==◌, List, Option, Some, None, count_by}
use Rattle.std.specs.Borrow.{Bor}
use Rattle.apf_strips.specs.declared.strip.Strip.{Strip}
use Rattle.apf_cluster_picture.specs.declared.level.LevelStrip.{LevelStrip}

-- nobody came: nothing was in use, nobody waited, and nobody was rejected
abbrev pub is_quiet_strip : Strip → Bool
is_quiet_strip s = s.seats.total == 0 && s.waiting.total == 0 && s.rejected.total == 0

-- nor to the second cluster, if there is one
abbrev pub is_quiet_beside : Strip → Option (Bor Strip) → Bool
is_quiet_beside first None = is_quiet_strip first
is_quiet_beside first (Some second) = is_quiet_strip first && is_quiet_strip second.now

abbrev pub is_quiet : LevelStrip → Bool
is_quiet l = is_quiet_beside l.first.now l.second

-- how high the strips of a level are: nothing if nobody came
abbrev pub high_by : Bool → Option (Bor Strip) → ℕ
high_by true second = 0
high_by false None = 134
high_by false (Some second) = 268

unfoldable pub high_of : LevelStrip → ℕ
high_of l = high_by (is_quiet l) l.second

-- how many of the levels are those to which nobody came
abbrev pub quiet_of : List LevelStrip → ℕ
quiet_of levels = count_by is_quiet levels
