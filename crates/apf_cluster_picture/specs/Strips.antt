-- The text of a strip.
use Rattle.std.specs.Prelude.{ℕ, ◌+◌, max, Bool, if◌then◌else◌, List, [], ◌∷◌, ◌++◌, Option, Some, None, codes, decimal}
use Rattle.std.specs.Borrow.{Bor}
use Rattle.apf_picture.specs.Words.{joined, time_text}
use Rattle.apf_strips.specs.Limits.{width_after}
use Rattle.apf_strips.specs.Spans.{SeriesView, width_of}
use Rattle.apf_strips.specs.Strips as strips
use Rattle.apf_strips.specs.declared.strip.Strip.{Strip}
use Rattle.apf_cluster_picture.specs.Columns.{area_text, limit_text, marks_text}
use Rattle.apf_cluster_picture.specs.Facts.{named_text, facts_text}
use Rattle.apf_cluster_picture.specs.Levels.{is_quiet}
use Rattle.apf_cluster_picture.specs.Means.{peak_of, pixel_of, mean_text}
use Rattle.apf_cluster_picture.specs.declared.columns.Plot.{Plot}
use Rattle.apf_cluster_picture.specs.declared.facts.Side.{Side}
use Rattle.apf_cluster_picture.specs.declared.facts.Side.TheVariants.{Alone, First, Second}
use Rattle.apf_cluster_picture.specs.declared.level.LevelStrip.{LevelStrip}

-- where a strip begins, with room for its heading
unfoldable pub group_head : (top : ℕ) → List ℕ
group_head top =
    joined (codes "<g transform=\"translate(48 " ∷ decimal top ∷ codes ")\">\n<rect class=\"page\" y=\"5\" width=\"880\" height=\"18\"/>\n<text class=\"part\" y=\"18\">" ∷ [])

-- how long a column is at most
unfoldable pub columns_words : (width : ℕ) → List ℕ
columns_words width = codes ", in columns of " ++ time_text width ++ codes "</tspan></text>\n"

-- the name and the numbers
unfoldable pub heading_text : LevelStrip → Side → Strip → List ℕ
heading_text l side s = named_text l.name.now side ++ codes " <tspan class=\"note\">" ++ facts_text l.is_exempt s ++ columns_words (width_after (strips.most_of s))

-- what is behind an area
unfoldable pub plot_text : (y high : ℕ) → List ℕ
plot_text y high = joined (codes "<rect class=\"plot\" y=\"" ∷ decimal y ∷ codes "\" width=\"880\" height=\"" ∷ decimal high ∷ codes "\"/>\n" ∷ [])

-- what is at the top of a scale
unfoldable pub scale_text : (y most : ℕ) → List ℕ
scale_text y most = joined (codes "<text class=\"small\" x=\"-6\" y=\"" ∷ decimal y ∷ codes "\" text-anchor=\"end\">" ∷ []) ++ mean_text most ++ codes "</text>\n"

-- the greatest of the seats in use and of the limit, if there is one
abbrev pub most_of : (is_exempt : Bool) → Strip → ℕ
most_of is_exempt s = if is_exempt then peak_of s.seats else max (peak_of s.seats) (peak_of s.limit)

-- how the seats and the limit are drawn, and how the requests that wait
abbrev pub seats_plot : (end most : ℕ) → SeriesView → Plot
seats_plot end most v = record { width = width_of v; end = end; pixel = pixel_of most 60; full = 60; foot = 86 }

abbrev pub waiting_plot : (end : ℕ) → SeriesView → Plot
waiting_plot end v = record { width = width_of v; end = end; pixel = pixel_of (peak_of v) 24; full = 24; foot = 114 }

abbrev pub marks_plot : (end : ℕ) → SeriesView → Plot
marks_plot end v = record { width = width_of v; end = end; pixel = 1; full = 1; foot = 1 }

-- the line of the limit, if there is one
abbrev pub limit_part : (is_exempt : Bool) → (end most : ℕ) → SeriesView → List ℕ
limit_part is_exempt end most v = if is_exempt then [] else limit_text (seats_plot end most v) v.bins

abbrev pub seats_area : (end most : ℕ) → SeriesView → List ℕ
seats_area end most v = area_text (seats_plot end most v) (codes "seats") v.bins

-- the seats in use and the limit, on one scale
unfoldable pub seats_text : (is_exempt : Bool) → (end most : ℕ) → Strip → List ℕ
seats_text is_exempt end most s = plot_text 26 60 ++ seats_area end most s.seats ++ limit_part is_exempt end most s.limit ++ scale_text 34 most

-- the requests that wait, on another one
unfoldable pub waiting_text : (end : ℕ) → SeriesView → List ℕ
waiting_text end v = plot_text 90 24 ++ area_text (waiting_plot end v) (codes "waiting") v.bins ++ scale_text 98 (peak_of v)

-- a mark for each bin in which requests were rejected
abbrev pub rejected_text : (end : ℕ) → SeriesView → List ℕ
rejected_text end v = marks_text (marks_plot end v) v.bins

unfoldable pub parts_text : (is_exempt : Bool) → (end : ℕ) → Strip → List ℕ
parts_text is_exempt end s = seats_text is_exempt end (most_of is_exempt s) s ++ waiting_text end s.waiting ++ rejected_text end s.rejected ++ codes "</g>\n"

-- one strip
unfoldable pub strip_text : LevelStrip → Side → Strip → (end top : ℕ) → List ℕ
strip_text l side s end top = group_head top ++ heading_text l side s ++ parts_text l.is_exempt end s

-- the strips of a level: one, or two beneath one another
abbrev pub strips_by : LevelStrip → Option (Bor Strip) → (end top : ℕ) → List ℕ
strips_by l None end top = strip_text l Alone l.first.now end top
strips_by l (Some second) end top = strip_text l First l.first.now end top ++ strip_text l Second second.now end (top + 134)

abbrev pub strips_text : LevelStrip → (end top : ℕ) → List ℕ
strips_text l end top = strips_by l l.second end top

-- the same if somebody came
abbrev pub level_text : LevelStrip → (end top : ℕ) → List ℕ
level_text l end top = if is_quiet l then [] else strips_text l end top
