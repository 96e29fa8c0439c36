-- The texts of the rows.
use Rattle.std.specs.Prelude.{ℕ, ◌+◌, ◌-◌, ◌*◌, ◌/◌, nat_lt, if◌then◌else◌, List, [], ◌∷◌, ◌++◌, max, length, slice_get, Option, Some, None, codes, decimal}
use Rattle.std.specs.List.{flat_map, range_with_len}
use Rattle.apf_picture.specs.declared.life.Fate.{Fate}
use Rattle.apf_picture.specs.declared.life.Fate.TheVariants.{Executed, Rejected, GaveUp}
use Rattle.apf_picture.specs.declared.life.Life.{Life}
use Rattle.apf_picture.specs.declared.cutting.Cutting.{Cutting}
use Rattle.apf_picture.specs.declared.row.Row.{Row}
use Rattle.apf_picture.specs.Scales.{scaled_of}
use Rattle.apf_picture.specs.Rows.{lives_in}
use Rattle.apf_picture.specs.Labels.{called}
use Rattle.apf_picture.specs.Names.{label_text, whole_label}
use Rattle.apf_picture.specs.Words.{joined, row_numbers_text}

-- a bar of a request: from its arrival until its wait was over, one column at least
unfoldable pub bar_text : (end lane : ℕ) → Life → List ℕ
bar_text end lane life =
    joined (codes "M" ∷ decimal (scaled_of life.arrives end 880) ∷ codes " " ∷ decimal (2 * lane + 1) ∷ codes "h" ∷ decimal (max (scaled_of life.until end 880 - scaled_of life.arrives end 880) 1) ∷ [])

-- a rejected request has none
abbrev pub bar_by : Fate → (end lane : ℕ) → Life → List ℕ
bar_by Executed end lane life = bar_text end lane life
bar_by GaveUp end lane life = bar_text end lane life
bar_by Rejected end lane life = []

abbrev pub bar_at : (end lane : ℕ) → Option Life → List ℕ
bar_at end lane None = []
bar_at end lane (Some life) = bar_by life.fate end lane life

-- the bars of a row, one below another
abbrev pub bars_text : List Life → (end : ℕ) → List ℕ
bars_text lives end = flat_map (λ lane. bar_at end lane (slice_get lives lane)) (range_with_len 0 (length lives))

-- a tick where a rejected request arrived, and one where a request gave up
unfoldable pub rejected_tick : (end : ℕ) → Life → List ℕ
rejected_tick end life =
    joined (codes "M" ∷ decimal (scaled_of life.arrives end 880) ∷ codes " 0v8" ∷ [])

abbrev pub rejected_by : Fate → (end : ℕ) → Life → List ℕ
rejected_by Rejected end life = rejected_tick end life
rejected_by Executed end life = []
rejected_by GaveUp end life = []

abbrev pub rejected_text : List Life → (end : ℕ) → List ℕ
rejected_text lives end = flat_map (λ life. rejected_by life.fate end life) lives

unfoldable pub given_up_tick : (end : ℕ) → Life → List ℕ
given_up_tick end life =
    joined (codes "M" ∷ decimal (scaled_of life.until end 880) ∷ codes " 0l3 7h-6z" ∷ [])

-- it has none if that is later than what is drawn
abbrev pub given_up_shown : (end : ℕ) → Life → List ℕ
given_up_shown end life = if nat_lt end life.until then [] else given_up_tick end life

abbrev pub given_up_by : Fate → (end : ℕ) → Life → List ℕ
given_up_by GaveUp end life = given_up_shown end life
given_up_by Executed end life = []
given_up_by Rejected end life = []

abbrev pub given_up_text : List Life → (end : ℕ) → List ℕ
given_up_text lives end = flat_map (λ life. given_up_by life.fate end life) lives

-- how high a row is, with its label and its ticks
abbrev pub height_of : Row → ℕ
height_of row = row.tall + 42

-- the bars of a row and what is behind them
unfoldable pub back_text : (around tall inside : ℕ) → List ℕ
back_text around tall inside =
    joined (codes "<rect class=\"plot\" y=\"20\" width=\"880\" height=\"" ∷ decimal around ∷ codes "\"/>\n<svg y=\"20\" width=\"880\" height=\"" ∷ decimal tall
    ∷ codes "\" viewBox=\"0 0 880 " ∷ decimal inside ∷ codes "\" preserveAspectRatio=\"none\">\n" ∷ [])

unfoldable pub stroke_text : (number thick : ℕ) → List ℕ
stroke_text number thick = joined (codes "<path class=\"bars b" ∷ decimal number ∷ codes "\" stroke-width=\"" ∷ decimal thick ∷ codes "\" d=\"" ∷ [])

-- what stands before the bars of a row
unfoldable pub plot_head : Row → List ℕ
plot_head row =
    back_text (row.tall + 12) row.tall (2 * row.numbers.requests)
    ++ stroke_text row.number (max (3 * row.numbers.requests / max row.tall 1 + 1) 2)

unfoldable pub plot_text : Row → (end : ℕ) → List ℕ
plot_text row end = plot_head row ++ bars_text (lives_in row) end ++ codes "\"/>\n</svg>\n"

-- the ticks of rejected requests at this height, and the beginning of the path of the triangles
unfoldable pub ticks_head : (y : ℕ) → List ℕ
ticks_head y = joined (codes "<g transform=\"translate(0 " ∷ decimal y ∷ codes ")\">\n<path class=\"rejected\" d=\"" ∷ [])

unfoldable pub ticks_text : List Life → (y end : ℕ) → List ℕ
ticks_text lives y end = ticks_head y ++ rejected_text lives end ++ codes "\"/>\n<path class=\"gave-up\" d=\""

-- the triangles of requests that gave up, and the end of their path
unfoldable pub triangles_text : List Life → (end : ℕ) → List ℕ
triangles_text lives end = given_up_text lives end ++ codes "\"/>\n</g>\n"

-- where a row begins, and its title, which is its whole name
unfoldable pub row_place : (y : ℕ) → List ℕ
row_place y = joined (codes "<g transform=\"translate(48 " ∷ decimal y ∷ codes ")\">\n<title>" ∷ [])

-- the end of the title, what covers the lines of the axis, and the colour of the row
unfoldable pub colour_text : (number : ℕ) → List ℕ
colour_text number =
    joined (codes "</title>\n<rect class=\"page\" width=\"880\" height=\"20\"/>\n<rect class=\"f" ∷ decimal number ∷ codes "\" y=\"5\" width=\"10\" height=\"10\" rx=\"2\"/>\n<text x=\"16\" y=\"14\">" ∷ [])

unfoldable pub row_head : Row → (y : ℕ) → List ℕ
row_head row y = row_place y ++ whole_label (called row.label) ++ colour_text row.number

-- what a row is called, and its numbers
unfoldable pub row_words : Row → Cutting → List ℕ
row_words row cutting = label_text cutting row.number (called row.label) ++ codes " <tspan class=\"note\">" ++ row_numbers_text row.numbers ++ codes "</tspan></text>\n"

-- its bars and its ticks
unfoldable pub row_drawing : Row → (end : ℕ) → List ℕ
row_drawing row end = plot_text row end ++ ticks_text (lives_in row) (row.tall + 22) end ++ triangles_text (lives_in row) end

-- a row that begins at a height
unfoldable pub row_text : Row → Cutting → (y end : ℕ) → List ℕ
row_text row cutting y end = row_head row y ++ row_words row cutting ++ row_drawing row end ++ codes "</g>\n"

-- the rows, one below another
abbrev pub all_rows : List Row → Cutting → (y end : ℕ) → List ℕ
all_rows [] cutting y end = []
all_rows (row ∷ rows) cutting y end = row_text row cutting y end ++ all_rows rows cutting (y + height_of row) end

unfoldable pub heading_place : (y : ℕ) → List ℕ
heading_place y = joined (codes "<g transform=\"translate(48 " ∷ decimal y ∷ codes ")\">\n" ∷ [])

-- what stands above the rows, with the key to the ticks
unfoldable pub rows_heading : List ℕ
rows_heading =
    codes "<rect class=\"page\" y=\"-16\" width=\"880\" height=\"28\"/>\n<text class=\"part\">Requests by flow <tspan class=\"note\">a bar is one request's wait, until it has its seats or gives up; a higher row has more requests</tspan></text>\n<path class=\"rejected\" d=\"M744 -9v10\"/>\n<text class=\"note\" x=\"752\">rejected</text>\n<path class=\"gave-up\" d=\"M822 -8l3 7h-6z\"/>\n<text class=\"note\" x=\"832\">gave up</text>\n</g>\n"

-- the rows and their heading, from a height on
unfoldable pub rows_text : List Row → Cutting → (y end : ℕ) → List ℕ
rows_text rows cutting y end = heading_place (y + 34) ++ rows_heading ++ all_rows rows cutting (y + 44) end
