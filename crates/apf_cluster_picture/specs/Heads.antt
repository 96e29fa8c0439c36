-- The texts of the title and of the description, and what stands above the strips.
use Rattle.std.specs.Prelude.{ℕ, ◌==◌, if◌then◌else◌, List, [], ◌∷◌, ◌++◌, Option, Some, None, codes, decimal}
use Rattle.std.specs.Borrow.{Bor}
use Rattle.std.specs.List.{flat_map}
use Rattle.apf_picture.specs.Words.{joined, counted_text, time_text}
use Rattle.apf_strips.specs.declared.strip.Strip.{Strip}
use Rattle.apf_cluster_picture.specs.Facts.{named_text, facts_text}
use Rattle.apf_cluster_picture.specs.Levels.{is_quiet}
use Rattle.apf_cluster_picture.specs.Styles.{style_text}
use Rattle.apf_cluster_picture.specs.declared.facts.Side.{Side}
use Rattle.apf_cluster_picture.specs.declared.facts.Side.TheVariants.{Alone, First, Second}
use Rattle.apf_cluster_picture.specs.declared.level.LevelStrip.{LevelStrip}

unfoldable pub size_text : (height : ℕ) → List ℕ
size_text height =
    joined (codes "<svg xmlns=\"http://www.w3.org/2000/svg\" width=\"960\" height=\"" ∷ decimal height ∷ codes "\" viewBox=\"0 0 960 " ∷ decimal height ∷ codes "\" role=\"img\" aria-labelledby=\"title desc\">\n" ∷ [])

-- how many levels are drawn, and how long the log was
unfoldable pub title_words : (shown end : ℕ) → List ℕ
title_words shown end = counted_text shown (codes "priority level") ++ codes " over " ++ time_text end

unfoldable pub title_element : (shown end : ℕ) → List ℕ
title_element shown end = codes "<title id=\"title\">" ++ title_words shown end ++ codes "</title>\n"

-- the numbers of a strip as a sentence
unfoldable pub sentence : LevelStrip → Side → Strip → List ℕ
sentence l side s = named_text l.name.now side ++ codes ": " ++ facts_text l.is_exempt s ++ codes ". "

abbrev pub sentences_by : LevelStrip → Option (Bor Strip) → List ℕ
sentences_by l None = sentence l Alone l.first.now
sentences_by l (Some second) = sentence l First l.first.now ++ sentence l Second second.now

abbrev pub sentences_of : LevelStrip → List ℕ
sentences_of l = sentences_by l l.second

-- those of a level, if somebody came
abbrev pub level_sentence : LevelStrip → List ℕ
level_sentence l = if is_quiet l then [] else sentences_of l

abbrev pub sentences : List LevelStrip → List ℕ
sentences levels = flat_map level_sentence levels

unfoldable pub description : List LevelStrip → List ℕ
description levels = codes "<desc id=\"desc\">" ++ sentences levels ++ codes "</desc>\n"

unfoldable pub page_text : (height : ℕ) → List ℕ
page_text height = joined (codes "<rect class=\"page\" width=\"960\" height=\"" ∷ decimal height ∷ codes "\"/>\n" ∷ [])

unfoldable pub title_line : (shown end : ℕ) → List ℕ
title_line shown end = codes "<text class=\"head\" x=\"48\" y=\"28\">" ++ title_words shown end ++ codes "</text>\n"

-- what is drawn how
unfoldable pub legend_text : List ℕ
legend_text =
    codes "<rect class=\"seats\" x=\"48\" y=\"40\" width=\"14\" height=\"8\"/>\n<text class=\"note\" x=\"66\" y=\"48\">seats in use</text>\n<path class=\"limit\" d=\"M156 44h24\"/>\n<text class=\"note\" x=\"184\" y=\"48\">limit, on the same scale</text>\n<rect class=\"waiting\" x=\"344\" y=\"40\" width=\"14\" height=\"8\"/>\n<text class=\"note\" x=\"362\" y=\"48\">requests that wait, on a scale of their own</text>\n<path class=\"rejected\" d=\"M634 40v8M639 40v8\"/>\n<text class=\"note\" x=\"646\" y=\"48\">a column with rejected requests</text>\n"

unfoldable pub notes_text : List ℕ
notes_text = codes "<text class=\"note\" x=\"48\" y=\"66\">Each column is the mean of its time, and a number at the top of a scale is the greatest of them.</text>\n"

-- how many levels are left out, if there are any
unfoldable pub left_out_line : (quiet : ℕ) → List ℕ
left_out_line quiet = codes "<text class=\"note\" x=\"48\" y=\"84\">Left out: " ++ counted_text quiet (codes "level") ++ codes " to which nobody came</text>\n"

abbrev pub left_out_text : (quiet : ℕ) → List ℕ
left_out_text quiet = if quiet == 0 then [] else left_out_line quiet

-- what stands above the strips
unfoldable pub above_text : (shown quiet end : ℕ) → List ℕ
above_text shown quiet end = title_line shown end ++ legend_text ++ notes_text ++ left_out_text quiet

unfoldable pub beginning_text : List LevelStrip → (shown end height : ℕ) → List ℕ
beginning_text levels shown end height = size_text height ++ title_element shown end ++ description levels

-- all that comes before the axis
unfoldable pub head_text : List LevelStrip → (shown quiet end height : ℕ) → List ℕ
head_text levels shown quiet end height = beginning_text levels shown end height ++ style_text ++ page_text height ++ above_text shown quiet end
