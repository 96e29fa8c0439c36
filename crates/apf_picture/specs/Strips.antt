-- The text of the queues.
use Rattle.std.specs.Prelude.{ℕ, ◌+◌, ◌-◌, ◌*◌, ◌/◌, ◌%◌, List, [], ◌∷◌, ◌++◌, Bool, not, ◌&&◌, ◌||◌, ◌==◌, if◌then◌else◌, min, max, length, map, drop, slice_index, codes, decimal}
use Rattle.std.specs.List.{flat_map, range_with_len}
use Rattle.apf_picture.specs.declared.columns.Strip.{Strip}
use Rattle.apf_picture.specs.Scales.{scaled_of}
use Rattle.apf_picture.specs.Columns.{lengths_in, queue_in}
use Rattle.apf_picture.specs.Words.{joined, counted_text}

-- the queues: the shade of a queue of this length, 0 of an empty one and 8 of the longest
abbrev pub shade_of : (longest length : ℕ) → ℕ
shade_of longest length = if length == 0 then 0 else max (scaled_of length longest 8) 1

-- a run of columns of this shade begins at the column
abbrev pub begins : List ℕ → (wanted longest column : ℕ) → Bool
begins lengths wanted longest column =
    shade_of longest (slice_index lengths column) == wanted && (column == 0 || not (shade_of longest (slice_index lengths (column - 1)) == wanted))

-- how many of these columns have the shade, up to the first that has another one
abbrev pub run_of : (longest wanted : ℕ) → List ℕ → ℕ
run_of longest wanted [] = 0
run_of longest wanted (length ∷ lengths) = if shade_of longest length == wanted then run_of longest wanted lengths + 1 else 0

unfoldable pub run_text : (column y columns : ℕ) → List ℕ
run_text column y columns =
    joined (codes "M" ∷ decimal column ∷ codes " " ∷ decimal y ∷ codes "h" ∷ decimal columns ∷ [])

abbrev pub run_at : List ℕ → (y wanted longest column : ℕ) → List ℕ
run_at lengths y wanted longest column = if begins lengths wanted longest column then run_text column y (run_of longest wanted (drop column lengths)) else []

-- the runs of columns of this shade in one strip
abbrev pub runs_text : List ℕ → (y wanted longest : ℕ) → List ℕ
runs_text lengths y wanted longest = flat_map (run_at lengths y wanted longest) (range_with_len 0 (length lengths))

-- and in all strips
abbrev pub strip_runs : (wanted longest : ℕ) → Strip → List ℕ
strip_runs wanted longest strip = runs_text (lengths_in strip) (10 * strip.place + 5) wanted longest

abbrev pub all_runs : List Strip → (longest wanted : ℕ) → List ℕ
all_runs strips longest wanted = flat_map (strip_runs wanted longest) strips

unfoldable pub shade_text : List Strip → (longest shade : ℕ) → List ℕ
shade_text strips longest shade =
    joined (codes "<path class=\"shade\" stroke-opacity=\"." ∷ decimal (12 * shade) ∷ codes "\" d=\"" ∷ []) ++ all_runs strips longest shade ++ codes "\"/>\n"

-- the shades from 1 on, this many of them
abbrev pub shades_text : List Strip → (longest shades : ℕ) → List ℕ
shades_text strips longest shades = flat_map (λ place. shade_text strips longest (place + 1)) (range_with_len 0 shades)

-- how high this many strips are together
abbrev pub high_of : (strips : ℕ) → ℕ
high_of strips = min (12 * strips) 240

-- the number of a queue, with its foot at a height
unfoldable pub queue_number : (y queue : ℕ) → List ℕ
queue_number y queue = joined (codes "<text class=\"small\" x=\"-6\" y=\"" ∷ decimal y ∷ codes "\" text-anchor=\"end\">" ∷ decimal queue ∷ codes "</text>\n" ∷ [])

-- the middle of a strip
abbrev pub middle_of : (strips place : ℕ) → ℕ
middle_of strips place = scaled_of (2 * place + 1) (2 * strips) (high_of strips)

-- the number of the queue at a place, if the place is a multiple of this number
abbrev pub queue_label : (queues : List ℕ) (each place : ℕ) → List ℕ
queue_label queues each place = if place % each == 0 then queue_number (middle_of (length queues) place + 4) (slice_index queues place) else []

abbrev pub queue_labels : (queues : List ℕ) (each : ℕ) → List ℕ
queue_labels queues each = flat_map (queue_label queues each) (range_with_len 0 (length queues))

-- the numbers have room for twenty queues
abbrev pub each_of : (strips : ℕ) → ℕ
each_of strips = max ((strips + 19) / 20) 1

unfoldable pub longest_text : (longest : ℕ) → List ℕ
longest_text longest = joined (codes " used, a stronger shade is a longer queue, at most " ∷ decimal longest ∷ codes " waiting in one</tspan></text>\n" ∷ [])

unfoldable pub queues_heading : (queues longest : ℕ) → List ℕ
queues_heading queues longest =
    codes "<g transform=\"translate(48 310)\">\n<rect class=\"page\" y=\"-28\" width=\"880\" height=\"28\"/>\n<text class=\"part\" y=\"-12\">Queues <tspan class=\"note\">" ++ counted_text queues (codes "queue") ++ longest_text longest

-- the scale of the shades: its beginning, a shade, the first of them, and its end
unfoldable pub scale_head : List ℕ
scale_head =
    codes "<text class=\"small\" x=\"748\" y=\"-13\" text-anchor=\"end\">0</text>\n<rect class=\"plot\" x=\"752\" y=\"-22\" width=\"99\" height=\"10\"/>\n"

unfoldable pub scale_shade : (shade : ℕ) → List ℕ
scale_shade shade =
    joined (codes "<path class=\"shade\" stroke-opacity=\"." ∷ decimal (12 * shade) ∷ codes "\" d=\"M" ∷ decimal (752 + 11 * shade) ∷ codes " -17h11\"/>\n" ∷ [])

abbrev pub scale_shades : (shades : ℕ) → List ℕ
scale_shades shades = flat_map (λ place. scale_shade (place + 1)) (range_with_len 0 shades)

unfoldable pub scale_end : (longest : ℕ) → List ℕ
scale_end longest = joined (codes "<text class=\"small\" x=\"855\" y=\"-13\">" ∷ decimal longest ∷ codes "</text>\n" ∷ [])

unfoldable pub scale_text : (longest : ℕ) → List ℕ
scale_text longest = scale_head ++ scale_shades 8 ++ scale_end longest

-- the heading and the scale
unfoldable pub queues_above : (queues longest : ℕ) → List ℕ
queues_above queues longest = queues_heading queues longest ++ scale_text longest

unfoldable pub shades_head : (high inside : ℕ) → List ℕ
shades_head high inside =
    joined (codes "<svg width=\"880\" height=\"" ∷ decimal high ∷ codes "\" viewBox=\"0 0 880 " ∷ decimal inside ∷ codes "\" preserveAspectRatio=\"none\">\n<rect class=\"plot\" width=\"880\" height=\"" ∷ decimal inside ∷ codes "\"/>\n" ∷ [])

-- the strips, each in eight shades
unfoldable pub strips_text : List Strip → (longest : ℕ) → List ℕ
strips_text strips longest =
    shades_head (high_of (length strips)) (10 * length strips) ++ shades_text strips longest 8 ++ codes "</svg>\n"

-- the part of the queues, of which the longest had this many requests at most
unfoldable pub queues_text : List Strip → (longest : ℕ) → List ℕ
queues_text strips longest =
    queues_above (length strips) longest ++ strips_text strips longest ++ queue_labels (map queue_in strips) (each_of (length strips)) ++ codes "</g>\n"
