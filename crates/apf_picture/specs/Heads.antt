-- The texts of the title and of the description.
use Rattle.std.specs.Prelude.{ℕ, ◌+◌, Bool, true, false, List, [], ◌∷◌, ◌++◌, Option, Some, None, codes, decimal}
use Rattle.std.specs.List.{flat_map}
use Rattle.apf_model.specs.declared.config.Config.{Config}
use Rattle.apf_model.specs.declared.response.Response.{Response}
use Rattle.apf_model.specs.declared.response.Response.TheVariants.{Queue, Reject}
use Rattle.apf_picture.specs.declared.row.Numbers.{Numbers}
use Rattle.apf_picture.specs.declared.row.Row.{Row}
use Rattle.apf_picture.specs.Labels.{called}
use Rattle.apf_picture.specs.Names.{name_text, whole_name, whole_label}
use Rattle.apf_picture.specs.Words.{joined, counted_text, time_text, patience_text, numbers_text, row_numbers_text}

-- how many requests there are, and of how many flows
unfoldable pub counts_text : (requests flows : ℕ) → List ℕ
counts_text requests flows = counted_text requests (codes "request") ++ codes " of " ++ counted_text flows (codes "flow")

-- the schema that all flows share
abbrev pub schema_text : Option (List ℕ) → List ℕ
schema_text None = []
schema_text (Some schema) = codes " of " ++ name_text 28 schema

unfoldable pub shared_sentence : List ℕ → List ℕ
shared_sentence schema = codes " The schema of all flows: " ++ whole_name schema ++ codes "."

abbrev pub schema_sentence : Option (List ℕ) → List ℕ
schema_sentence None = []
schema_sentence (Some schema) = shared_sentence schema

-- the settings of the level, and the patience
unfoldable pub queue_settings : Config → List ℕ
queue_settings config =
    joined (codes "limit " ∷ decimal config.limit ∷ codes ", queues " ∷ decimal config.queues ∷ codes ", hand size " ∷ decimal config.hand_size ∷ codes ", queue length limit " ∷ decimal config.queue_length_limit ∷ codes ", " ∷ [])

unfoldable pub reject_settings : (limit : ℕ) → List ℕ
reject_settings limit = joined (codes "limit " ∷ decimal limit ∷ codes ", no queues: what does not fit is rejected, " ∷ [])

abbrev pub settings_by : Response → Config → (patience : ℕ) → List ℕ
settings_by Queue config patience = queue_settings config ++ patience_text patience
settings_by Reject config patience = reject_settings config.limit ++ patience_text patience

abbrev pub settings_text : Config → (patience : ℕ) → List ℕ
settings_text config patience = settings_by config.limit_response config patience

-- how long the run was, or from when until when the stretch of it is that is drawn
unfoldable pub run_text : (end : ℕ) → List ℕ
run_text end = codes ", " ++ time_text end ++ codes " in all"

unfoldable pub stretch_text : (from end : ℕ) → List ℕ
stretch_text from end = codes ", from " ++ time_text from ++ codes " to " ++ time_text (from + end)

abbrev pub length_text : (is_whole : Bool) → (from end : ℕ) → List ℕ
length_text true from end = run_text end
length_text false from end = stretch_text from end

-- the numbers of all requests, and that
unfoldable pub whole_text : Numbers → (is_whole : Bool) → (from end : ℕ) → List ℕ
whole_text numbers is_whole from end = numbers_text numbers ++ length_text is_whole from end

-- the most seats in use, how many queues were used, and the most requests that waited in one
unfoldable pub facts_text : (used queues longest : ℕ) → List ℕ
facts_text used queues longest =
    joined (codes ". Seats in use by flow: at most " ∷ decimal used ∷ codes ". Queues used: " ∷ decimal queues ∷ codes ", at most " ∷ decimal longest ∷ codes " waiting in one." ∷ [])

-- the numbers of a row, as a sentence, and those of each row
unfoldable pub subject : Row → List ℕ
subject row = codes " " ++ whole_label (called row.label) ++ codes ", "

unfoldable pub sentence : Row → List ℕ
sentence row = subject row ++ row_numbers_text row.numbers ++ codes "."

abbrev pub sentences : List Row → List ℕ
sentences rows = flat_map sentence rows

-- what all names begin with, if it is left out of them: behind the title, and as a line of its own
unfoldable pub beginning_words : List ℕ → List ℕ
beginning_words beginning = codes "names begin with " ++ name_text 96 beginning

abbrev pub beginning_text : List ℕ → List ℕ
beginning_text [] = []
beginning_text (c ∷ cs) = codes ", " ++ beginning_words (c ∷ cs)

unfoldable pub own_line : List ℕ → List ℕ
own_line beginning = codes "<text class=\"note\" x=\"48\" y=\"79\">" ++ beginning_words beginning ++ codes "</text>\n"

abbrev pub beginning_line : List ℕ → List ℕ
beginning_line [] = []
beginning_line (c ∷ cs) = own_line (c ∷ cs)

-- the size of the picture, and what is behind all parts
unfoldable pub size_text : (height : ℕ) → List ℕ
size_text height =
    joined (codes "<svg xmlns=\"http://www.w3.org/2000/svg\" width=\"960\" height=\"" ∷ decimal height ∷ codes "\" viewBox=\"0 0 960 " ∷ decimal height ∷ codes "\" role=\"img\" aria-labelledby=\"title desc\">\n" ∷ [])

unfoldable pub page_text : (height : ℕ) → List ℕ
page_text height = joined (codes "<rect class=\"page\" width=\"960\" height=\"" ∷ decimal height ∷ codes "\"/>\n" ∷ [])
