-- The numbers of a strip in words.
use Rattle.std.specs.Prelude.{ℕ, Bool, true, false, List, [], ◌∷◌, ◌++◌, codes, decimal}
use Rattle.std.specs.List.{flat_map}
use Rattle.std.specs.Str.{chars}
use Rattle.apf_picture.specs.Names.{character_text}
use Rattle.apf_picture.specs.Words.{joined}
use Rattle.apf_strips.specs.Spans.{SeriesView}
use Rattle.apf_strips.specs.declared.strip.Strip.{Strip}
use Rattle.apf_cluster_picture.specs.Means.{peak_of, mean_text}
use Rattle.apf_cluster_picture.specs.declared.facts.Side.{Side}
use Rattle.apf_cluster_picture.specs.declared.facts.Side.TheVariants.{Alone, First, Second}

-- a name, as XML has it
abbrev pub name_text : List ℕ → List ℕ
name_text name = flat_map character_text (chars name)

-- of which cluster a strip is, where there are two
abbrev pub side_text : Side → List ℕ
side_text Alone = []
side_text First = codes ", first cluster"
side_text Second = codes ", second cluster"

unfoldable pub named_text : List ℕ → Side → List ℕ
named_text name side = name_text name ++ side_text side

-- the greatest mean of a bin of each, and how many were rejected
unfoldable pub seats_words : SeriesView → List ℕ
seats_words seats = codes "seats in use at most " ++ mean_text (peak_of seats)

unfoldable pub no_limit : List ℕ
no_limit = codes ", no limit"

unfoldable pub at_most_limit : SeriesView → List ℕ
at_most_limit limit = codes ", limit at most " ++ mean_text (peak_of limit)

abbrev pub limit_words : (is_exempt : Bool) → SeriesView → List ℕ
limit_words true limit = no_limit
limit_words false limit = at_most_limit limit

unfoldable pub waiting_words : SeriesView → List ℕ
waiting_words waiting = codes ", waiting at most " ++ mean_text (peak_of waiting)

unfoldable pub rejected_words : ℕ → List ℕ
rejected_words rejected = joined (codes ", " ∷ decimal rejected ∷ codes " rejected" ∷ [])

unfoldable pub facts_text : (is_exempt : Bool) → Strip → List ℕ
facts_text is_exempt s = seats_words s.seats ++ limit_words is_exempt s.limit ++ waiting_words s.waiting ++ rejected_words s.rejected.total
