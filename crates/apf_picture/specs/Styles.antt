-- The colours. A dark page has others.
use Rattle.std.specs.Prelude.{ℕ, List, ◌++◌, codes}

-- the letters
unfoldable pub letters_style : List ℕ
letters_style =
    codes "<style>\ntext{font:12px system-ui,-apple-system,\"Segoe UI\",sans-serif;fill:#1f2328}\n.head{font-size:17px;font-weight:600}\n.part{font-size:13px;font-weight:600}\n.note{fill:#59636e;font-weight:400}\n.small{font-size:10px;fill:#59636e}\n"

-- what is drawn in one colour
unfoldable pub marks_style : List ℕ
marks_style =
    codes ".page{fill:#fff}\n.plot{fill:#8a9099;fill-opacity:.12}\n.line{stroke:#8a9099;stroke-opacity:.25}\n.limit{stroke:#1f2328;stroke-dasharray:6 4}\n.peak{stroke:#1f2328}\n.shade{stroke:#33497a;stroke-width:9}\n.rejected{stroke:#d1242f;stroke-width:1.5}\n.gave-up{fill:#b07d00}\n.line,.limit,.peak,.shade,.bars,.rejected{fill:none}\n"

-- the colours of the rows, each of another lightness
unfoldable pub rows_style : List ℕ
rows_style =
    codes ".f0{fill:#b55821}.b0{stroke:#b55821}\n.f1{fill:#461c75}.b1{stroke:#461c75}\n.f2{fill:#0ca3b6}.b2{stroke:#0ca3b6}\n.f3{fill:#951d70}.b3{stroke:#951d70}\n.f4{fill:#420936}.b4{stroke:#420936}\n.f5{fill:#456539}.b5{stroke:#456539}\n.f6{fill:#00128f}.b6{stroke:#00128f}\n.f7{fill:#3267b2}.b7{stroke:#3267b2}\n.f8{fill:#791909}.b8{stroke:#791909}\n.f9{fill:#ab69ee}.b9{stroke:#ab69ee}\n.f10{fill:#623d45}.b10{stroke:#623d45}\n.f11{fill:#171c08}.b11{stroke:#171c08}\n.f12{fill:#7d7d7d}.b12{stroke:#7d7d7d}\n"

-- the same on a dark page
unfoldable pub dark_marks_style : List ℕ
dark_marks_style =
    codes "@media(prefers-color-scheme:dark){\ntext{fill:#e6edf3}\n.note,.small{fill:#9198a1}\n.page{fill:#0d1117}\n.limit,.peak{stroke:#e6edf3}\n.shade{stroke:#a6c0f5}\n.rejected{stroke:#ff6a69}\n.gave-up{fill:#e3b341}\n"

-- the same on a dark page
unfoldable pub dark_rows_style : List ℕ
dark_rows_style =
    codes ".f0{fill:#fd8867}.b0{stroke:#fd8867}\n.f1{fill:#7c4dab}.b1{stroke:#7c4dab}\n.f2{fill:#e3ce5d}.b2{stroke:#e3ce5d}\n.f3{fill:#0492a9}.b3{stroke:#0492a9}\n.f4{fill:#d6e9fd}.b4{stroke:#d6e9fd}\n.f5{fill:#a07fe4}.b5{stroke:#a07fe4}\n.f6{fill:#f7a3ff}.b6{stroke:#f7a3ff}\n.f7{fill:#b0541d}.b7{stroke:#b0541d}\n.f8{fill:#8df097}.b8{stroke:#8df097}\n.f9{fill:#b89a2c}.b9{stroke:#b89a2c}\n.f10{fill:#fdf2e4}.b10{stroke:#fdf2e4}\n.f11{fill:#d14c54}.b11{stroke:#d14c54}\n.f12{fill:#b5b5b5}.b12{stroke:#b5b5b5}\n}\n</style>\n"

-- all of them
unfoldable pub style_text : List ℕ
style_text = letters_style ++ marks_style ++ rows_style ++ dark_marks_style ++ dark_rows_style
