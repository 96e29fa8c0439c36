-- The colours. A dark page has others.
use Rattle.std.specs.Prelude.{ℕ, List, ◌++◌, codes}

-- the letters
unfoldable pub letters_style : List ℕ
letters_style =
    codes "<style>\ntext{font:12px system-ui,-apple-system,\"Segoe UI\",sans-serif;fill:#1f2328}\n.head{font-size:17px;font-weight:600}\n.part{font-size:13px;font-weight:600}\n.note{font-size:12px;fill:#59636e;font-weight:400}\n.small{font-size:10px;fill:#59636e}\n"

-- what is drawn
unfoldable pub marks_style : List ℕ
marks_style =
    codes ".page{fill:#fff}\n.plot{fill:#8a9099;fill-opacity:.12}\n.line{stroke:#8a9099;stroke-opacity:.25}\n.seats{fill:#3267b2}\n.waiting{fill:#b07d00}\n.limit{stroke:#1f2328;stroke-dasharray:6 4}\n.rejected{stroke:#d1242f;stroke-width:1.5}\n.line,.limit,.rejected{fill:none}\n"

-- the same on a dark page
unfoldable pub dark_style : List ℕ
dark_style =
    codes "@media(prefers-color-scheme:dark){\ntext{fill:#e6edf3}\n.note,.small{fill:#9198a1}\n.page{fill:#0d1117}\n.seats{fill:#6c9fe8}\n.waiting{fill:#e3b341}\n.limit{stroke:#e6edf3}\n.rejected{stroke:#ff6a69}\n}\n</style>\n"

-- all of them
unfoldable pub style_text : List ℕ
style_text = letters_style ++ marks_style ++ dark_style
