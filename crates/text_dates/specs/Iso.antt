-- A date as text, YYYY-MM-DD (ISO 8601). Definitions only.
use Rattle.std.specs.Prelude.{ℕ, List, [], ◌∷◌, ◌++◌}
use Rattle.text_digits.specs.Hex.{digits}
use Rattle.text_dates.specs.declared.date.Date.{Date}
use Rattle.text_dates.specs.Calendar.{date_of}

-- the ASCII code of the dash
abbrev pub dash : ℕ
dash = 45

-- four digits of the year, two of the month, two of the day
unfoldable pub iso_text : Date → List ℕ
iso_text t = digits 10 4 t.year ++ (dash ∷ []) ++ digits 10 2 t.month ++ (dash ∷ []) ++ digits 10 2 t.day

-- the text of day n's date
unfoldable pub iso_of : ℕ → List ℕ
unfolding iso_text
iso_of n = iso_text (date_of n)
