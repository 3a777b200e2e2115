-- The text of a name's line: the name, its links, and the overs at each chance, of which one may be marked.
-- Assumes nothing.
use Rattle.std.specs.Prelude.{ℕ, Bool, cond, List, [], ◌∷◌, ◌++◌}
use Rattle.text_digits.specs.Hex.{decimal_digits}

-- `: links `, `; over at `, ` in a million: `, `, MORE THAN PROMISED`
unfoldable pub word_links : List ℕ
word_links = 0x3a ∷ 0x20 ∷ 0x6c ∷ 0x69 ∷ 0x6e ∷ 0x6b ∷ 0x73 ∷ 0x20 ∷ []

unfoldable pub word_over : List ℕ
word_over = 0x3b ∷ 0x20 ∷ 0x6f ∷ 0x76 ∷ 0x65 ∷ 0x72 ∷ 0x20 ∷ 0x61 ∷ 0x74 ∷ 0x20 ∷ []

unfoldable pub word_million : List ℕ
word_million = 0x20 ∷ 0x69 ∷ 0x6e ∷ 0x20 ∷ 0x61 ∷ 0x20 ∷ 0x6d ∷ 0x69 ∷ 0x6c ∷ 0x6c ∷ 0x69 ∷ 0x6f ∷ 0x6e ∷ 0x3a ∷ 0x20 ∷ []

unfoldable pub word_more : List ℕ
word_more = 0x2c ∷ 0x20 ∷ 0x4d ∷ 0x4f ∷ 0x52 ∷ 0x45 ∷ 0x20 ∷ 0x54 ∷ 0x48 ∷ 0x41 ∷ 0x4e ∷ 0x20 ∷ 0x50 ∷ 0x52 ∷ 0x4f ∷ 0x4d ∷ 0x49 ∷ 0x53 ∷ 0x45 ∷ 0x44 ∷ []

unfoldable pub head_text : List ℕ → ℕ → List ℕ
head_text name links = name ++ word_links ++ decimal_digits links

unfoldable pub mark_text : Bool → List ℕ
mark_text marked = cond marked word_more []

unfoldable pub chance_text : ℕ → ℕ → Bool → List ℕ
chance_text chance overs marked = word_over ++ decimal_digits chance ++ word_million ++ decimal_digits overs ++ mark_text marked

-- `unknown names: lines `
unfoldable pub word_unknown : List ℕ
word_unknown =
    0x75 ∷ 0x6e ∷ 0x6b ∷ 0x6e ∷ 0x6f ∷ 0x77 ∷ 0x6e ∷ 0x20 ∷ 0x6e ∷ 0x61 ∷ 0x6d ∷ 0x65 ∷ 0x73 ∷ 0x3a ∷ 0x20 ∷ 0x6c ∷ 0x69 ∷ 0x6e ∷ 0x65 ∷ 0x73 ∷ 0x20 ∷ []

unfoldable pub unknown_text : ℕ → List ℕ
unknown_text lines = word_unknown ++ decimal_digits lines ++ (0x0a ∷ [])
