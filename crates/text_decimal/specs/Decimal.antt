-- The exact decimal text of a double. Definitions only.
-- A finite double is ±m / 2 ^ k in lowest terms, and m / 2 ^ k = m * 5 ^ k / 10 ^ k: it has k digits behind the point, and they are the last k of m * 5 ^ k.
use Rattle.std.specs.Prelude.{ℕ, zero, suc, ◌*◌, ◌/◌, ◌^◌, Bool, ◌&&◌, cond, List, [], ◌∷◌, ◌++◌, leb, pos, negsuc, Float}
use Rattle.std.specs.Float.{nan, inf, fin}
use Rattle.std.specs.Float.Ieee.Positive.{num}
use Rattle.text_digits.specs.Hex.{digits, decimal_digits}
use Rattle.text_ticks.specs.Ticks.{minus_of, in_range}
use Rattle.text_ticks.specs.Text.{minus_sign, point}

-- how many binary digits x has behind the point: its size is num x / 2 ^ places_behind x, in lowest terms
abbrev pub places_behind : Float → ℕ
places_behind nan = 0
places_behind (inf s) = 0
places_behind (fin s m (pos e)) = 0
places_behind (fin s m (negsuc e)) = suc e

-- m / 2 ^ k: the whole number, and behind a point the rest, if there is one
unfoldable pub fraction_text : ℕ → ℕ → List ℕ
fraction_text m zero = decimal_digits m
fraction_text m (suc k) = decimal_digits (m / 2 ^ suc k) ++ (point ∷ digits 10 (suc k) (m * 5 ^ suc k))

-- the same behind its sign, which zero has too
unfoldable pub signed_text : Bool → ℕ → ℕ → List ℕ
unfolding fraction_text
signed_text s m k = cond s (minus_sign ∷ []) [] ++ fraction_text m k

-- the most binary digits behind the point that are shown
abbrev pub most_places : ℕ
most_places = 60

-- whether x is shown: finite, below 2 ^ 53 in size, and with no more digits behind the point
unfoldable pub is_shown : Float → Bool
unfolding in_range
is_shown x = in_range x && leb (places_behind x) most_places

-- the exact decimal of x, or a dash where it is not shown
unfoldable pub exact_text : Float → List ℕ
unfolding signed_text is_shown
exact_text x = cond (is_shown x) (signed_text (minus_of x) (num x) (places_behind x)) (minus_sign ∷ [])

-- the most bytes that a text has: a sign, a digit, a point and 60 digits. A double with more before the point has fewer behind it
abbrev pub max_text : ℕ
max_text = 63
