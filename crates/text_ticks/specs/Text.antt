-- Ticks as text, in milliseconds with two decimals: a tick is ten microseconds, 0.01 ms. Definitions only.
use Rattle.std.specs.Prelude.{ℕ, ◌/◌, ◌%◌, cond, List, [], ◌∷◌, ◌++◌, Option, Some, None}
use Rattle.text_digits.specs.Hex.{digits, decimal_digits}
use Rattle.text_ticks.specs.declared.whole.Count.{Count}

-- the ASCII codes of the minus sign and of the point
abbrev pub minus_sign : ℕ
minus_sign = 45

abbrev pub point : ℕ
point = 46

-- whole milliseconds, a point, and the hundredths
unfoldable pub hundredths : ℕ → List ℕ
hundredths n = decimal_digits (n / 100) ++ (point ∷ digits 10 2 (n % 100))

unfoldable pub count_text : Count → List ℕ
unfolding hundredths
count_text c = cond c.below (minus_sign ∷ []) [] ++ hundredths c.size

-- a declined number is a minus sign alone
unfoldable pub ticks_text : Option Count → List ℕ
unfolding count_text
ticks_text (Some c) = count_text c
ticks_text None = minus_sign ∷ []

-- the most bytes that a text has: a sign, 14 digits, a point and two digits
abbrev pub max_text : ℕ
max_text = 18
