-- What it is to be the exact decimal of a double: said of the bytes of a text, by reading its digits as one number. Definitions only.
use Rattle.std.specs.Prelude.{ℕ, ◌+◌, ◌-◌, ◌*◌, ◌^◌, ◌≡◌, Bool, true, false, not, ◌&&◌, cond, List, [], ◌∷◌, ◌++◌, leb, ltb, eqb, length, Float}
use Rattle.std.specs.Float.Ieee.Positive.{num, den}
use Rattle.std.specs.Float.Ieee.Scale.{finite}
use Rattle.text_ticks.specs.Ticks.{minus_of}
use Rattle.text_ticks.specs.Text.{minus_sign, point}

-- whether every byte is the ASCII code of a digit from 0 to 9
unfoldable pub are_digits : List ℕ → Bool
are_digits [] = true
are_digits (c ∷ cs) = leb 48 c && ltb c 58 && are_digits cs

-- the number that digits make, behind the number n of those before them
unfoldable pub number_from : ℕ → List ℕ → ℕ
number_from n [] = n
number_from n (c ∷ cs) = number_from (n * 10 + (c - 48)) cs

-- whether there is a digit, and no 0 in front of others
unfoldable pub is_lean : List ℕ → Bool
is_lean [] = false
is_lean (c ∷ []) = true
is_lean (c ∷ d ∷ cs) = not (eqb c 48)

-- whether the last byte is the digit 0
unfoldable pub ends_in_zero : List ℕ → Bool
ends_in_zero [] = false
ends_in_zero (c ∷ []) = eqb c 48
ends_in_zero (c ∷ d ∷ cs) = ends_in_zero (d ∷ cs)

-- digits behind a point, and no point where there are none
unfoldable pub pointed : List ℕ → List ℕ
pointed [] = []
pointed (c ∷ cs) = point ∷ c ∷ cs

-- x is finite, and the text is x, no more and no less, in the one way: a sign where x has one, digits with no 0 in front of others, and behind a point
-- digits of which the last is not 0; the number that all the digits make is x times 10 for each of those behind the point
pub record IsExact (x : Float) (text : List ℕ) : Type 0 where
  pub is_finite : finite x ≡ true
  pub whole : List ℕ
  pub behind : List ℕ
  pub parts : text ≡ cond (minus_of x) (minus_sign ∷ []) [] ++ (whole ++ pointed behind)
  pub whole_digits : are_digits whole ≡ true
  pub behind_digits : are_digits behind ≡ true
  pub front : is_lean whole ≡ true
  pub last : ends_in_zero behind ≡ false
  pub value : number_from 0 (whole ++ behind) * den x ≡ num x * 10 ^ length behind
