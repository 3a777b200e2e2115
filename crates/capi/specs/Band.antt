-- The band's answer as the C interface gives it: three words.
-- The first says which case it is, the others hold its values, 0 where there is none.
use Rattle.std.specs.Prelude.{ℕ, List, [], ◌∷◌}
use Rattle.std.specs.Float.{binary64}
use Rattle.std.specs.Float.Ieee.{to_bits}
use Rattle.band.specs.Answer.{BandResult, banded, refused}

-- 0 and the bits of the low and of the high end, or 1 and the refusal's number
unfoldable pub band_words : BandResult → List ℕ
band_words (banded e) = 0 ∷ to_bits binary64 e.low ∷ to_bits binary64 e.high ∷ []
band_words (refused n) = 1 ∷ n ∷ 0 ∷ []
