-- The limit's answer as the C interface gives it: five words.
-- The first says which case it is, the others hold its values, 0 where there is none.
use Rattle.std.specs.Prelude.{ℕ, List, [], ◌∷◌}
use Rattle.std.specs.Float.{binary64}
use Rattle.std.specs.Float.Ieee.{to_bits}
use Rattle.limit.specs.Answer.{LimitResult, limited, refused}

-- 0 and the bits of mean, spread, quantile and limit, or 1 and the refusal's number.
unfoldable pub limit_words : LimitResult → List ℕ
limit_words (limited f) =
    0 ∷ to_bits binary64 f.mean ∷ to_bits binary64 f.spread ∷ to_bits binary64 f.quantile ∷ to_bits binary64 f.limit ∷ []
limit_words (refused n) = 1 ∷ n ∷ 0 ∷ 0 ∷ 0 ∷ []
