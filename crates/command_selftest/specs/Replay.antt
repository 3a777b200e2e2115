-- Stored answers beside what the definitions give: how many differ.
-- Assumes nothing.
use Rattle.std.specs.Prelude.{ℕ, ◌+◌, Bool, cond, List, [], ◌∷◌, eqb, length}
use Rattle.std.specs.Float.{binary64}
use Rattle.std.specs.Float.Ieee.{to_bits}
use Rattle.pxfm.specs.Inverfc.{f_erfcinv_bits}
use Rattle.limit.specs.declared.Figures.{Figures}
use Rattle.limit.specs.Answer.{LimitResult, limited, refused}
use Rattle.limit.specs.Limit.{limit_of}
use Rattle.command_io.specs.declared.ending.Status.{Status}
use Rattle.command_io.specs.declared.ending.Status.TheVariants as S
use Rattle.command_selftest.specs.declared.limits.Row.{Row}

-- 1 where two patterns differ
unfoldable pub one_if_other : ℕ → ℕ → ℕ
one_if_other got wanted = cond (eqb got wanted) 0 1

-- how many of the first list have a quantile with other bits than those beside it
unfoldable pub others_among : List ℕ → List ℕ → ℕ
others_among [] bits = 0
others_among (x ∷ xs) [] = 0
others_among (x ∷ xs) (b ∷ bs) = one_if_other (f_erfcinv_bits x) b + others_among xs bs

-- all of them, where the two have not as many
unfoldable pub quantiles_differing : List ℕ → List ℕ → ℕ
quantiles_differing xs bits = cond (eqb (length xs) (length bits)) (others_among xs bits) (length xs)

-- how many of the four figures have other bits than the row
unfoldable pub figures_differing : Row → Figures → ℕ
figures_differing row f =
    one_if_other (to_bits binary64 f.mean) row.mean + one_if_other (to_bits binary64 f.spread) row.spread
    + one_if_other (to_bits binary64 f.quantile) row.quantile + one_if_other (to_bits binary64 f.limit) row.limit

-- the same of an answer: a refusal has none of them
unfoldable pub answer_differing : Row → LimitResult → ℕ
answer_differing row (limited f) = figures_differing row f
answer_differing row (refused n) = 4

-- the same of what the limit operation answers
unfoldable pub limit_differing : Row → ℕ
limit_differing row = answer_differing row (limit_of row.form (row.first ∷ row.second ∷ []) row.chance)

-- done where all are the same, and refused where one differs
unfoldable pub ending_of : Bool → Status
ending_of same = cond same S.Done S.Refused
