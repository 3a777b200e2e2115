-- The limit operation of documents 01 and 02: the limit of a list of times at a chance under a form, or the first refusal that holds, in
-- the order 2, 5, 6. The same in steps, for a caller that has summed the times and asks for several chances: mean and spread from the
-- sums, once, and the limit from them; or from them and a quantile that is kept, for one that asks for the same chances again.
use Rattle.std.specs.Prelude.{ℕ, Bool, cond, List, length, Float}
use Rattle.limit.specs.declared.Figures.{Figures}
use Rattle.limit.specs.declared.sums.Sums.{Sums}
use Rattle.limit.specs.Times.{in_range, times_in_range, sum_of, squares_of}
use Rattle.limit.specs.Sums.{is_plausible}
use Rattle.limit.specs.Formula.{plain_form, sample_form, quantile_of, figures_of, moments_of, figures_from}
use Rattle.limit.specs.Answer.{LimitResult, limited, refused, MomentsResult, worked, unworked, form_refusal, chance_refusal, times_refusal}

-- the form is 1 or 2: what refusal 2 asks
unfoldable pub form_known : ℕ → Bool
form_known = in_range plain_form sample_form

-- document 01's chance c: 1 to 999,999 in a million
abbrev pub min_chance : ℕ
min_chance = 1

abbrev pub max_chance : ℕ
max_chance = 999_999

-- the chance is in range: what refusal 5 asks
unfoldable pub chance_in_range : ℕ → Bool
chance_in_range = in_range min_chance max_chance

-- The order of the refusals: the form, then the chance, then the times. What is then worked out is finite (`finite_limits`, crate law_finite), so
-- that nothing is refused of it (document 02, 2026-06).
unfoldable pub judge : Bool → Bool → Bool → Figures → LimitResult
judge formGood chanceGood times_good f =
    cond formGood
    (cond chanceGood
    (cond times_good (limited f) (refused times_refusal))
    (refused chance_refusal))
    (refused form_refusal)

-- the limit of the times at the chance c, under a form, with mean, spread and quantile
unfoldable pub limit_of : ℕ → List ℕ → ℕ → LimitResult
limit_of form ts c = judge (form_known form) (chance_in_range c) (times_in_range ts) (figures_of form (length ts) (sum_of ts) (squares_of ts) c)

-- mean and spread of the times alone, under a form: 2, then 6
unfoldable pub moments_of_times : ℕ → List ℕ → MomentsResult
moments_of_times form ts =
    cond (form_known form)
    (cond (times_in_range ts) (worked (moments_of form (length ts) (sum_of ts) (squares_of ts))) (unworked times_refusal))
    (unworked form_refusal)

-- the same of the times that have these sums; 6 for sums that are not plausible, which no times in range have
unfoldable pub moments_of_sums : ℕ → Sums → MomentsResult
moments_of_sums form s =
    cond (form_known form)
    (cond (is_plausible s) (worked (moments_of form s.count s.sum s.squares)) (unworked times_refusal))
    (unworked form_refusal)

-- the limit from them at the chance c with the quantile e: their refusal, then 5
unfoldable pub limit_of_quantile : MomentsResult → ℕ → Float → LimitResult
limit_of_quantile (worked m) c e = cond (chance_in_range c) (limited (figures_from m e)) (refused chance_refusal)
limit_of_quantile (unworked n) c e = refused n

-- the same with the quantile of c, which makes it the limit at c
unfoldable pub limit_of_moments : MomentsResult → ℕ → LimitResult
limit_of_moments w c = limit_of_quantile w c (quantile_of c)
