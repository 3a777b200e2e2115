-- For every form, every list of 2 to 128 times in range and every chance, the limit of the list is the one from mean and spread of its sums.
-- Mean and spread of a list are those of its sums, or refused as those of no times. Assumes nothing.
use mathlib.Core.Path.{◌≡◌, refl}
use mathlib.Core.Bool.{Bool, true, false, cond}
use mathlib.Core.List.{List}
use Prim.Native.Nat.{ℕ}
use Rattle.limit.specs.declared.Moments.{Moments}
use Rattle.limit.specs.Times.{in_range, times_in_range}
use Rattle.limit.specs.Sums.{sums_of, no_times, is_plausible}
use Rattle.limit.specs.Formula.{quantile_of, formula_of, figures_of, moments_of, figures_from}
use Rattle.limit.specs.Answer.{limited, refused, worked, unworked, form_refusal, chance_refusal}
use Rattle.limit.specs.Limit.{form_known, chance_in_range, judge, limit_of, moments_of_times, moments_of_sums, limit_of_moments, limit_of_quantile}
use Rattle.limit.proofs.Plausible.{times_plausible}

by_form : (known : Bool) (m : Moments) (c : ℕ)
    → cond known (cond (chance_in_range c) (limited (figures_from m (quantile_of c))) (refused chance_refusal)) (refused form_refusal)
    ≡ limit_of_moments (cond known (worked m) (unworked form_refusal)) c
unfolding limit_of_moments limit_of_quantile
by_form true m c = refl
by_form false m c = refl

pub limit_of_moments_agrees : (form : ℕ) (ts : List ℕ) (c : ℕ) → times_in_range ts ≡ true
    → limit_of form ts c ≡ limit_of_moments (moments_of_sums form (sums_of ts)) c
unfolding limit_of judge moments_of_sums sums_of figures_of formula_of moments_of figures_from
limit_of_moments_agrees form ts c e = rw (e, times_plausible ts e) (by_form (form_known form) (moments_of form _ _ _) c)

pub moments_within : (form : ℕ) (ts : List ℕ) → times_in_range ts ≡ true → moments_of_sums form (sums_of ts) ≡ moments_of_times form ts
unfolding moments_of_sums moments_of_times sums_of
moments_within form ts e = rw (e, times_plausible ts e) refl

pub moments_outside : (form : ℕ) (ts : List ℕ) → times_in_range ts ≡ false → moments_of_sums form no_times ≡ moments_of_times form ts
unfolding moments_of_sums moments_of_times no_times is_plausible in_range
moments_outside form ts e = rw e refl
