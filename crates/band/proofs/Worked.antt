-- The band over mean and spread as the limit answers them: their refusal is 6, since form 2 is known. Assumes nothing.
use mathlib.Core.Path.{◌≡◌, refl, sym, ap, ◌∙◌}
use mathlib.Core.Bool.{Bool, true, false}
use mathlib.Core.List.{List}
use Prim.Native.Nat.{ℕ}
use Rattle.limit.specs.declared.Moments.{Moments}
use Rattle.limit.specs.Times.{in_range, times_in_range}
use Rattle.limit.specs.Formula.{sample_form, moments_of}
use Rattle.limit.specs.Answer.{MomentsResult, worked, unworked}
use Rattle.limit.specs.Limit.{form_known, moments_of_times}
use Rattle.band.specs.Answer.{BandResult, banded, refused}
use Rattle.band.specs.Band.{share_in_range, inverse_of, ends_from, ends_of, judge, band_of}

-- the band from mean and spread, or their refusal
unfoldable band_from : MomentsResult → ℕ → BandResult
band_from (worked m) w = banded (ends_from m.mean m.spread (inverse_of w))
band_from (unworked n) w = refused n

by_times : (ts : List ℕ) (w : ℕ) (t : Bool) → times_in_range ts ≡ t → share_in_range w ≡ true → band_of ts w ≡ band_from (moments_of_times sample_form ts) w
unfolding band_of judge ends_of band_from moments_of_times form_known in_range moments_of
by_times ts w true e s = rw (s, e) refl
by_times ts w false e s = rw (s, e) refl

module _ (ts : List ℕ) (w : ℕ) (s : share_in_range w ≡ true) (r : MomentsResult) (is : r ≡ moments_of_times sample_form ts) where
  of_result_lem : band_from r w ≡ band_of ts w
  of_result_lem = ap (λ (x : MomentsResult). band_from x w) is ∙ sym (by_times ts w (times_in_range ts) refl s)

  pub band_worked : (m : Moments) → r ≡ worked m → banded (ends_from m.mean m.spread (inverse_of w)) ≡ band_of ts w
  unfolding band_from
  band_worked m e = sym (ap (λ (x : MomentsResult). band_from x w) e) ∙ of_result_lem

  pub band_unworked : (n : ℕ) → r ≡ unworked n → refused n ≡ band_of ts w
  unfolding band_from
  band_unworked n e = sym (ap (λ (x : MomentsResult). band_from x w) e) ∙ of_result_lem
