-- Bands in order: where one inverse is at most another, so is half the band's width, and then the low ends are the other way round. Assumes nothing.
use mathlib.Core.Path.{◌≡◌}
use mathlib.Core.Bool.{true}
use mathlib.Core.List.{List}
use Prim.Native.Nat.{ℕ}
use lib.Ieee.{Float, binary64, sub, mul}
use Rattle.limit.specs.Times.{times_in_range}
use Rattle.limit.specs.Sums.{sums_of}
use Rattle.limit.specs.Formula.{root_two, sample_form, limit_from}
use Rattle.limit.proofs.InRange as range
use Rattle.limit.proofs.Plausible.{times_plausible}
use Rattle.band.specs.Band.{min_share, max_share, share_in_range, inverse_of, ends_from, ends_of}
use Rattle.law_bounds.specs.Interval.{In}
use Rattle.law_bounds.specs.Ranges.{quantile_b}
use Rattle.law_finite.proofs.Band.{inverse_in}
use Rattle.law_order.specs.Order.{AtMost, BandOrder}
use Rattle.law_order.proofs.Keeps.{sub_order}
use Rattle.law_order.proofs.Limits.{Ready, mean_units, product_units, product_order, limit_order, ready}

pub less_order : {mean spread : Float} → Ready mean spread → (d e : Float) → In d quantile_b → In e quantile_b → AtMost d e
    → AtMost (sub binary64 mean (mul binary64 (mul binary64 spread root_two) e)) (sub binary64 mean (mul binary64 (mul binary64 spread root_two) d))
less_order r d e D E h = sub_order (mean_units r) (product_units r d D) (product_units r e E) (product_order r d e D E h)

pub share_inverse : (w : ℕ) → share_in_range w ≡ true → In (inverse_of w) quantile_b
unfolding share_in_range
share_inverse w h = inverse_in w (range.at_least min_share max_share w h) (range.at_most min_share max_share w h)

pub band_order : (ts : List ℕ) (v w : ℕ) → times_in_range ts ≡ true → share_in_range v ≡ true → share_in_range w ≡ true → BandOrder ts v w
unfolding sums_of ends_of ends_from limit_from
band_order ts v w r i j =
    let s = ready (sums_of ts) (times_plausible ts r) sample_form in
    let a = share_inverse v i in
    let b = share_inverse w j in
    record { low = λ h. less_order s (inverse_of v) (inverse_of w) a b h; high = λ h. limit_order s (inverse_of v) (inverse_of w) a b h }
