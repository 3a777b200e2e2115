-- 1 - y, and 1 less that, for a y between 0 and 1 that is a whole number of units of 2 ^ -53: the pair that `erf_core` is given is 1 - y with the low part +0,
-- and the pair that it hands to the logarithm is y itself with the low part +0. Nothing on the way is rounded. Assumes nothing.
use mathlib.Core.Path.{◌≡◌, refl, ap, ◌∙◌}
use Prim.Native.Nat.{ℕ, ◌+◌, ◌*◌, ◌^◌, ◌<◌}
use native.Mathlib.Omega.{arith}
use lib.Dec.{T}
use lib.Ieee.{Float, binary64, fits, neg, add, sub}
use lib.Ieee.Bits.{of_bits-fits}
use lib.Ieee.Fits.{add-fits, sub-fits, neg-fits}
use Rattle.pxfm.specs.DoubleDouble.{new_of, one, neg_of, from_exact_add, from_full_exact_add, full_add_f64}
use Rattle.pxfm.specs.Argument.{zero, complement}
use Rattle.pxfm.proofs.Value.{Val, sub_rounds, add_rounds, neg_val}
use Rattle.pxfm.proofs.Exact.{exact64, exact64_at}
use Rattle.pxfm.proofs.Unique.{val_unique, sub_self}
use Rattle.pxfm.proofs.Ranges.{zero_val, one_val}
use Rattle.law_exact.proofs.Zeros.{zero_sums, sub_zero}

-- x is between 0 and 1, in units of 2 ^ -53.
module _ {x : Float} {p n : ℕ} (v : Val binary64 x p n 1021) (lo : n < p) (hi : p < n + 2 ^ 53) (f : T (fits binary64 x)) where
  abbrev less : Float
  less = add binary64 (neg x) one

  pub less_val : Val binary64 less (2 ^ 53 + n) p 1021
  less_val = exact64 (add_rounds (neg_val v) (one_val 53 1021 refl)) (2 ^ 53 + n) p (omega arith)

  -- each difference on the way is 1 or -x
  exact_pair : from_full_exact_add (neg x) one ≡ new_of zero less
  unfolding from_full_exact_add
  exact_pair =
      let u = one_val 53 1021 refl in
      let w = neg_val v in
      let r = sub binary64 less (neg x) in
      let t1 = exact64_at (sub_rounds less_val w) 1 (2 ^ 52) 0 (omega arith) in
      let t2 = exact64 (sub_rounds less_val t1) n p (omega arith) in
      let e1 : r ≡ one =
      val_unique (sub-fits binary64 less (neg x)) (of_bits-fits binary64 0x3ff0_0000_0000_0000) t1 u (omega arith) (λ q. absurd (omega arith)) in
      let e2 : sub binary64 less r ≡ neg x =
      val_unique (sub-fits binary64 less r) (neg-fits binary64 x f) t2 w (omega arith) (λ q. absurd (omega arith)) in
      let self-one = sub_self one u.sign (u.mag * 2 ^ 1021) (2 ^ 1074) u.val in
      let self-x = sub_self (neg x) w.sign (w.mag * 2 ^ 1021) (2 ^ 1074) w.val in
      ap (λ (z : Float). new_of z less)
      (ap (λ (z : Float). add binary64 (sub binary64 one z) (sub binary64 (neg x) (sub binary64 less r))) e1
      ∙ ap (λ (z : Float). add binary64 z (sub binary64 (neg x) (sub binary64 less r))) self-one
      ∙ ap (λ (z : Float). add binary64 zero (sub binary64 (neg x) z)) e2
      ∙ ap (λ (z : Float). add binary64 zero z) self-x
      ∙ zero_sums.plus_plus)

  -- 1 less the pair of x: its low part is -0 + 0
  pub less_pair : full_add_f64 (neg_of (new_of zero x)) one ≡ new_of zero less
  unfolding full_add_f64 neg_of
  less_pair =
      ap (λ d. new_of (add binary64 (neg zero) d.lo) d.hi) exact_pair
      ∙ ap (λ (z : Float). new_of (add binary64 z zero) less) zero_sums.minus_is
      ∙ ap (λ (z : Float). new_of z less) zero_sums.minus_plus

  less_and_zero : add binary64 less zero ≡ less
  less_and_zero =
      let r = add_rounds less_val (zero_val 1021) in
      val_unique (add-fits binary64 less zero) (add-fits binary64 (neg x) one) (exact64 r (2 ^ 53 + n) p (omega arith)) less_val (omega arith)
      (λ q. absurd (omega arith))

  pub complement_pair : complement (new_of zero x) ≡ new_of zero less
  unfolding complement from_exact_add
  complement_pair =
      ap (λ d. from_exact_add d.hi d.lo) less_pair
      ∙ ap (λ (z : Float). new_of (sub binary64 zero (sub binary64 z less)) z) less_and_zero
      ∙ ap (λ (z : Float). new_of (sub binary64 zero z) less) (sub_self less less_val.sign (less_val.mag * 2 ^ 1021) (2 ^ 1074) less_val.val)
      ∙ ap (λ (z : Float). new_of z less) (sub_zero zero (of_bits-fits binary64 0))

module _ {y : Float} {p n : ℕ} (v : Val binary64 y p n 1021) (lo : n < p) (hi : p < n + 2 ^ 53) (f : T (fits binary64 y)) where
  -- 1 - (1 - y) is y
  back : add binary64 (neg (less v lo hi f)) one ≡ y
  back =
      let w = less_val v lo hi f in
      val_unique (add-fits binary64 (neg (less v lo hi f)) one) f (less_val w (omega arith) (omega arith) (add-fits binary64 (neg y) one)) v (omega arith)
      (λ q. absurd (omega arith))

  pub back_pair : full_add_f64 (neg_of (new_of zero (less v lo hi f))) one ≡ new_of zero y
  back_pair =
      let w = less_val v lo hi f in
      less_pair w (omega arith) (omega arith) (add-fits binary64 (neg y) one) ∙ ap (λ (z : Float). new_of zero z) back
