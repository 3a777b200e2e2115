-- 1 - x and 2 - x as the pairs' steps give them. For 1 - x from 0.5 up and for 2 - x above 1 nothing is rounded: every intermediate
-- result is a whole number of units of 2 ^ -53 whose digits fit. Below 0.5 a step of the sum rounds by at most 8 units of
-- 2 ^ -56, and the errors add up. Assumes nothing.
use Rattle.std.proofs.Common.{◌≡◌, ℕ, ◌+◌, ◌*◌, ◌^◌, ◌<◌, T, refl, ap, ◌∙◌, arith}
use lib.Ieee.{Float, binary64, of_bits, fits, neg, add, sub}
use lib.Ieee.Fits.{sub-fits, neg-fits}
use lib.Ieee.Bits.{of_bits-fits}
use Rattle.pxfm.specs.declared.double_double.DoubleDouble.{DoubleDouble}
use Rattle.pxfm.specs.DoubleDouble.{new_of, one, two, neg_of, from_exact_add, from_full_exact_add, from_full_exact_sub, full_add_f64}
use Rattle.pxfm.specs.Argument.{zero, complement}
use Rattle.pxfm.proofs.Value.{Val, add_rounds, sub_rounds, neg_val}
use Rattle.pxfm.proofs.Exact.{exact64, exact64_at}
use Rattle.pxfm.proofs.Error.{Off, off_none, add_off, sub_off}
use Rattle.pxfm.proofs.Unique.{val_unique, sub_self}
use Rattle.pxfm.proofs.Ranges.{zero_val, one_val, two_val}

-- ---- exact pairs

-- The high part is p - n, the low part zero.
pub record ExactPair (d : DoubleDouble) (p n j : ℕ) : Type 0 where
  pub high : Val binary64 d.hi p n j
  pub low : Val binary64 d.lo 0 0 j

-- x is between 0 and 1, in units of 2 ^ -53.
module _ {x : Float} {p n : ℕ} (v : Val binary64 x p n 1021) (lo : n < p) (hi : p < n + 2 ^ 53) where
  pub one_less : ExactPair (from_full_exact_add (neg x) one) (2 ^ 53 + n) p 1021
  unfolding from_full_exact_add
  one_less =
      let u = one_val 53 1021 refl in
      let w = neg_val v in
      let h = exact64 (add_rounds w u) (2 ^ 53 + n) p (omega arith) in
      let t1 = exact64_at (sub_rounds h w) 1 (2 ^ 52) 0 (omega arith) in
      let t2 = exact64 (sub_rounds h t1) n p (omega arith) in
      let t3 = exact64 (sub_rounds u t1) 0 0 (omega arith) in
      let t4 = exact64 (sub_rounds w t2) 0 0 (omega arith) in
      record { high = h; low = exact64 (add_rounds t3 t4) 0 0 (omega arith) }

  pub complement_exact : Val binary64 (complement (new_of zero x)).hi (2 ^ 53 + n) p 1021
  unfolding complement full_add_f64 neg_of from_exact_add
  complement_exact =
      let h = one_less.high in
      let l = exact64 (add_rounds (neg_val (zero_val 1021)) one_less.low) 0 0 (omega arith) in
      exact64 (add_rounds h l) (2 ^ 53 + n) p (omega arith)

-- x is between 1 and 2.
module _ {x : Float} {a : ℕ} (v : Val binary64 x (2 * a) 0 1021) (lo : 2 ^ 52 < a) (hi : a < 2 ^ 53) where
  pub two_less : Val binary64 (sub binary64 two x) (2 ^ 54) (2 * a) 1021
  two_less = exact64_at (sub_rounds (two_val 54 1021 refl) v) 1 (2 ^ 53) a (omega arith)

  zero_sum : add binary64 zero zero ≡ zero
  unfolding of_bits add
  zero_sum = refl

  -- The pair's low part is +0, not -0, and its high part the double 2 - x.
  pub two_less_pair : T (fits binary64 x) → from_full_exact_sub two x ≡ new_of zero (sub binary64 two x)
  unfolding from_full_exact_sub
  two_less_pair f =
      let u = two_val 54 1021 refl in
      let w = neg_val v in
      let s = sub binary64 two x in
      let r = sub binary64 s two in
      let t1 = exact64_at (sub_rounds two_less u) 1 0 a (omega arith) in
      let t2 = exact64_at (sub_rounds two_less t1) 2 (2 ^ 52) 0 (omega arith) in
      let e1 : r ≡ neg x = val_unique (sub-fits binary64 s two) (neg-fits binary64 x f) t1 w (omega arith) (not_zero a lo) in
      let e2 : sub binary64 s r ≡ two =
      val_unique (sub-fits binary64 s r) (of_bits-fits binary64 0x4000_0000_0000_0000) t2 u (omega arith) (λ q. absurd (omega arith)) in
      let self-x = sub_self (neg x) w.sign (w.mag * 2 ^ 1021) (2 ^ 1074) w.val in
      let self-two = sub_self two u.sign (u.mag * 2 ^ 1021) (2 ^ 1074) u.val in
      ap (λ (z : Float). new_of z s)
      (ap (λ (z : Float). add binary64 (sub binary64 (neg x) z) (sub binary64 two (sub binary64 s r))) e1
      ∙ ap (λ (z : Float). add binary64 z (sub binary64 two (sub binary64 s r))) self-x
      ∙ ap (λ (z : Float). add binary64 zero (sub binary64 two z)) e2
      ∙ ap (λ (z : Float). add binary64 zero z) self-two
      ∙ zero_sum)
    where
      not_zero : (a : ℕ) → 2 ^ 52 < a → 2 * 0 ≡ 2 * a → ⊥
      not_zero a l e = omega arith

-- ---- pairs with an error

-- The high part is within e of p - n, the low part within d of zero.
record NearPair (r : DoubleDouble) (p n j e d : ℕ) : Type 0 where
  pub high : Off r.hi p n j e
  pub low : Off r.lo 0 0 j d

-- x is between 0 and 0.5, in units of 2 ^ -56.
module _ {x : Float} {a : ℕ} (v : Val binary64 x a 0 1018) (hi : a < 2 ^ 55) where
  one_less_near : NearPair (from_full_exact_add (neg x) one) (2 ^ 56) a 1018 8 48
  unfolding from_full_exact_add
  one_less_near =
      let u = off_none (one_val 56 1018 refl) in
      let w = off_none (neg_val v) in
      let h = add_off 8 4 (2 ^ 56) a w u (omega arith) in
      let t1 = sub_off 8 4 (2 ^ 56) 0 h w (omega arith) in
      let t2 = sub_off 8 4 0 a h t1 (omega arith) in
      let t3 = sub_off 0 0 0 0 u t1 (omega arith) in
      let t4 = sub_off 0 0 0 0 w t2 (omega arith) in
      record { high = h; low = add_off 0 0 0 0 t3 t4 (omega arith) }

  pub complement_near : Off (complement (new_of zero x)).hi (2 ^ 56) a 1018 64
  unfolding complement full_add_f64 neg_of from_exact_add
  complement_near =
      let h = one_less_near.high in
      let l = add_off 0 0 0 0 (off_none (neg_val (zero_val 1018))) one_less_near.low (omega arith) in
      add_off 8 4 (2 ^ 56) a h l (omega arith)
