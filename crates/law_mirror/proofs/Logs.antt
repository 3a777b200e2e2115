-- The two logarithms of a y from 2 ^ -52 to 3 / 8, that of y itself and that of the pair of y and +0, lead to the same root. The first adds its parts up once
-- more, which changes nothing; the second adds a +0 to the low part, which changes a -0 alone, and that sign the root does not see. Assumes nothing.
use mathlib.Core.Path.{◌≡◌, refl, sym, ap, ◌∙◌}
use mathlib.Core.Logic.{◌⊎◌, inl, inr}
use mathlib.Core.Bool.{Bool, true, false, cond, ◌||◌}
use Prim.Native.Nat.{ℕ, ◌*◌, ◌^◌, ◌<◌}
use native.Mathlib.Nat.{le_trans, le_of_eq, lt_of_lt_of_le, lt_of_le_of_lt, mul-pos, mul-le-mul_left}
use native.Mathlib.Omega.{arith}
use borrow.Author.Tests.{ne_eqb}
use lib.Dec.{T, lit≤, lit<}
use lib.Pow.{pow_pos}
use lib.Ieee.{Float, nan, inf, fin, binary64, up, down, fits, of_bits, neg, add, sub, div, le}
use lib.Ieee.Bits.{of_bits-fits}
use lib.Ieee.Exact.{HasValue}
use lib.Ieee.Fits.{add-fits, sub-fits, down_pos}
use lib.Ieee.Positive.{first_pos}
use Rattle.pxfm.specs.declared.double_double.DoubleDouble.{DoubleDouble}
use Rattle.pxfm.specs.DoubleDouble.{new_of, neg_of, from_exact_add, f64_add, recip_of, fast_sqrt}
use Rattle.pxfm.specs.PowExec.{log_poly1}
use Rattle.pxfm.specs.FastLogDd.{parts_of, fast_log_dTo_dd, log_lo, fast_log_dd}
use Rattle.pxfm.specs.Rationals.{inverf_asympt_small, inverf_asympt_long}
use Rattle.pxfm.specs.Argument.{zero}
use Rattle.pxfm.specs.Inverfc.{zeta_sqrt, asymptotic}
use Rattle.pxfm.proofs.Ranges.{zero_val}
use Rattle.pxfm.proofs.FirstTests.{minus_zero}
use Rattle.law_exact.specs.FastSum.{Addends}
use Rattle.law_exact.proofs.Own.{round_own}
use Rattle.law_exact.proofs.Zeros.{Number, kind_of_lem, and_number, minus_zero_val, zero_sums, add_zero}
use Rattle.law_exact.proofs.FastSum.{exact_add_twice}
use Rattle.law_bounds.specs.Interval.{In}
use Rattle.law_bounds.specs.Ranges.{deep, reach_b}
use Rattle.law_bounds.proofs.Operations.{counted, least_le, le_most}
use Rattle.law_bounds.proofs.Logarithm.{summed_of}
use Rattle.law_bounds.proofs.Tail.{summed_in}
use Rattle.law_mirror.proofs.Roots.{Alike, same, signs, alike_roots}

-- ---- the low part's share in the logarithm of a pair with the low part +0

div_none : (y : Float) (a : ℕ) → HasValue y false a (2 ^ 1074) → 0 < a → div binary64 zero y ≡ zero
unfolding div of_bits
div_none nan a v h = absurd v
div_none (inf t) a v h = absurd v
div_none (fin t m e) a v h =
    let Y : 0 < m * up e = first_pos (m * up e) (2 ^ 1074) (lt_of_lt_of_le (mul-pos h (down_pos e)) (le_of_eq (sym v.1))) in
    rw (ne_eqb m 0 (λ (z : m ≡ 0). some m (up e) z Y), v.0)
    (round_own zero false (0 * 1 * down e) (m * up e * 1) (once (m * up e) Y) (of_bits-fits binary64 0) (refl, none (m * up e) (down e)))
  where
    some : (j u : ℕ) → j ≡ 0 → 0 < j * u → ⊥
    some j u z p = let q = first_pos j u p in omega arith

    once : (k : ℕ) → 0 < k → 0 < k * 1
    once k h = omega arith

    none : (k d : ℕ) → 0 * 1 * (k * 1) ≡ 0 * 1 * d * 1
    none k d = omega arith

share_none : (y : Float) → div binary64 zero y ≡ zero → log_lo (new_of zero y) ≡ zero
unfolding log_lo
share_none y e =
    let four = of_bits binary64 0x4010_0000_0000_0000 in
    go (le y (of_bits binary64 0x7fd0_0000_0000_0000) || (le four zero || le zero (neg four)))
  where
    go : (b : Bool) → cond b (div binary64 zero y) zero ≡ zero
    go true = e
    go false = refl

-- ---- +0 added to the low part

-- -0 + t and +0 + t
zeros_and_finite : (h t : Float) → ((t ≡ zero) ⊎ (t ≡ minus_zero)) ⊎ Number t → T (fits binary64 t)
    → Alike (new_of (add binary64 minus_zero t) h) (new_of (add binary64 zero t) h)
zeros_and_finite h t (inl (inl e)) f =
    let a : add binary64 minus_zero t ≡ zero = ap (λ (z : Float). add binary64 minus_zero z) e ∙ zero_sums.minus_plus in
    let b : add binary64 zero t ≡ zero = ap (λ (z : Float). add binary64 zero z) e ∙ zero_sums.plus_plus in
    same (ap (λ (z : Float). new_of z h) (a ∙ sym b))
zeros_and_finite h t (inl (inr e)) f =
    signs (ap (λ (z : Float). add binary64 minus_zero z) e ∙ zero_sums.minus_minus) (ap (λ (z : Float). add binary64 zero z) e ∙ zero_sums.plus_minus) refl
zeros_and_finite h t (inr k) f = same (ap (λ (z : Float). new_of z h) (and_number f k (minus_zero_val 0) ∙ sym (and_number f k (zero_val 0))))

zeros_and : (h t : Float) → T (fits binary64 t) → Alike (new_of (add binary64 minus_zero t) h) (new_of (add binary64 zero t) h)
unfolding add of_bits
zeros_and h nan f = same refl
zeros_and h (inf s) f = same refl
zeros_and h (fin s m e) f = zeros_and_finite h (fin s m e) (kind_of_lem (fin s m e) f tt) f

-- the sum with a in the low part, and with a + 0
and_zero : (h a q : Float) → T (fits binary64 a) → Alike (f64_add h (new_of a q)) (f64_add h (new_of (add binary64 a zero) q))
unfolding f64_add from_exact_add
and_zero h a q f = go (add_zero a f)
  where
    t : Float
    t = sub binary64 q (sub binary64 (add binary64 h q) h)

    go : (add binary64 a zero ≡ a) ⊎ (a ≡ minus_zero)
        → Alike (new_of (add binary64 a t) (add binary64 h q)) (new_of (add binary64 (add binary64 a zero) t) (add binary64 h q))
    go (inl e) = same (ap (λ (z : Float). new_of (add binary64 z t) (add binary64 h q)) (sym e))
    go (inr e) =
        let k : add binary64 a zero ≡ zero = ap (λ (z : Float). add binary64 z zero) e ∙ zero_sums.minus_plus in
        rw (k, e) (zeros_and (add binary64 h q) t (sub-fits binary64 q (sub binary64 (add binary64 h q) h)))

-- ---- the two logarithms

module _ (y : Float) (h : In y (reach_b deep)) where
  sum_fits : T (fits binary64 (summed_of y).hi) × T (fits binary64 (summed_of y).lo)
  unfolding summed_of f64_add from_exact_add
  sum_fits = (add-fits binary64 _ _, add-fits binary64 _ _)

  addends : Addends (summed_of y).hi (summed_of y).lo
  addends =
      let i = summed_in y h in
      let v = i.hi.at tt in
      let w = i.lo.at tt in
      record {
        s = v.s;
        t = w.s;
        A = v.m;
        B = w.m;
        first = v.val;
        second = w.val;
        first_fits = sum_fits.0;
        second_fits = sum_fits.1;
        from = le_trans (lit≤ tt) (least_le v);
        to = lt_of_le_of_lt (le_most v) (lit< tt);
        small = le_trans (mul-le-mul_left 4 (le_most w)) (le_trans (lit≤ tt) (least_le v));
      }

  -- Adding the parts up twice is adding them up once.
  double_root : zeta_sqrt (fast_log_dTo_dd y) ≡ zeta_sqrt (summed_of y)
  unfolding zeta_sqrt fast_log_dTo_dd summed_of
  double_root = ap (λ d. fast_sqrt (neg_of d)) (exact_add_twice addends)

  pair_root : zeta_sqrt (summed_of y) ≡ zeta_sqrt (fast_log_dd (new_of zero y))
  unfolding fast_log_dd summed_of
  pair_root =
      let s = parts_of y in
      let p = log_poly1 s.z in
      let a = add binary64 s.v.lo p.lo in
      let k = counted (2 ^ 1022) (3 * 2 ^ 1071) (pow_pos 1022) h in
      let e = share_none y (div_none y k.n k.val (lt_of_lt_of_le (pow_pos 1022) k.low)) in
      let z = and_zero s.v.hi a p.hi (add-fits binary64 s.v.lo p.lo) in
      alike_roots (f64_add s.v.hi (new_of a p.hi)) _ z sum_fits.0 (summed_in y h).hi
      ∙ sym (ap (λ (z : Float). zeta_sqrt (f64_add s.v.hi (new_of (add binary64 a z) p.hi))) e)

  pub asymptotic_same : (short : Bool) → asymptotic (fast_log_dTo_dd y) short ≡ asymptotic (fast_log_dd (new_of zero y)) short
  unfolding asymptotic
  asymptotic_same short =
      ap (λ (r : DoubleDouble). cond short (inverf_asympt_small (recip_of r) r) (inverf_asympt_long (recip_of r) r)) (double_root ∙ pair_root)
