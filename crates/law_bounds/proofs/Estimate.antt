-- A double with an interval that holds it, and a pair of such: one law for each operation gives the interval and its soundness together,
-- so that an estimate of a definition is written by the definition's own steps. Assumes nothing.
use lib.Ieee.{Float, binary64, of_bits, neg, add, sub, mul, div}
use Rattle.pxfm.specs.declared.double_double.DoubleDouble.{DoubleDouble}
use Rattle.pxfm.specs.DoubleDouble.{new_of, one, neg_of, from_exact_mult, from_exact_add, from_full_exact_add, full_add_f64, f64_add, quick_mult, quick_mult_f64}
use Rattle.pxfm.specs.DoubleDouble.{mul_add, mul_add_f64, mul_f64_add, div_of, recip_of, to_f64, dd_f64_mul_add}
use Rattle.pxfm.specs.Common.{f_fmla}
use Rattle.law_bounds.specs.Interval.{Interval, In}
use Rattle.law_bounds.proofs.Arithmetic.{add_b, sub_b, mul_b, div_b, neg_b, point_b}
use Rattle.law_bounds.proofs.Operations.{add_in, sub_in, mul_in, div_in, neg_in, point_in}
use Rattle.law_bounds.proofs.Products.{tight_lo, tight_in}
use Rattle.law_bounds.proofs.Sums.{sum_lo, full_lo_in, fast_lo_in}
use Rattle.law_bounds.proofs.Residuals.{recip_left, recip_left_in, over_left, over_left_in}

-- ---- one double

pub record Est (x : Float) : Type 0 where
  pub bound : Interval
  pub holds : In x bound

abbrev pub given : {x : Float} {b : Interval} → In x b → Est x
given {b = b} h = record { bound = b; holds = h }

unfoldable pub point : (x : Float) → Est x
unfolding point_b
point x = record { bound = point_b x; holds = point_in x }

unfoldable pub sum_e : {x y : Float} → Est x → Est y → Est (add binary64 x y)
unfolding add_b
sum_e p q = record { bound = add_b p.bound q.bound; holds = add_in p.holds q.holds }

unfoldable pub less_e : {x y : Float} → Est x → Est y → Est (sub binary64 x y)
unfolding sub_b
less_e p q = record { bound = sub_b p.bound q.bound; holds = sub_in p.holds q.holds }

unfoldable pub times_e : {x y : Float} → Est x → Est y → Est (mul binary64 x y)
unfolding mul_b
times_e p q = record { bound = mul_b p.bound q.bound; holds = mul_in p.holds q.holds }

unfoldable pub over_e : {x y : Float} → Est x → Est y → Est (div binary64 x y)
unfolding div_b
over_e p q = record { bound = div_b p.bound q.bound; holds = div_in p.holds q.holds }

unfoldable pub neg_e : {x : Float} → Est x → Est (neg x)
unfolding neg_b
neg_e p = record { bound = neg_b p.bound; holds = neg_in p.holds }

-- what is left by the corrections of a reciprocal and of a quotient

unfoldable pub recip_left_e : {y : Float} → Est y → Est (sub binary64 one (mul binary64 y (div binary64 one y)))
unfolding recip_left
recip_left_e q = record { bound = recip_left q.bound; holds = recip_left_in q.holds }

unfoldable pub over_left_e : {x y : Float} → Est x → Est y → Est (add binary64 x (mul binary64 y (neg (mul binary64 x (div binary64 one y)))))
unfolding over_left
over_left_e p q = record { bound = over_left p.bound q.bound; holds = over_left_in p.holds q.holds }

-- ---- a pair

pub record EstP (x : DoubleDouble) : Type 0 where
  pub lo : Est x.lo
  pub hi : Est x.hi

abbrev pub pair_e : {l h : Float} → Est l → Est h → EstP (new_of l h)
pair_e l h = record { lo = l; hi = h }

unfoldable pub const_e : (x : DoubleDouble) → EstP x
unfolding point
const_e x = record { lo = point x.lo; hi = point x.hi }

unfoldable pub exact_mult_e : {x y : Float} → Est x → Est y → EstP (from_exact_mult x y)
unfolding from_exact_mult times_e tight_lo
exact_mult_e p q =
    record { lo = record { bound = tight_lo p.bound q.bound; holds = tight_in p.holds q.holds }; hi = times_e p q }

unfoldable pub exact_add_e : {x y : Float} → Est x → Est y → EstP (from_exact_add x y)
unfolding from_exact_add sum_e sum_lo
exact_add_e p q =
    record { lo = record { bound = sum_lo p.bound q.bound; holds = fast_lo_in p.holds q.holds }; hi = sum_e p q }

unfoldable pub full_exact_add_e : {x y : Float} → Est x → Est y → EstP (from_full_exact_add x y)
unfolding from_full_exact_add sum_e sum_lo
full_exact_add_e p q =
    record { lo = record { bound = sum_lo p.bound q.bound; holds = full_lo_in p.holds q.holds }; hi = sum_e p q }

unfoldable pub neg_pair_e : {x : DoubleDouble} → EstP x → EstP (neg_of x)
unfolding neg_of neg_e
neg_pair_e p = pair_e (neg_e p.lo) (neg_e p.hi)

unfoldable pub full_add_e : {x : DoubleDouble} {y : Float} → EstP x → Est y → EstP (full_add_f64 x y)
unfolding full_add_f64 full_exact_add_e sum_e
full_add_e p q = let t = full_exact_add_e p.hi q in pair_e (sum_e p.lo t.lo) t.hi

unfoldable pub f64_add_e : {y : Float} {x : DoubleDouble} → Est y → EstP x → EstP (f64_add y x)
unfolding f64_add exact_add_e sum_e
f64_add_e q p = let t = exact_add_e q p.hi in pair_e (sum_e p.lo t.lo) t.hi

unfoldable pub quick_mult_e : {x y : DoubleDouble} → EstP x → EstP y → EstP (quick_mult x y)
unfolding quick_mult exact_mult_e sum_e times_e
quick_mult_e p q =
    let c = exact_mult_e p.hi q.hi in
    pair_e (sum_e c.lo (sum_e (times_e p.hi q.lo) (times_e p.lo q.hi))) c.hi

unfoldable pub quick_mult_f64_e : {x : DoubleDouble} {y : Float} → EstP x → Est y → EstP (quick_mult_f64 x y)
unfolding quick_mult_f64 exact_mult_e sum_e times_e
quick_mult_f64_e p q = let c = exact_mult_e p.hi q in pair_e (sum_e c.lo (times_e p.lo q)) c.hi

unfoldable pub mul_add_e : {x y z : DoubleDouble} → EstP x → EstP y → EstP z → EstP (mul_add x y z)
unfolding mul_add quick_mult_e full_add_e sum_e
mul_add_e p q r =
    let m = quick_mult_e p q in
    let s = full_add_e r m.hi in
    pair_e (sum_e m.lo s.lo) s.hi

unfoldable pub mul_add_f64_e : {x y : DoubleDouble} {z : Float} → EstP x → EstP y → Est z → EstP (mul_add_f64 x y z)
unfolding mul_add_f64 quick_mult_e full_exact_add_e sum_e
mul_add_f64_e p q r =
    let m = quick_mult_e p q in
    let s = full_exact_add_e r m.hi in
    pair_e (sum_e m.lo s.lo) s.hi

unfoldable pub mul_f64_add_e : {x z : DoubleDouble} {y : Float} → EstP x → Est y → EstP z → EstP (mul_f64_add x y z)
unfolding mul_f64_add quick_mult_f64_e full_add_e sum_e
mul_f64_add_e p q r =
    let m = quick_mult_f64_e p q in
    let s = full_add_e r m.hi in
    pair_e (sum_e m.lo s.lo) s.hi

unfoldable pub div_e : {x y : DoubleDouble} → EstP x → EstP y → EstP (div_of x y)
unfolding of_bits div_of over_e times_e exact_mult_e sum_e neg_e point over_left_e
div_e p q =
    let r = over_e (point one) q.hi in
    let h = times_e p.hi r in
    let m = exact_mult_e q.hi (neg_e h) in
    let n = exact_mult_e q.lo (neg_e h) in
    let e = sum_e (over_left_e p.hi q.hi) m.lo in
    let f = sum_e (sum_e p.lo n.hi) n.lo in
    pair_e (times_e r (sum_e e f)) h

unfoldable pub recip_e : {x : DoubleDouble} → EstP x → EstP (recip_of x)
unfolding of_bits recip_of over_e times_e exact_mult_e less_e point recip_left_e
recip_e p =
    let y = over_e (point one) p.hi in
    let m = exact_mult_e p.hi y in
    let e = less_e (recip_left_e p.hi) m.lo in
    let n = exact_mult_e p.lo y in
    pair_e (times_e y (less_e (less_e e n.hi) n.lo)) y

unfoldable pub to_f64_e : {x : DoubleDouble} → EstP x → Est (to_f64 x)
unfolding to_f64 sum_e
to_f64_e p = sum_e p.lo p.hi

unfoldable pub fma_e : {x y z : Float} → Est x → Est y → Est z → Est (dd_f64_mul_add x y z)
unfolding dd_f64_mul_add exact_mult_e full_add_e to_f64_e
fma_e p q r = to_f64_e (full_add_e (exact_mult_e p q) r)

unfoldable pub fmla_e : {x y z : Float} → Est x → Est y → Est z → Est (f_fmla x y z)
unfolding f_fmla sum_e times_e
fmla_e p q r = sum_e (times_e p q) r
