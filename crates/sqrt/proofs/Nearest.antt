-- The root is the nearest value of the format, with no tie, for every positive finite value (`sqrt_nearest`), and the only such one
-- (`sqrt_only_nearest`). All is counted in the format's smallest values, where the number under the root is whole. Assumes nothing.
use Rattle.std.proofs.Common.{◌≡◌, ℕ, zero, suc, ◌+◌, ◌-◌, ◌*◌, ◌/◌, ◌%◌, ◌^◌, ◌<◌, ◌≤◌, true, false, cond, T, eqb, ℤ, sym, refl, ap, ◌∙◌, subst, le_trans, lt_trans, le_of_eq, lt_of_lt_of_le, le_of_suc-le-suc, lt_of_le_of_lt, add-zero, le_of_lt, lt_irrefl, mul-le-mul_right, zero-lt-suc, mul_assoc, mul_comm, mul-le-mul_left, mul-lt-mul_of_pos_right, mul-pos, one-mul, pow-suc, lt_of_not-le, le-div_iff_mul-le, mul_right_comm, not-le_of_lt, mul_left_comm, arith, lt→ltb, pow_pos, pow_mono, pow-add}
use Prim.Native.Nat.{compare}
use native.Mathlib.Nat.{eq_of_mul-eq-mul_right}
use native.Mathlib.Decide.{dec_le}
use lib.Ieee.{Float, nan, inf, fin, Format, binary32, binary64, prec, emax, low, hid, size, units, fits}
use lib.Ieee.Digits.{size-lt, size_reaches}
use lib.Ieee.Exact.{HasValue, units_val}
use lib.Ieee.Nearest.{closest, nearest-ge}
use lib.Ieee.Positive.{num, den, den_pos, positive, positive_of_value, value_pos, value→cross}
use Rattle.sqrt.specs.Sqrt.{isqrt, round_root, round_sqrt, radicand, sqrt_in}
use Rattle.sqrt.specs.Nearest.{not_negative, sum_num, sum_den, Less, MidBelow, MidAbove, NearestRoot}
use Rattle.sqrt.proofs.Squares.{sq_dbl, root_lt, root_le, isqrt_is}
use Rattle.sqrt.proofs.OneRounding.{round_units, round_root_fits, sticky_le, sticky_one}
use Rattle.sqrt.proofs.Scaling.{radicand_of}
use Rattle.double_bits.proofs.Patterns.{value_unique}
use Rattle.sqrt.proofs.Midpoints.{closest_near, Rounded, times4, times2, larger, smaller, shorter}
use Rattle.sqrt.proofs.Counted.{Counted, counted, on_grid, tie_free, units_less, above_fractions, below_fractions}

-- ---- the formats

hid_twice : (f : Format) → hid f * 2 ≡ 2 ^ prec f
hid_twice binary32 = refl
hid_twice binary64 = refl

-- the square of 2 ^ prec is no more than 2 ^ low, so √n has all the digits that the format keeps
many : (f : Format) → prec f + prec f ≤ low f
many binary32 = omega arith
many binary64 = omega arith

four_le : (f : Format) → 4 ≤ 2 ^ suc (emax f)
four_le f = le_trans (le_of_eq refl) (pow_mono (one_more f))
  where
    one_more : (f : Format) → 2 ≤ suc (emax f)
    one_more binary32 = omega arith
    one_more binary64 = omega arith

-- ---- the root of x

module _ (f : Format) (m : ℕ) (e : ℤ) (F : T (fits f (fin false (suc m) e))) where
  abbrev x : Float
  x = fin false (suc m) e

  abbrev n : ℕ
  n = radicand f (fin false (suc m) e)

  abbrev s : ℕ
  s = isqrt (radicand f (fin false (suc m) e))

  X : Counted f x
  X = counted f x F tt

  value_x : HasValue x false X.u (2 ^ low f)
  value_x = (refl, X.value)

  n_is : n ≡ X.u * 2 ^ low f
  n_is = radicand_of f x X.u value_x

  n_power : n ≡ X.m * 2 ^ (X.j + low f)
  n_power =
      n_is ∙ ap (λ (y : ℕ). y * 2 ^ low f) X.is ∙ mul_assoc X.m (2 ^ X.j) (2 ^ low f) ∙ ap (λ (y : ℕ). X.m * y) (sym (pow-add 2 X.j (low f)))

  n_cross : num x * (2 ^ low f * 2 ^ low f) ≡ n * den x
  n_cross =
      sym (mul_assoc (num x) (2 ^ low f) (2 ^ low f)) ∙ ap (λ (y : ℕ). y * 2 ^ low f) X.value ∙ mul_right_comm X.u (den x) (2 ^ low f)
      ∙ ap (λ (y : ℕ). y * den x) (sym n_is)

  u_pos : 0 < X.u
  u_pos = value_pos x X.u (2 ^ low f) (lt→ltb 0 (suc m) (zero-lt-suc m)) (pow_pos (low f)) value_x

  enough : 2 ^ prec f ≤ s
  enough =
      root_le (2 ^ prec f) s n
      (le_trans (le_of_eq (sym (pow-add 2 (prec f) (prec f))))
      (le_trans (pow_mono (many f)) (le_trans (le_of_eq (sym (one-mul (2 ^ low f)))) (le_trans (mul-le-mul_right (2 ^ low f) u_pos) (le_of_eq (sym n_is))))))
      (isqrt_is n).high

  -- k + 1 digits of s are dropped
  abbrev k : ℕ
  k = size (isqrt (radicand f (fin false (suc m) e))) - suc (prec f)

  size_is : size s ≡ suc (prec f + k)
  size_is = split (prec f) (size s) (lt_of_not-le (λ (g : size s ≤ prec f). not-le_of_lt (size-lt s) (le_trans (pow_mono g) enough)))
    where
      split : (p z : ℕ) → p < z → z ≡ suc (p + (z - suc p))
      split p z h = omega arith

  s_ge : 2 ^ (prec f + k) ≤ s
  s_ge = size_reaches s (prec f + k) (le_of_eq (sym size_is))

  s_lt : s < 2 ^ suc (prec f + k)
  s_lt = subst (λ (z : ℕ). s < 2 ^ z) size_is (size-lt s)

  abbrev t : ℕ
  t = cond (eqb (radicand f (fin false (suc m) e) - s * s) 0) 0 1

  abbrev c : ℕ
  c = closest (2 * s + t) (4 * 2 ^ k)

  weight : 0 < 4 * 2 ^ k
  weight = mul-pos (zero-lt-suc 3) (pow_pos k)

  grid_start : hid f * 2 * 2 ^ k ≡ 2 ^ (prec f + k)
  grid_start = ap (λ (y : ℕ). y * 2 ^ k) (hid_twice f) ∙ sym (pow-add 2 (prec f) k)

  rounded : Rounded n s t c (hid f) (2 ^ k)
  rounded =
      record {
        root = isqrt_is n;
        near_lo = (closest_near (2 * s + t) (4 * 2 ^ k) weight).0;
        near_hi = (closest_near (2 * s + t) (4 * 2 ^ k) weight).1;
        half_le = sticky_le (n - s * s);
        half_ge = λ (l : s * s < n). sticky_one (n - s * s) (λ (z : n - s * s ≡ 0). left_over (s * s) n l z);
        size_s = le_trans (le_of_eq grid_start) s_ge;
        size_c = le_trans ((le-div_iff_mul-le weight).1 reaches) (nearest-ge ((2 * s + t) / (4 * 2 ^ k)) (compare ((2 * s + t) % (4 * 2 ^ k) * 2) (4 * 2 ^ k)));
        no_tie =
            λ (w : ℕ) (q : s * s ≡ n) (o : s ≡ (2 * w + 1) * 2 ^ k).
            tie_free (prec f) X.m (X.j + low f) s (2 * w + 1) w k X.short s_ge refl o (q ∙ n_power);
      }
    where
      left_over : (a b : ℕ) → a < b → b - a ≡ 0 → ⊥
      left_over a b h z = omega arith

      reaches : hid f * (4 * 2 ^ k) ≤ 2 * s + t
      reaches =
          let a = times4 (hid f) (2 ^ k) in
          let b = times2 (hid f) (2 ^ k) in
          let d = grid_start in
          let g = s_ge in
          omega arith

  -- the result is c * 2 * 2 ^ k units, and finite

  result_small : c * 2 * 2 ^ k ≤ 2 * s
  result_small =
      let a = times4 c (2 ^ k) in
      let b = times2 c (2 ^ k) in
      let h = rounded.near_hi in
      let l = rounded.half_le in
      let g = s_ge in
      let d : 2 ^ k ≤ 2 ^ (prec f + k) = pow_mono (below_sum (prec f) k) in
      omega arith
    where
      below_sum : (p k : ℕ) → k ≤ p + k
      below_sum p k = omega arith

  in_range_lem : 2 * s < 2 ^ (low f + suc (emax f))
  in_range_lem = root_lt (2 * s) (2 ^ (low f + suc (emax f))) (lt_of_le_of_lt (le_of_eq (sq_dbl s)) (lt_of_le_of_lt (mul-le-mul_left 4 (isqrt_is n).low) four_n))
    where
      four_n : 4 * n < 2 ^ (low f + suc (emax f)) * 2 ^ (low f + suc (emax f))
      four_n =
          let a : X.u * 2 ^ low f < 2 ^ (low f + suc (emax f)) * 2 ^ low f = mul-lt-mul_of_pos_right X.below (pow_pos (low f)) in
          let b : 4 * (2 ^ (low f + suc (emax f)) * 2 ^ low f) ≤ 2 ^ suc (emax f) * (2 ^ (low f + suc (emax f)) * 2 ^ low f) =
          mul-le-mul_right (2 ^ (low f + suc (emax f)) * 2 ^ low f) (four_le f) in
          let d : 2 ^ suc (emax f) * (2 ^ (low f + suc (emax f)) * 2 ^ low f) ≡ 2 ^ (low f + suc (emax f)) * 2 ^ (low f + suc (emax f)) =
          mul_left_comm (2 ^ suc (emax f)) (2 ^ (low f + suc (emax f))) (2 ^ low f)
          ∙ ap (λ (y : ℕ). 2 ^ (low f + suc (emax f)) * y) (mul_comm (2 ^ suc (emax f)) (2 ^ low f) ∙ sym (pow-add 2 (low f) (suc (emax f)))) in
          let g = n_is in
          omega arith

  count_is : c * 2 ^ suc (k + 0) ≡ c * 2 * 2 ^ k
  count_is =
      ap (λ (y : ℕ). c * y) (ap (λ (y : ℕ). 2 ^ suc y) (add-zero k) ∙ pow-suc 2 k ∙ mul_comm (2 ^ k) 2) ∙ sym (mul_assoc c 2 (2 ^ k))

  root_is : sqrt_in f x ≡ units f false c (suc (k + 0))
  unfolding sqrt_in round_sqrt round_root
  root_is = round_units f s t k 0 (sticky_le (n - s * s)) s_ge s_lt

  value_r : HasValue (sqrt_in f x) false (c * 2 * 2 ^ k) (2 ^ low f)
  value_r =
      subst (λ (y : Float). HasValue y false (c * 2 * 2 ^ k) (2 ^ low f)) (sym root_is)
      (subst (λ (y : ℕ). HasValue (units f false c (suc (k + 0))) false y (2 ^ low f)) count_is
      (units_val f false c (suc (k + 0)) (lt_of_le_of_lt (le_of_eq count_is) (lt_of_le_of_lt result_small in_range_lem))))

  result_ge : 2 ^ (prec f + k) ≤ c * 2 * 2 ^ k
  result_ge = le_trans (le_of_eq (sym grid_start)) (mul-le-mul_right (2 ^ k) (mul-le-mul_right 2 rounded.size_c))

  root_holds : T (fits f (sqrt_in f x))
  unfolding sqrt_in round_sqrt
  root_holds = round_root_fits f s (n - s * s) 0

  -- beside another value y
  module _ (y : Float) (G : T (fits f y)) (p : T (not_negative y)) where
    Y : Counted f y
    Y = counted f y G p

    cross_r : num (sqrt_in f x) * 2 ^ low f ≡ c * 2 * 2 ^ k * den (sqrt_in f x)
    cross_r = value→cross (sqrt_in f x) (c * 2 * 2 ^ k) (2 ^ low f) value_r

    dens : 0 < sum_den (sqrt_in f x) y * sum_den (sqrt_in f x) y * den x
    dens =
        let d = mul-pos (den_pos (sqrt_in f x)) (den_pos y) in
        mul-pos (mul-pos d d) (den_pos x)

    beside_larger : Less (sqrt_in f x) y → MidAbove x (sqrt_in f x) y
    beside_larger l =
        above_fractions (num (sqrt_in f x)) (den (sqrt_in f x)) (num y) (den y) (num x) (den x) (c * 2 * 2 ^ k) Y.u n (2 ^ low f) cross_r Y.value n_cross
        (pow_pos (low f)) dens (on (on_grid f y Y k (le_trans result_ge (le_of_lt less))))
      where
        less : c * 2 * 2 ^ k < Y.u
        less =
            units_less (num (sqrt_in f x)) (den (sqrt_in f x)) (num y) (den y) (num x) (den x) (c * 2 * 2 ^ k) Y.u n (2 ^ low f) cross_r Y.value
            n_cross (pow_pos (low f)) l

        on : (v : ℕ) × (Y.u ≡ v * 2 * 2 ^ k) → 4 * n < (c * 2 * 2 ^ k + Y.u) * (c * 2 * 2 ^ k + Y.u)
        on (v, q) =
            subst (λ (z : ℕ). 4 * n < (c * 2 * 2 ^ k + z) * (c * 2 * 2 ^ k + z)) (sym q)
            (larger n s t c (hid f) (2 ^ k) (pow_pos k) rounded v (subst (λ (z : ℕ). c * 2 * 2 ^ k < z) q less))

    beside_smaller : Less y (sqrt_in f x) → MidBelow x (sqrt_in f x) y
    beside_smaller l =
        below_fractions (num (sqrt_in f x)) (den (sqrt_in f x)) (num y) (den y) (num x) (den x) (c * 2 * 2 ^ k) Y.u n (2 ^ low f) cross_r Y.value n_cross
        (pow_pos (low f)) dens (pick (dec_le (2 ^ (prec f + k)) Y.u))
      where
        less : Y.u < c * 2 * 2 ^ k
        less =
            units_less (num y) (den y) (num (sqrt_in f x)) (den (sqrt_in f x)) (num x) (den x) Y.u (c * 2 * 2 ^ k) n (2 ^ low f) Y.value cross_r
            n_cross (pow_pos (low f)) l

        on : (v : ℕ) × (Y.u ≡ v * 2 * 2 ^ k) → (c * 2 * 2 ^ k + Y.u) * (c * 2 * 2 ^ k + Y.u) < 4 * n
        on (v, q) =
            subst (λ (z : ℕ). (c * 2 * 2 ^ k + z) * (c * 2 * 2 ^ k + z) < 4 * n) (sym q)
            (smaller n s t c (hid f) (2 ^ k) (pow_pos k) rounded v (subst (λ (z : ℕ). z < c * 2 * 2 ^ k) q less))

        pick : Dec (2 ^ (prec f + k) ≤ Y.u) → (c * 2 * 2 ^ k + Y.u) * (c * 2 * 2 ^ k + Y.u) < 4 * n
        pick (yes h) = on (on_grid f y Y k h)
        pick (no h) = shorter n s t c (hid f) (2 ^ k) (pow_pos k) rounded Y.u (lt_of_lt_of_le (lt_of_not-le h) (le_of_eq (sym grid_start)))

  nearest_at : NearestRoot f x (sqrt_in f x)
  nearest_at =
      record {
        holds = root_holds;
        above_zero = positive_of_value (sqrt_in f x) (c * 2 * 2 ^ k) (2 ^ low f) value_r (lt_of_lt_of_le (pow_pos (prec f + k)) result_ge);
        beside_larger = beside_larger;
        beside_smaller = beside_smaller;
      }

-- for every positive finite x of the format f, the root is the nearest value of f, and there is no tie
pub sqrt_nearest : (f : Format) (x : Float) → T (fits f x) → T (positive x) → NearestRoot f x (sqrt_in f x)
sqrt_nearest f nan F p = absurd p
sqrt_nearest f (inf s) F p = absurd p
sqrt_nearest f (fin true m e) F p = absurd p
sqrt_nearest f (fin false zero e) F p = absurd p
sqrt_nearest f (fin false (suc m) e) F p = nearest_at f m e F

-- ---- and there is no other such value

positive_not_negative : (y : Float) → T (positive y) → T (not_negative y)
positive_not_negative nan p = p
positive_not_negative (inf s) p = p
positive_not_negative (fin true m e) p = p
positive_not_negative (fin false m e) p = tt

counted_value : (f : Format) (y : Float) (p : T (not_negative y)) (Y : Counted f y) → HasValue y false Y.u (2 ^ low f)
counted_value f nan p Y = p
counted_value f (inf s) p Y = p
counted_value f (fin true m e) p Y = absurd p
counted_value f (fin false m e) p Y = (refl, Y.value)

module _ (f : Format) (x r y : Float) (R : NearestRoot f x r) (Y : NearestRoot f x y) where
  -- of two such values none is the larger
  not_less : Less r y → ⊥
  not_less l =
      let a = R.beside_larger y Y.holds (positive_not_negative y Y.above_zero) l in
      let b = Y.beside_smaller r R.holds (positive_not_negative r R.above_zero) l in
      let s : sum_num y r ≡ sum_num r y = omega arith in
      let d : sum_den y r ≡ sum_den r y = mul_comm (den y) (den r) in
      lt_irrefl (4 * num x * (sum_den r y * sum_den r y))
      (lt_trans a
      (subst (λ (z : ℕ). sum_num r y * sum_num r y * den x < 4 * num x * (z * z)) d
      (subst (λ (z : ℕ). z * z * den x < 4 * num x * (sum_den y r * sum_den y r)) s b)))

  same_value : num r * den y ≡ num y * den r → r ≡ y
  same_value e =
      let A = counted f r R.holds (positive_not_negative r R.above_zero) in
      let B = counted f y Y.holds (positive_not_negative y Y.above_zero) in
      let a : A.u * (den r * den y) ≡ num r * den y * 2 ^ low f =
      sym (mul_right_comm (num r) (den y) (2 ^ low f) ∙ ap (λ (z : ℕ). z * den y) A.value ∙ mul_assoc A.u (den r) (den y)) in
      let b : B.u * (den r * den y) ≡ num y * den r * 2 ^ low f =
      sym
      (mul_right_comm (num y) (den r) (2 ^ low f) ∙ ap (λ (z : ℕ). z * den r) B.value ∙ mul_assoc B.u (den y) (den r)
      ∙ ap (λ (z : ℕ). B.u * z) (mul_comm (den y) (den r))) in
      let u : A.u ≡ B.u =
      eq_of_mul-eq-mul_right (den r * den y) (mul-pos (den_pos r) (den_pos y)) A.u B.u (a ∙ ap (λ (z : ℕ). z * 2 ^ low f) e ∙ sym b) in
      value_unique f r y false B.u R.holds Y.holds
      (subst (λ (z : ℕ). HasValue r false z (2 ^ low f)) u (counted_value f r (positive_not_negative r R.above_zero) A))
      (counted_value f y (positive_not_negative y Y.above_zero) B)

-- two values nearest to one root are one
pub nearest_unique : (f : Format) (x r y : Float) → NearestRoot f x r → NearestRoot f x y → r ≡ y
nearest_unique f x r y R Y =
    same_value f x r y R Y
    (both (num r * den y) (num y * den r) (le_of_not_lt (not_less f x y r Y R)) (le_of_not_lt (not_less f x r y R Y)))
  where
    le_of_not_lt : {a b : ℕ} → (b < a → ⊥) → a ≤ b
    le_of_not_lt {a} {b} h = le_of_suc-le-suc (lt_of_not-le (λ (l : suc b ≤ a). h l))

    both : (a b : ℕ) → a ≤ b → b ≤ a → a ≡ b
    both a b h k = omega arith

-- the root is the only value of f that is nearest
pub sqrt_only_nearest : (f : Format) (x r : Float) → T (fits f x) → T (positive x) → NearestRoot f x r → r ≡ sqrt_in f x
sqrt_only_nearest f x r F p R = nearest_unique f x r (sqrt_in f x) R (sqrt_nearest f x F p)
