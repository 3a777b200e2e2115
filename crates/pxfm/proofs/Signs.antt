-- The size of a double, and where a size lies beside 1: what the tests of `f_erfinv` show. Assumes nothing.
use Rattle.std.proofs.Common.{◌≡◌, ℕ, ◌+◌, ◌*◌, ◌<◌, ◌≤◌, true, false, sym, refl, ◌∙◌, true≢false, lt_of_not-le, arith, ltb-false, ltb-true, le-ltb, lt-ltb, eq-eqb}
use lib.Ieee.Fits.{down_pos}
use lib.Ieee.{Float, nan, inf, fin, up, down, is_nan, of_bits, level, neg, eq, lt}
use Rattle.std.specs.Float.{float_with_sign}
use Rattle.pxfm.specs.DoubleDouble.{one}
use Rattle.pxfm.specs.Inverf.{with_sign, size_of, beyond_one}

-- ---- the size

pub abs_size : (x : Float) → float_with_sign false x ≡ size_of x
unfolding float_with_sign with_sign
abs_size nan = refl
abs_size (inf s) = refl
abs_size (fin s m e) = refl

-- the size with the other sign
pub minus_size : (x : Float) → neg (size_of x) ≡ with_sign true x
unfolding with_sign neg
minus_size nan = refl
minus_size (inf s) = refl
minus_size (fin s m e) = refl

-- ---- beside 1

pub below_one_within : (a : Float) → lt a one ≡ true → beyond_one a ≡ false
unfolding lt is_nan of_bits
below_one_within nan h = absurd (true≢false (sym h))
below_one_within (inf true) h = refl
below_one_within (inf false) h = absurd (true≢false (sym h))
below_one_within (fin true m e) h = refl
below_one_within (fin false m e) h = rw (le-ltb _ _ (after (ltb-true _ _ h)))
  where
    after : {a b : ℕ} → a < b → a ≤ b
    after h = omega arith

pub past_one_beyond : (a : Float) → eq a one ≡ false → lt a one ≡ false → beyond_one a ≡ true
unfolding lt eq is_nan of_bits
past_one_beyond nan g h = refl
past_one_beyond (inf true) g h = absurd (true≢false h)
past_one_beyond (inf false) g h = refl
past_one_beyond (fin true m e) g h = absurd (none _ _ (down_pos e) (ltb-false _ _ h))
  where
    none : (a d : ℕ) → 0 < d → a + 1 * d ≤ 0 → ⊥
    none a d p h = omega arith
past_one_beyond (fin false m e) g h = rw (lt-ltb _ _ (above (m * up e * 1) (1 * down e) (ltb-false _ _ h) g))
  where
    above : (a b : ℕ) → b ≤ a → level false a false b ≡ false → b < a
    above a b h g = lt_of_not-le (λ (l : a ≤ b). let e : a ≡ b = omega arith in true≢false (sym (rw (eq-eqb a b e)) ∙ g))
