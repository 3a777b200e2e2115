-- What D is divided by under each form, and that both divisors are small.
-- Assumes nothing.
use mathlib.Core.Path.{◌≡◌, refl}
use mathlib.Core.Bool.{Bool, true, false, cond}
use Prim.Native.Nat.{ℕ, ◌-◌, ◌*◌, ◌≤◌}
use native.Mathlib.Nat.{mul-le-mul}
use native.Mathlib.Omega.{arith}
use lib.Dec.{eqb}
use Rattle.limit.specs.Times.{max_count}
use Rattle.limit.specs.Formula.{plain_form, sample_form, divisor_of}

either : (b : Bool) (x y z : ℕ) → x ≤ z → y ≤ z → cond b x y ≤ z
either true x y z h k = h
either false x y z h k = k

module _ (n : ℕ) where
  pub divisor_plain : divisor_of plain_form n ≡ n * n
  unfolding divisor_of
  divisor_plain = refl

  pub divisor_sample : divisor_of sample_form n ≡ n * (n - 1)
  unfolding divisor_of
  divisor_sample = refl

  pub divisor_small : (form : ℕ) → n ≤ max_count → divisor_of form n ≤ max_count * max_count
  unfolding divisor_of
  divisor_small form h =
      let less : n - 1 ≤ max_count = omega arith in
      either (eqb form sample_form) (n * (n - 1)) (n * n) (max_count * max_count) (mul-le-mul h less) (mul-le-mul h h)
