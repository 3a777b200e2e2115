-- The mirror of bit patterns: those from the one after 1's to the one before 2's are the x of `Mirrored`. Assumes nothing.
use mathlib.Core.Path.{◌≡◌, refl, sym, ap, ◌∙◌, subst}
use mathlib.Core.Bool.{false}
use Prim.Native.Nat.{ℕ, ◌+◌, ◌-◌, ◌*◌, ◌/◌, ◌%◌, ◌^◌, ◌≤◌}
use native.Mathlib.Omega.{arith}
use lib.Dec.{T}
use lib.Ieee.{Float, binary64, fits, of_bits, to_bits, neg, sub, lt}
use lib.Ieee.Bits.{is_true, of_bits-fits, of_bits-to_bits}
use lib.Ieee.Exact.{HasValue}
use lib.Ieee.Fits.{add-fits}
use Rattle.double_bits.proofs.Fields.{pattern_mid}
use Rattle.pxfm.specs.DoubleDouble.{one, two}
use Rattle.pxfm.specs.Inverfc.{f_erfcinv, f_erfcinv_bits}
use Rattle.pxfm.proofs.Value.{Val}
use Rattle.pxfm.proofs.Units.{val_of_units}
use Rattle.pxfm.proofs.Order.{lt_of_val}
use Rattle.pxfm.proofs.Ranges.{one_val, two_val}
use Rattle.law_mirror.specs.Mirror.{flip_sign, mirror_of, Mirrored, first_mirrored, last_mirrored, mirror_bits}
use Rattle.law_mirror.proofs.Mirror.{mirror}

module _ (b : ℕ) (from : first_mirrored ≤ b) (to : b ≤ last_mirrored) where
  abbrev x : Float
  x = of_bits binary64 b

  -- x is a units of 2 ^ -52
  abbrev a : ℕ
  a = b % 2 ^ 52 + 2 ^ 52

  value : HasValue x false (a * 2 ^ 1022) (2 ^ 1074)
  value =
      let e : b / 2 ^ 52 - 1 ≡ 1022 = omega arith in
      subst (λ (k : ℕ). HasValue x false (a * 2 ^ k) (2 ^ 1074)) e (pattern_mid b (omega arith) (λ (e : b / 2 ^ 52 ≡ 0). omega arith))

  units : Val binary64 x (2 * a) 0 1021
  units = val_of_units (2 * a) 1021 value (double a (2 ^ 1021))
    where
      double : (q u : ℕ) → q * (2 * u) ≡ 2 * q * u
      double q u = omega arith

  pub pattern_mirrored : Mirrored x
  pattern_mirrored =
      record {
        double = is_true (fits binary64 x) (of_bits-fits binary64 b);
        above_one = is_true (lt one x) (lt_of_val (one_val 53 1021 refl) units (omega arith));
        below_two = is_true (lt x two) (lt_of_val units (two_val 54 1021 refl) (omega arith));
      }

  mirror_fits : T (fits binary64 (mirror_of x))
  unfolding sub
  mirror_fits = add-fits binary64 two (neg x)

  -- The pattern of 2 - x stands for it.
  pub mirror_patterns : f_erfcinv_bits b ≡ flip_sign (f_erfcinv_bits (mirror_bits b))
  mirror_patterns =
      (mirror x pattern_mirrored).flipped
      ∙ ap (λ (y : Float). flip_sign (to_bits binary64 (f_erfcinv y))) (sym (of_bits-to_bits binary64 (mirror_of x) mirror_fits))
