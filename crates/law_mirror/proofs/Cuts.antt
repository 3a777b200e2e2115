-- The cuts at 2 - x below 0.1: 1 - (2 - x) is above the three cuts of `erf_core`, and 0.0001 on 2 - x and 0.9999 on 1 - (2 - x) part the same doubles, since
-- 2 - x is a whole number of units of 2 ^ -52. Assumes nothing.
use mathlib.Core.Path.{◌≡◌, refl}
use mathlib.Core.Bool.{Bool, true, false}
use Prim.Native.Nat.{ℕ, ◌+◌, ◌*◌, ◌^◌}
use native.Mathlib.Omega.{arith}
use lib.Dec.{T}
use lib.Ieee.{Float, binary64, of_bits, lt, le}
use denote.Floats.{passes}
use Rattle.facts.proofs.Tests.{refuted}
use Rattle.pxfm.specs.Argument.{tenth, three_quarters}
use Rattle.pxfm.proofs.Value.{Val}
use Rattle.pxfm.proofs.Units.{val_of_units}
use Rattle.pxfm.proofs.Order.{lt_of_val, val_of_lt, le_of_val, val_of_le}
use Rattle.pxfm.proofs.Ranges.{tenth_val}
use Rattle.law_mirror.specs.Sides.{four_terms, seven_terms, near_one, near_zero}
use Rattle.law_mirror.proofs.Finer.{val_finer}

-- ---- the cuts, in units of powers of two

four_val : Val binary64 four_terms 0x1374_bc6a_7ef9_db 0 1015
unfolding of_bits
four_val = val_of_units 0x1374_bc6a_7ef9_db 1015 (refl, refl) refl

seven_val : Val binary64 seven_terms 0x1eb8_51eb_851e_b8 0 1017
unfolding of_bits
seven_val = val_of_units 0x1eb8_51eb_851e_b8 1017 (refl, refl) refl

three_quarters_val : Val binary64 three_quarters (3 * 2 ^ 51) 0 1021
unfolding of_bits
three_quarters_val = val_of_units (3 * 2 ^ 51) 1021 (refl, refl) refl

near_one_val : Val binary64 near_one 0x1fff_2e48_e8a7_1e 0 1021
unfolding of_bits
near_one_val = val_of_units 0x1fff_2e48_e8a7_1e 1021 (refl, refl) refl

near_zero_val : Val binary64 near_zero 0x1a36_e2eb_1c43_2d 0 1008
unfolding of_bits
near_zero_val = val_of_units 0x1a36_e2eb_1c43_2d 1008 (refl, refl) refl

same_test : (b c : Bool) → (T b → T c) → (T c → T b) → b ≡ c
same_test true true f g = refl
same_test true false f g = absurd (f tt)
same_test false true f g = absurd (g tt)
same_test false false f g = refl

-- o is above the three cuts.
pub record AboveCuts (o : Float) : Type 0 where
  pub four : le o four_terms ≡ false
  pub seven : le o seven_terms ≡ false
  pub quarters : le o three_quarters ≡ false

-- y is 2 ^ 54 - 2 * a and o is 1 - y, in units of 2 ^ -53.
module _ {y o : Float} (a : ℕ) (v : Val binary64 y (2 ^ 54) (2 * a) 1021) (w : Val binary64 o (2 ^ 53 + 2 * a) (2 ^ 54) 1021) where
  pub above_cuts : lt y tenth ≡ true → AboveCuts o
  above_cuts h =
      let t = val_of_lt (val_finer 3 1018 v) (tenth_val 0 1018 refl) (passes (lt y tenth) h) in
      record {
        four = refuted (le o four_terms) (λ l. let z = val_of_le (val_finer 6 1015 w) four_val (passes (le o four_terms) l) in omega arith);
        seven = refuted (le o seven_terms) (λ l. let z = val_of_le (val_finer 4 1017 w) seven_val (passes (le o seven_terms) l) in omega arith);
        quarters = refuted (le o three_quarters) (λ l. let z = val_of_le w three_quarters_val (passes (le o three_quarters) l) in omega arith);
      }

  pub cuts_same : lt o near_one ≡ le near_zero y
  cuts_same =
      let u = val_finer 13 1008 v in
      same_test (lt o near_one) (le near_zero y)
      (λ h. let z = val_of_lt w near_one_val h in le_of_val near_zero_val u (omega arith))
      (λ h. let z = val_of_le near_zero_val u h in lt_of_val w near_one_val (omega arith))
