-- The rule of the table of reciprocals, for every entry and every t of its bin: one test of each entry at the two ends of its bin,
-- which antt computes over the whole table, and one law. And every significand's index is below 182, with the reduced argument in that bin.
-- Assumes nothing.
use Rattle.std.proofs.Common.{◌≡◌, ℕ, zero, suc, ◌+◌, ◌*◌, ◌^◌, ◌<◌, ◌≤◌, Bool, true, false, ◌&&◌, ltb, leb, refl, mul-le-mul_right, mul_assoc, mul-le-mul_left, mul-lt-mul_of_pos_right, mul-zero, mul_left_comm, arith, ltb→lt, leb→le, le-leb, leb-false, leb-true}
use native.Mathlib.Nat.{mul-lt-mul_of_pos_left}
use borrow.Author.Tests.{lt-leb}
use lib.Ieee.{Float, binary64, of_bits}
use lib.Ieee.Fits.{and_l, and_r}
use lib.Ieee.Positive.{num, den}
use Rattle.log_tables.specs.PowTables.{pow_inverse}
use Rattle.log_tables.specs.Rows.{entry_at}
use Rattle.pxfm.specs.FastLogDd.{halved, index_of}
use Rattle.pxfm.specs.Bins.{InBin, NearOne, unit_of}
use Rattle.pxfm.proofs.Tables.{every_at}

-- What holds at the ends of a bin holds inside it.
near_inside :
    (r : Float) (i n d : ℕ) → 0 < num r → 32512 * den r < 128 * (num r * (i + 181)) → 128 * (num r * (i + 182)) ≤ 33024 * den r
    → InBin i n d → 0 < d → NearOne r n d
near_inside r i n d p low high h q =
    let e : num r * (256 * n) ≡ 256 * (num r * n) = mul_left_comm (num r) 256 n in
    let l1 = simp mul_assoc at (mul-lt-mul_of_pos_right low q) in
    let l2 = mul-le-mul_left (num r) h.from in
    let h1 = simp mul_assoc at (mul-le-mul_right d high) in
    let h2 = mul-lt-mul_of_pos_left h.to p in
    record { above = omega arith; below = omega arith }

-- The test of the entry with pattern b at i.
ends : ℕ → ℕ → Bool
unfolding of_bits
ends i b =
    let p = num (of_bits binary64 b) in
    let q = den (of_bits binary64 b) in
    ltb 0 p && (ltb (32512 * q) (128 * (p * (i + 181))) && leb (128 * (p * (i + 182))) (33024 * q))

divisor_positive : (k n d : ℕ) → 256 * n < k * d → 0 < d
divisor_positive k n zero h = let g = rw mul-zero at h in omega arith
divisor_positive k n (suc d) h = omega arith

-- For every entry and every t of its bin, r × t - 1 is below 1/128 in size.
pub reciprocal_near : (i n d : ℕ) → i < 182 → InBin i n d → NearOne (entry_at pow_inverse i) n d
unfolding pow_inverse ends
reciprocal_near i n d h b =
    let r = entry_at pow_inverse i in
    let t = every_at ends pow_inverse tt i h in
    let u = and_r (ltb 0 (num r)) _ t in
    near_inside r i n d
    (ltb→lt 0 (num r) (and_l (ltb 0 (num r)) _ t))
    (ltb→lt _ _ (and_l (ltb (32512 * den r) (128 * (num r * (i + 181)))) _ u))
    (leb→le _ _ (and_r (ltb (32512 * den r) (128 * (num r * (i + 181)))) _ u))
    b
    (divisor_positive (i + 182) n d b.to)

-- What the index of a significand is: below 182, its bin that of the reduced argument.
pub record Indexed (m : ℕ) : Type 0 where
  pub index_below : index_of m < 182
  pub in_bin : InBin (index_of m) m (unit_of m)

upper : (m : ℕ) → m < 2 ^ 53 → 0x16a0_9e66_7f3b_cd ≤ m → Indexed m
unfolding index_of
upper m h g =
    let e = le-leb 0x16a0_9e66_7f3b_cd m g in
    record { index_below = rw e (omega arith); in_bin = record { from = rw e (omega arith); to = rw e (omega arith) } }

lower : (m : ℕ) → 2 ^ 52 ≤ m → m < 0x16a0_9e66_7f3b_cd → Indexed m
unfolding index_of
lower m l g =
    let e = lt-leb 0x16a0_9e66_7f3b_cd m g in
    record { index_below = rw e (omega arith); in_bin = record { from = rw e (omega arith); to = rw e (omega arith) } }

-- Every 53-bit significand, so every positive finite argument (`scale` gives one for each).
pub significand_indexed : (m : ℕ) → 2 ^ 52 ≤ m → m < 2 ^ 53 → Indexed m
significand_indexed m l h = go (halved m) refl
  where
    go : (b : Bool) → halved m ≡ b → Indexed m
    go true e = upper m h (leb-true _ _ e)
    go false e = lower m l (leb-false _ _ e)

-- So r × t - 1 is below 1/128 in size at every argument of the logarithms.
pub reduced_near : (m : ℕ) → 2 ^ 52 ≤ m → m < 2 ^ 53 → NearOne (entry_at pow_inverse (index_of m)) m (unit_of m)
reduced_near m l h = let x = significand_indexed m l h in reciprocal_near (index_of m) m (unit_of m) x.index_below x.in_bin
