-- What the roundings mean: rounded to the nearest is the greatest whole number not above the double and a half. Whole numbers here have a sign.
-- Assumes nothing.
use mathlib.Core.Path.{◌≡◌, refl, sym, ap, ◌∙◌, subst}
use mathlib.Core.Bool.{Bool, true, false}
use Prim.Native.Nat.{ℕ, zero, suc, ◌+◌, ◌-◌, ◌*◌, ◌/◌, ◌≤◌, ◌<◌}
use native.Mathlib.Nat.{suc-mul, div-mul-le_self, div-eq_of_lt, lt-div-mul-add, lt_of_not-le}
use native.Mathlib.Decide.{dec_le}
use native.Mathlib.Omega.{arith}
use borrow.Author.Tests.{lt-ltb, le-ltb}
use lib.Dec.{T, le→leb, leb→le}
use lib.IntN.{ℤ, pos, negsuc, neg_ℤ, ◌+ℤ◌, ◌*ℤ◌}
use lib.Ieee.{Float}
use lib.Ieee.Positive.{num, den, den_pos}
use Rattle.text_ticks.specs.Ticks.{minus_of, near_size, counted, in_range, whole_by, ticks_near}
use Rattle.text_ticks.specs.Meaning.{signed, le_z, NearestUp, RoundsNear}
use Rattle.text_ticks.proofs.Least.{neg_le, neg_le_back, neg_below, neg_times, pos_not_neg, counted_int, above_next, below_next}

-- ---- a half more than a number below zero

diff_pos : (n c : ℕ) → n ≤ c → neg_ℤ (pos n) +ℤ pos c ≡ pos (c - n)
diff_pos zero c h = let e : 0 + c ≡ c - 0 = omega arith in ap pos e
diff_pos (suc n) c h = rw (le-ltb c (suc n) h)

diff_neg : (n c : ℕ) → c < n → neg_ℤ (pos n) +ℤ pos c ≡ neg_ℤ (pos (n - c))
diff_neg zero c h = absurd (omega arith)
diff_neg (suc n) c h =
    let e : suc n - c ≡ suc (suc n - suc c) = omega arith in
    rw (lt-ltb c (suc n) h, e)

twice_neg : (a : ℕ) → pos 2 *ℤ neg_ℤ (pos a) ≡ neg_ℤ (pos (2 * a))
twice_neg zero = refl
twice_neg (suc a) = refl

-- 1/2 - a / c is not below zero, or it is
module _ (a c : ℕ) (h : 0 < c) where
  few : 2 * a ≤ c → pos 2 *ℤ neg_ℤ (pos a) +ℤ pos c ≡ pos (c - 2 * a)
  few l = ap (λ (z : ℤ). z +ℤ pos c) (twice_neg a) ∙ diff_pos (2 * a) c l

  many : c < 2 * a → pos 2 *ℤ neg_ℤ (pos a) +ℤ pos c ≡ neg_ℤ (pos (2 * a - c))
  many l = ap (λ (z : ℤ). z +ℤ pos c) (twice_neg a) ∙ diff_neg (2 * a) c l

  none : 2 * a ≤ c → near_size true a c ≡ 0
  unfolding near_size
  none l = div-eq_of_lt (let e : 2 * a + (c - 1) < 2 * c = omega arith in e)

-- ---- below zero

near_not_above : (a c : ℕ) → 0 < c → T (le_z (neg_ℤ (pos (near_size true a c)) *ℤ pos (2 * c)) (pos 2 *ℤ neg_ℤ (pos a) +ℤ pos c))
unfolding near_size
near_not_above a c h =
    let q : ℕ = (2 * a + (c - 1)) / (2 * c) in
    elim (dec_le (2 * a) c) [
      | yes l ↦ rw (neg_times q (2 * c), few a c h l) (neg_below (q * (2 * c)) (c - 2 * a))
      | no l ↦
          let more = lt_of_not-le l in
          let top = lt-div-mul-add {a = 2 * a + (c - 1)} {b = 2 * c} (omega arith) in
          rw (neg_times q (2 * c), many a c h more) (neg_le (q * (2 * c)) (2 * a - c) (omega arith))
    ]

limited : (a c n : ℕ) → 0 < c → 2 * a - c ≤ suc n * (2 * c) → near_size true a c ≤ suc n
unfolding near_size
limited a c n h r =
    let q : ℕ = (2 * a + (c - 1)) / (2 * c) in
    let most = div-mul-le_self (2 * a + (c - 1)) (2 * c) in
    above_next q (2 * c) (2 * a - c) (suc n) (omega arith) r

near_greatest : (a c : ℕ) → 0 < c → (y : ℤ) → T (le_z (y *ℤ pos (2 * c)) (pos 2 *ℤ neg_ℤ (pos a) +ℤ pos c))
    → T (le_z y (neg_ℤ (pos (near_size true a c))))
near_greatest a c h (pos zero) t =
    elim (dec_le (2 * a) c) [
      | yes l ↦ rw (none a c h l) (le→leb 0 0 (omega arith))
      | no l ↦
          let more = lt_of_not-le l in
          absurd (pos_not_neg (0 * (2 * c)) (2 * a - c) (omega arith) (subst (λ (z : ℤ). T (le_z (pos (0 * (2 * c))) z)) (many a c h more) t))
    ]
near_greatest a c h (pos (suc n)) t =
    elim (dec_le (2 * a) c) [
      | yes l ↦
          let reached = leb→le (suc n * (2 * c)) (c - 2 * a) (subst (λ (z : ℤ). T (le_z (pos (suc n * (2 * c))) z)) (few a c h l) t) in
          let e = suc-mul n (2 * c) in
          absurd (omega arith)
      | no l ↦
          let more = lt_of_not-le l in
          absurd (pos_not_neg (suc n * (2 * c)) (2 * a - c) (omega arith) (subst (λ (z : ℤ). T (le_z (pos (suc n * (2 * c))) z)) (many a c h more) t))
    ]
near_greatest a c h (negsuc n) t =
    elim (dec_le (2 * a) c) [
      | yes l ↦ rw (none a c h l) tt
      | no l ↦
          let more = lt_of_not-le l in
          let reached = neg_le_back (suc n * (2 * c)) (2 * a - c) (subst (λ (z : ℤ). T (le_z (neg_ℤ (pos (suc n * (2 * c)))) z)) (many a c h more) t) in
          neg_le (suc n) (near_size true a c) (limited a c n h reached)
    ]

-- ---- both signs

not_above_of : (s : Bool) (a c : ℕ) → 0 < c → T (le_z (signed s (near_size s a c) *ℤ pos (2 * c)) (pos 2 *ℤ signed s a +ℤ pos c))
unfolding near_size
not_above_of true a c h = near_not_above a c h
not_above_of false a c h =
    le→leb ((2 * a + c) / (2 * c) * (2 * c)) (2 * a + c) (div-mul-le_self (2 * a + c) (2 * c))

greatest_of : (s : Bool) (a c : ℕ) → 0 < c → (y : ℤ) → T (le_z (y *ℤ pos (2 * c)) (pos 2 *ℤ signed s a +ℤ pos c)) → T (le_z y (signed s (near_size s a c)))
unfolding near_size
greatest_of true a c h y t = near_greatest a c h y t
greatest_of false a c h (pos n) t =
    let reached = leb→le (n * (2 * c)) (2 * a + c) t in
    let top = lt-div-mul-add {a = 2 * a + c} {b = 2 * c} (omega arith) in
    le→leb n ((2 * a + c) / (2 * c)) (below_next ((2 * a + c) / (2 * c)) (2 * c) (2 * a + c) n top reached)
greatest_of false a c h (negsuc n) t = tt

-- of a double in range, `ticks_near` gives the nearest whole number
pub rounds_near : (x : Float) → in_range x ≡ true → RoundsNear x
unfolding ticks_near whole_by
rounds_near x h =
    let s = minus_of x in
    let z = counted_int s (near_size s (num x) (den x)) in
    record {
      count = counted s (near_size s (num x) (den x));
      is = rw h;
      nearest =
          subst (NearestUp x) (sym z)
          (record { not_above = not_above_of s (num x) (den x) (den_pos x); greatest = greatest_of s (num x) (den x) (den_pos x) });
    }
