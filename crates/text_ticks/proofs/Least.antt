-- What the roundings mean: rounded up is the least whole number not below the double. Whole numbers here have a sign. Assumes nothing.
use mathlib.Core.Path.{◌≡◌, refl, sym, ap, ◌∙◌, subst}
use mathlib.Core.Bool.{Bool, true, false}
use Prim.Native.Nat.{ℕ, zero, suc, ◌+◌, ◌*◌, ◌/◌, ◌≤◌, ◌<◌}
use native.Mathlib.Nat.{add-mul, zero-mul, suc-mul, div-mul-le_self, lt_of_mul-lt-mul_right, lt-div-mul-add}
use native.Mathlib.Omega.{arith}
use borrow.Author.Tests.{lt-ltb}
use lib.Dec.{T, le→leb, leb→le}
use lib.IntN.{ℤ, pos, negsuc, neg_ℤ, ◌*ℤ◌, pos-*ℤ-pos, negsuc-*ℤ-pos, zero-*ℤ}
use lib.Ieee.{Float}
use lib.Ieee.Positive.{num, den, den_pos}
use Rattle.text_ticks.specs.Ticks.{ceiling, minus_of, up_size, counted, in_range, whole_by, ticks_up}
use Rattle.text_ticks.specs.Meaning.{signed, int_of, le_z, LeastNotBelow, RoundsUp}
use Rattle.text_ticks.proofs.Division.{ceiling_over, ceiling_under}

-- ---- whole numbers below zero

pub neg_le : (a b : ℕ) → b ≤ a → T (le_z (neg_ℤ (pos a)) (neg_ℤ (pos b)))
neg_le zero zero h = le→leb 0 0 h
neg_le zero (suc b) h = absurd (omega arith)
neg_le (suc a) zero h = tt
neg_le (suc a) (suc b) h = le→leb b a (omega arith)

pub neg_le_back : (a b : ℕ) → T (le_z (neg_ℤ (pos a)) (neg_ℤ (pos b))) → b ≤ a
neg_le_back zero zero h = omega arith
neg_le_back zero (suc b) h = absurd h
neg_le_back (suc a) zero h = omega arith
neg_le_back (suc a) (suc b) h = let l = leb→le b a h in omega arith

-- a whole number below zero is below every one that is not
pub neg_below : (a b : ℕ) → T (le_z (neg_ℤ (pos a)) (pos b))
neg_below zero b = le→leb 0 b (omega arith)
neg_below (suc a) b = tt

pub neg_times : (q c : ℕ) → neg_ℤ (pos q) *ℤ pos c ≡ neg_ℤ (pos (q * c))
neg_times zero c = zero-*ℤ (pos c) ∙ ap (λ (n : ℕ). neg_ℤ (pos n)) (sym (zero-mul c))
neg_times (suc q) c = negsuc-*ℤ-pos q c

-- above zero there is none below it
pub pos_not_neg : (a r : ℕ) → 0 < r → T (le_z (pos a) (neg_ℤ (pos r))) → ⊥
pos_not_neg a zero h l = omega arith
pos_not_neg a (suc r) h l = l

-- the sign of 0 does not count
pub counted_int : (s : Bool) (n : ℕ) → int_of (counted s n) ≡ signed s n
counted_int true zero = refl
counted_int true (suc n) = rw (lt-ltb 0 (suc n) (omega arith))
counted_int false n = refl

-- ---- rounded up

pub above_next : (q c a t : ℕ) → q * c < a + c → a ≤ t * c → q ≤ t
above_next q c a t h l =
    let next : (t + 1) * c ≡ t * c + 1 * c = add-mul t 1 c in
    let less : q * c < (t + 1) * c = omega arith in
    let below = lt_of_mul-lt-mul_right c less in
    omega arith

pub below_next : (q c a t : ℕ) → a < q * c + c → t * c ≤ a → t ≤ q
below_next q c a t h l =
    let next : (q + 1) * c ≡ q * c + 1 * c = add-mul q 1 c in
    let less : t * c < (q + 1) * c = omega arith in
    let below = lt_of_mul-lt-mul_right c less in
    omega arith

some : (t c : ℕ) → 0 < c → 0 < suc t * c
some t c h = let e = suc-mul t c in omega arith

least_of : (s : Bool) (a c : ℕ) → 0 < c → (y : ℤ) → T (le_z (signed s a) (y *ℤ pos c)) → T (le_z (signed s (up_size s a c)) y)
unfolding up_size
least_of false a c h (pos t) l =
    let reached = leb→le a (t * c) (subst (λ (z : ℤ). T (le_z (pos a) z)) (pos-*ℤ-pos t c) l) in
    le→leb (ceiling a c) t (above_next (ceiling a c) c a t (ceiling_under a c h) reached)
least_of false a c h (negsuc t) l =
    absurd (pos_not_neg a (suc t * c) (some t c h) (subst (λ (z : ℤ). T (le_z (pos a) z)) (negsuc-*ℤ-pos t c) l))
least_of true a c h (pos t) l = neg_below (a / c) t
least_of true a c h (negsuc t) l =
    let reached = neg_le_back a (suc t * c) (subst (λ (z : ℤ). T (le_z (neg_ℤ (pos a)) z)) (negsuc-*ℤ-pos t c) l) in
    neg_le (a / c) (suc t) (below_next (a / c) c a (suc t) (lt-div-mul-add {a = a} h) reached)

not_below_of : (s : Bool) (a c : ℕ) → 0 < c → T (le_z (signed s a) (signed s (up_size s a c) *ℤ pos c))
unfolding up_size
not_below_of false a c h =
    subst (λ (z : ℤ). T (le_z (pos a) z)) (sym (pos-*ℤ-pos (ceiling a c) c)) (le→leb a (ceiling a c * c) (ceiling_over a c h))
not_below_of true a c h =
    subst (λ (z : ℤ). T (le_z (neg_ℤ (pos a)) z)) (sym (neg_times (a / c) c)) (neg_le a (a / c * c) (div-mul-le_self a c))

-- of a double in range, `ticks_up` gives the least whole number not below it
pub rounds_up : (x : Float) → in_range x ≡ true → RoundsUp x
unfolding ticks_up whole_by
rounds_up x h =
    let s = minus_of x in
    let z = counted_int s (up_size s (num x) (den x)) in
    record {
      count = counted s (up_size s (num x) (den x));
      is = rw h;
      least =
          subst (LeastNotBelow x) (sym z)
          (record { not_below = not_below_of s (num x) (den x) (den_pos x); least = least_of s (num x) (den x) (den_pos x) });
    }
