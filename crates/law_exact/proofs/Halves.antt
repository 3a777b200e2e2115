-- Veltkamp's splitting: the high half is a multiple of 2 ^ 27, the low half is at most 2 ^ 26 in size, and nothing is lost.
-- The product with 2 ^ 27 + 1 is a multiple of 2 ^ 27; less a it still has 53 digits, and rounds to the multiple of 2 ^ 27
-- nearest to it; the other two operations round nothing. Assumes nothing.
use mathlib.Core.Path.{◌≡◌, refl, sym, ap, ◌∙◌}
use mathlib.Core.Bool.{Bool, true, false, not}
use Prim.Native.Nat.{ℕ, ◌+◌, ◌-◌, ◌*◌, ◌^◌, ◌≤◌, ◌<◌}
use native.Mathlib.Nat.{mul_assoc}
use native.Mathlib.Omega.{arith}
use lib.Dec.{T, ltb, ltb→lt, nltb→le}
use lib.Pow.{pow-add}
use lib.Ieee.{Float, binary64, unlike, of_bits, add, sub, mul}
use Rattle.pxfm.specs.declared.double_double.DoubleDouble.{DoubleDouble}
use Rattle.pxfm.specs.DoubleDouble.{new_of, split_of}
use Rattle.law_exact.specs.Scaled.{size_of}
use Rattle.law_exact.specs.Dekker.{splitter, Half, ExactSplit}
use Rattle.law_exact.proofs.Signed.{Signed, SignedRounds, flip, rounds_flip, signed_same, add_signed, sub_signed, mul_signed, exact_signed}
use Rattle.law_exact.proofs.Multiple.{Multiple, multiple}
use Rattle.law_exact.proofs.Lossless.{signed_size, sum_lossless}

-- a = 2 ^ 27 * h + (r - 2 ^ 26)
pub record Halves (d : DoubleDouble) (s : Bool) (a j : ℕ) : Type 0 where
  pub h : ℕ
  pub r : ℕ
  pub sum : a + 2 ^ 26 ≡ 2 ^ 27 * h + r
  pub small : r ≤ 2 ^ 27
  pub high : Signed s d.hi (2 ^ 27 * h) 0 j
  pub low : Signed s d.lo r (2 ^ 26) j

factor : Signed false splitter (2 ^ 27 + 1) 0 1074
unfolding of_bits
factor = record { is = record { sign = false; mag = 2 ^ 27 + 1; val = (refl, refl); gap = refl } }

unlike_false : (s : Bool) → unlike false s ≡ s
unlike_false false = refl
unlike_false true = refl

-- The product with the factor, rounded, is 2 ^ 27 * c.
record Product (x : Float) (s : Bool) (a j : ℕ) : Type 0 where
  c : ℕ
  val : Signed s x (2 ^ 27 * c) 0 j
  from : 2 ^ 79 + a ≤ 2 ^ 27 * c
  to : 2 ^ 27 * c < 2 ^ 80 + a

least : (a c : ℕ) → 2 ^ 52 ≤ a → 2 * ((2 ^ 27 + 1) * a) ≤ 2 * (2 ^ 27 * c) + 2 ^ 27 → 2 ^ 79 + a ≤ 2 ^ 27 * c
least a c h u = omega arith

most : (a c : ℕ) → a < 2 ^ 53 → 2 * (2 ^ 28 * c) ≤ 2 * ((2 ^ 27 + 1) * a) + 2 ^ 28 → 2 ^ 28 * c < 2 ^ 80 + a
most a c h u = omega arith

times_factor : {s : Bool} {x : Float} {a j : ℕ} → j ≤ 1900 → 2 ^ 52 ≤ a → a < 2 ^ 53 → Signed s x a 0 j
    → Product (mul binary64 splitter x) s a j
times_factor {s = s} {x = x} {a = a} {j = j} J lo hi v = go (ltb m (2 ^ 80)) (ltb→lt m (2 ^ 80)) (nltb→le m (2 ^ 80))
  where
    m : ℕ
    m = (2 ^ 27 + 1) * a

    y : Float
    y = mul binary64 splitter x

    rounds : SignedRounds s y ((2 ^ 27 + 1) * a + 0 * 0) ((2 ^ 27 + 1) * 0 + 0 * a) j
    rounds = rw (unlike_false s) at (mul_signed j (omega arith) factor v)

    go : (b : Bool) → (T b → m < 2 ^ 80) → (T (not b) → 2 ^ 80 ≤ m) → Product y s a j
    go true h k =
        let h' = h tt in
        let t = multiple rounds m 27 (omega arith) in
        record { c = t.c; val = t.val; from = least a t.c lo t.under; to = omega (arith, t.over) }
    go false h k =
        let k' = k tt in
        let t = multiple rounds m 28 (omega arith) in
        record {
          c = 2 * t.c;
          val = signed_same (2 ^ 27 * (2 * t.c)) 0 (omega arith) t.val;
          from = omega (arith, t.under);
          to = let u = most a t.c hi t.over in omega arith;
        }

flip_back : (s : Bool) {x : Float} {p n j : ℕ} → Signed (unlike true s) x p n j → Signed s x n p j
flip_back false v = flip v
flip_back true v = flip v

-- t2 is the multiple of 2 ^ 27 nearest to t1 - a, so what is left of t1 is the one nearest to a.
module _ {s : Bool} {x t1 t2 : Float} {a j : ℕ} (J : j ≤ 1900) (hi : a < 2 ^ 53) (v : Signed s x a 0 j) (v1 : Product t1 s a j)
    (v2 : Multiple (unlike true s) t2 (2 ^ 27 * v1.c - a) 27 j) where
  halves_at : (h r : ℕ) → h + v2.c ≡ v1.c → a + 2 ^ 26 ≡ 2 ^ 27 * h + r
      → Halves (new_of (sub binary64 x (add binary64 t1 t2)) (add binary64 t1 t2)) s a j
  halves_at h r k e =
      let from = v1.from in
      let over = v2.over in
      let under = v2.under in
      let high = exact_signed (add_signed v1.val (flip_back s v2.val)) 27 h 0 (omega arith) in
      let low = exact_signed (sub_signed v high) 0 r (2 ^ 26) (omega arith) in
      record { h = h; r = r; sum = e; small = omega arith; high = high; low = signed_same r (2 ^ 26) (omega arith) low }

  halves_of : Halves (new_of (sub binary64 x (add binary64 t1 t2)) (add binary64 t1 t2)) s a j
  halves_of =
      let from = v1.from in
      let over = v2.over in
      let under = v2.under in
      halves_at (v1.c - v2.c) (a + 2 ^ 26 - 2 ^ 27 * (v1.c - v2.c)) (omega arith) (omega arith)

pub split_halves : {s : Bool} {x : Float} {a j : ℕ} → j ≤ 1900 → 2 ^ 52 ≤ a → a < 2 ^ 53 → Signed s x a 0 j → Halves (split_of x) s a j
unfolding split_of
split_halves {a = a} J lo hi v =
    let t1 = times_factor J lo hi v in
    let from = t1.from in
    let to = t1.to in
    halves_of J hi v t1 (multiple (rounds_flip (sub_signed v t1.val)) (2 ^ 27 * t1.c - a) 27 (omega arith))

-- Zero has halves of zero.
pub zero_halves : {s : Bool} {x : Float} {j : ℕ} → j ≤ 1900 → Signed s x 0 0 j → Halves (split_of x) s 0 j
unfolding split_of
zero_halves {s = s} {x = x} {j = j} J v =
    let t1 = exact_signed (rw (unlike_false s) at (mul_signed j (omega arith) factor v)) 0 0 0 (omega arith) in
    let t2 = exact_signed (sub_signed v t1) 0 0 0 (omega arith) in
    let top = exact_signed (add_signed t1 t2) 0 0 0 (omega arith) in
    let rest = exact_signed (sub_signed v top) 0 0 0 (omega arith) in
    record {
      h = 0;
      r = 2 ^ 26;
      sum = refl;
      small = omega arith;
      high = signed_same (2 ^ 27 * 0) 0 (omega arith) top;
      low = signed_same (2 ^ 26) (2 ^ 26) (omega arith) rest;
    }

-- ---- in scaled whole numbers

half_of : {x : Float} (m i j k : ℕ) → size_of x ≡ m * 2 ^ j → m ≡ k * 2 ^ i → k ≤ 2 ^ 26 → Half x
half_of m i j k e f l =
    record { n = k; j = i + j; few = l; is = e ∙ ap (λ (z : ℕ). z * 2 ^ j) f ∙ mul_assoc k (2 ^ i) (2 ^ j) ∙ ap (λ (z : ℕ). k * z) (sym (pow-add 2 i j)) }

pub split_exact : {s : Bool} {x : Float} {a j : ℕ} → a < 2 ^ 53 → Signed s x a 0 j → Halves (split_of x) s a j → ExactSplit x (split_of x)
split_exact {j = j} l v d =
    let sum = d.sum in
    let small = d.small in
    let apart = (d.r - 2 ^ 26) + (2 ^ 26 - d.r) in
    record {
      sum = sym (sum_lossless d.low d.high v (omega arith));
      low_half = half_of apart 0 j apart (signed_size d.low) (omega arith) (omega arith);
      high_half = half_of ((2 ^ 27 * d.h - 0) + (0 - 2 ^ 27 * d.h)) 27 j d.h (signed_size d.high) (omega arith) (omega arith);
    }
