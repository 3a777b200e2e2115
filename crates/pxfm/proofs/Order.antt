-- What the comparisons of two doubles say of their numbers of units, in both directions.
-- The definitions compare the cross products of two fractions, and a common factor leaves their order. Assumes nothing.
use Rattle.std.proofs.Common.{◌≡◌, ℕ, ◌+◌, ◌*◌, ◌^◌, ◌<◌, ◌≤◌, Bool, true, false, not, ◌||◌, T, eqb, ltb, ◌⊎◌, sym, ap, ◌∙◌, inl, inr, le_trans, le_of_eq, mul-le-mul_right, eq-or-lt_of_le, mul-pos, lt_of_not-le, zero-mul, mul_right_comm, not-le_of_lt, le_of_mul-le-mul_right, arith, eqb→eq, ltb→lt, lt→ltb, nltb→le, T_not, pow_pos}
use native.Mathlib.Nat.{eq_of_mul-eq-mul_right}
use lib.Ieee.{Float, nan, inf, fin, binary64, up, down, below, level, lt, le, eq}
use lib.Ieee.Fits.{down_pos, eq→eqb, and_i, and_l, and_r}
use Rattle.facts.proofs.Tests.{either, or_left, or_right}
use Rattle.pxfm.proofs.Value.{Gap, Val}

scaled_lt : (x y l a b d : ℕ) → 0 < d → x * l ≡ a * d → y * l ≡ b * d → a < b → x < y
scaled_lt x y l a b d D h k g =
    let back : y ≤ x → b ≤ a = λ n. le_of_mul-le-mul_right (le_trans (le_of_eq (sym k)) (le_trans (mul-le-mul_right l n) (le_of_eq h))) D in
    lt_of_not-le (λ (n : y ≤ x). not-le_of_lt g (back n))

-- Two numbers with the signs s and t, of the sizes x and y, which are a and b times d / l.
module _ (x y l a b d p n q m : ℕ) (L : 0 < l) (D : 0 < d) (h : x * l ≡ a * d) (k : y * l ≡ b * d) where
  below_of_gaps : (s t : Bool) → Gap s a p n → Gap t b q m → p + m < q + n → T (below s x t y)
  below_of_gaps false false g g' r = lt→ltb x y (scaled_lt x y l a b d D h k (omega arith))
  below_of_gaps false true g g' r = absurd (omega arith)
  below_of_gaps true false g g' r =
      lt→ltb 0 (x + y) (scaled_lt 0 (x + y) l 0 (a + b) d D (omega arith) (omega arith) (omega arith))
  below_of_gaps true true g g' r = lt→ltb y x (scaled_lt y x l b a d D k h (omega arith))

  gaps_of_below : (s t : Bool) → Gap s a p n → Gap t b q m → T (below s x t y) → p + m < q + n
  gaps_of_below false false g g' r = let z = scaled_lt a b d x y l L (sym h) (sym k) (ltb→lt x y r) in omega arith
  gaps_of_below false true g g' r = absurd r
  gaps_of_below true false g g' r =
      let z = scaled_lt 0 (a + b) d 0 (x + y) l L (omega arith) (omega arith) (ltb→lt 0 (x + y) r) in omega arith
  gaps_of_below true true g g' r = let z = scaled_lt b a d y x l L (sym k) (sym h) (ltb→lt y x r) in omega arith

  size_same : a ≡ b → x ≡ y
  size_same e = eq_of_mul-eq-mul_right l L x y (h ∙ ap (λ (z : ℕ). z * d) e ∙ sym k)

  size_zero : a ≡ 0 → x ≡ 0
  size_zero e = eq_of_mul-eq-mul_right l L x 0 (h ∙ ap (λ (z : ℕ). z * d) e ∙ zero-mul d ∙ sym (zero-mul l))

  level_of_gaps : (s t : Bool) → Gap s a p n → Gap t b q m → p + m ≡ q + n → T (level s x t y)
  level_of_gaps false false g g' r = and_i (eqb x y) true (eq→eqb (size_same (omega arith))) tt
  level_of_gaps true true g g' r = and_i (eqb x y) true (eq→eqb (size_same (omega arith))) tt
  level_of_gaps false true g g' r =
      and_i (eqb x y) (eqb x 0) (eq→eqb (size_same (omega arith))) (eq→eqb (size_zero (omega arith)))
  level_of_gaps true false g g' r =
      and_i (eqb x y) (eqb x 0) (eq→eqb (size_same (omega arith))) (eq→eqb (size_zero (omega arith)))

  sizes_same : x ≡ y → a ≡ b
  sizes_same e = eq_of_mul-eq-mul_right d D a b (sym h ∙ ap (λ (z : ℕ). z * l) e ∙ k)

  size_none : x ≡ 0 → a ≡ 0
  size_none e = eq_of_mul-eq-mul_right d D a 0 (sym h ∙ ap (λ (z : ℕ). z * l) e ∙ zero-mul l ∙ sym (zero-mul d))

  gaps_of_level : (s t : Bool) → Gap s a p n → Gap t b q m → T (level s x t y) → p + m ≡ q + n
  gaps_of_level false false g g' r = let e = sizes_same (eqb→eq x y (and_l (eqb x y) true r)) in omega arith
  gaps_of_level true true g g' r = let e = sizes_same (eqb→eq x y (and_l (eqb x y) true r)) in omega arith
  gaps_of_level false true g g' r =
      let e = sizes_same (eqb→eq x y (and_l (eqb x y) (eqb x 0) r)) in
      let z = size_none (eqb→eq x 0 (and_r (eqb x y) (eqb x 0) r)) in
      omega arith
  gaps_of_level true false g g' r =
      let e = sizes_same (eqb→eq x y (and_l (eqb x y) (eqb x 0) r)) in
      let z = size_none (eqb→eq x 0 (and_r (eqb x y) (eqb x 0) r)) in
      omega arith

-- The size x / e over the denominator e * d, and the size y / d.
over_first : (x l a u e d : ℕ) → x * l ≡ a * u * e → x * d * l ≡ a * (u * (e * d))
over_first x l a u e d h =
    let b : a * u * e * d ≡ a * (u * (e * d)) = omega arith in
    mul_right_comm x d l ∙ ap (λ (z : ℕ). z * d) h ∙ b

over_second : (y l a u e d : ℕ) → y * l ≡ a * u * d → y * e * l ≡ a * (u * (e * d))
over_second y l a u e d h =
    let b : a * u * d * e ≡ a * (u * (e * d)) = omega arith in
    mul_right_comm y e l ∙ ap (λ (z : ℕ). z * e) h ∙ b

-- x is p - n and y is q - m: what the two tests of the definitions say.
record Compared (x y : Float) (p n q m : ℕ) : Type 0 where
  lt_of : p + m < q + n → T (lt x y)
  of_lt : T (lt x y) → p + m < q + n
  eq_of : p + m ≡ q + n → T (eq x y)
  of_eq : T (eq x y) → p + m ≡ q + n

compared : {x y : Float} {p n q m j : ℕ} → Val binary64 x p n j → Val binary64 y q m j → Compared x y p n q m
unfolding lt eq
compared {x = nan} v w = absurd v.val
compared {x = inf s} v w = absurd v.val
compared {x = fin s a e} {y = nan} v w = absurd w.val
compared {x = fin s a e} {y = inf t} v w = absurd w.val
compared {x = fin s a e} {y = fin t b d} {p = p} {n = n} {q = q} {m = m} {j = j} v w =
    let x' = a * up e * down d in
    let y' = b * up d * down e in
    let l = 2 ^ 1074 in
    let c = 2 ^ j * (down e * down d) in
    let C : 0 < c = mul-pos (pow_pos j) (mul-pos (down_pos e) (down_pos d)) in
    let h = over_first (a * up e) l v.mag (2 ^ j) (down e) (down d) v.val.1 in
    let k = over_second (b * up d) l w.mag (2 ^ j) (down e) (down d) w.val.1 in
    let g : Gap s v.mag p n = rw v.val.0 v.gap in
    let g' : Gap t w.mag q m = rw w.val.0 w.gap in
    record {
      lt_of = below_of_gaps x' y' l v.mag w.mag c p n q m (pow_pos 1074) C h k s t g g';
      of_lt = gaps_of_below x' y' l v.mag w.mag c p n q m (pow_pos 1074) C h k s t g g';
      eq_of = level_of_gaps x' y' l v.mag w.mag c p n q m (pow_pos 1074) C h k s t g g';
      of_eq = gaps_of_level x' y' l v.mag w.mag c p n q m (pow_pos 1074) C h k s t g g';
    }

module _ {x y : Float} {p n q m j : ℕ} (v : Val binary64 x p n j) (w : Val binary64 y q m j) where
  pub lt_of_val : p + m < q + n → T (lt x y)
  lt_of_val h = (compared v w).lt_of h

  pub val_of_lt : T (lt x y) → p + m < q + n
  val_of_lt h = (compared v w).of_lt h

  pub eq_of_val : p + m ≡ q + n → T (eq x y)
  eq_of_val h = (compared v w).eq_of h

  pub val_of_eq : T (eq x y) → p + m ≡ q + n
  val_of_eq h = (compared v w).of_eq h

  pub val_of_le : T (le x y) → p + m ≤ q + n
  unfolding le
  val_of_le h = go (either (lt x y) (eq x y) h)
    where
      go : T (lt x y) ⊎ T (eq x y) → p + m ≤ q + n
      go (inl l) = let l' = val_of_lt l in omega arith
      go (inr e) = let e' = val_of_eq e in omega arith

  pub le_of_val : p + m ≤ q + n → T (le x y)
  unfolding le
  le_of_val h = go (ltb (p + m) (q + n)) (ltb→lt (p + m) (q + n)) (nltb→le (p + m) (q + n))
    where
      go : (b : Bool) → (T b → p + m < q + n) → (T (not b) → q + n ≤ p + m) → T (lt x y || eq x y)
      go true k l = or_left (lt x y) (eq x y) (lt_of_val (k tt))
      go false k l = let l' = l tt in or_right (lt x y) (eq x y) (eq_of_val (omega arith))

  -- The tests that answer no.
  pub val_of_not_lt : T (not (lt x y)) → q + n ≤ p + m
  val_of_not_lt h = nltb→le (p + m) (q + n) (not_ltb (ltb (p + m) (q + n)) (ltb→lt (p + m) (q + n)))
    where
      not_ltb : (b : Bool) → (T b → p + m < q + n) → T (not b)
      not_ltb true k = T_not (lt x y) h (lt_of_val (k tt))
      not_ltb false k = tt

  pub val_of_not_le : T (not (le x y)) → q + n < p + m
  val_of_not_le h = lt_of_not-le (λ k. T_not (le x y) h (le_of_val k))

  pub val_of_not_eq : T (not (eq x y)) → p + m ≡ q + n → ⊥
  val_of_not_eq h e = T_not (eq x y) h (eq_of_val e)

-- Of two numbers that are not equal, one is the smaller.
pub lt_of_neither : {x y : Float} {p n q m j : ℕ} → Val binary64 x p n j → Val binary64 y q m j → T (not (eq x y)) → T (not (lt y x))
    → T (lt x y)
lt_of_neither {p = p} {n = n} {q = q} {m = m} v w ne nl = lt_of_val v w (go (eq-or-lt_of_le (val_of_not_lt w v nl)))
  where
    go : (p + m ≡ q + n) ⊎ (p + m < q + n) → p + m < q + n
    go (inl e) = absurd (val_of_not_eq v w ne e)
    go (inr l) = l
