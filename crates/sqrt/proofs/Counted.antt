-- A value of the format as a count of the format's smallest values: a number of at most prec binary digits times a power of two. From 2 ^ (prec + k) on
-- it is a multiple of 2 ^ (k + 1), and no odd square with more digits is one. Counts and fractions are compared alike. Assumes nothing.
use Rattle.std.proofs.Common.{◌≡◌, ℕ, zero, suc, ◌+◌, ◌-◌, ◌*◌, ◌%◌, ◌^◌, ◌<◌, ◌≤◌, true, false, ◌&&◌, T, eqb, ltb, leb, ℤ, pos, negsuc, sym, refl, ap, ◌∙◌, le_trans, le_of_eq, lt_of_lt_of_le, le_of_suc-le-suc, lt_of_le_of_lt, mul_assoc, mul_comm, add-mul, mul-le-mul, lt_of_mul-lt-mul_right, mul-le-mul_left, mul-lt-mul_of_pos_right, pow-suc, lt_of_not-le, zero-mul, mul-one, mul_right_comm, not-le_of_lt, le_of_mul-le-mul_right, arith, ltb→lt, leb→le, pow_pos, pow_mono, pow-add}
use native.Mathlib.Nat.{eq_of_mul-eq-mul_right}
use native.Mathlib.Nat.{mul-mul-mul_comm}
use native.Mathlib.Decide.{dec_le}
use lib.Pow.{pow-lt}
use lib.Ieee.{Float, nan, inf, fin, Format, prec, emax, low, up, down, fits}
use lib.Ieee.Digits.{back}
use lib.Ieee.Fits.{and_l, and_r}
use lib.Ieee.Positive.{num, den}
use Rattle.sqrt.specs.Nearest.{not_negative}
use Rattle.sqrt.proofs.Squares.{sq_suc, sq_dbl}

-- ---- a value of the format in units: a number below 2 ^ prec times a power of two

pub record Counted (f : Format) (y : Float) : Type 0 where
  pub u : ℕ
  pub m : ℕ
  pub j : ℕ
  pub value : num y * 2 ^ low f ≡ u * den y
  pub is : u ≡ m * 2 ^ j
  pub short : m < 2 ^ prec f
  pub below : u < 2 ^ (low f + suc (emax f))

module _ (f : Format) (m : ℕ) (e : ℤ) (F : T (fits f (fin false (suc m) e))) where
  field_short : suc m < 2 ^ prec f
  unfolding fits
  field_short =
      let A = eqb (suc m % 2) 1 in
      let B = ltb (suc m) (2 ^ prec f) in
      let C = leb (down e) (2 ^ low f) in
      let D = ltb (suc m * up e) (2 ^ suc (emax f) * down e) in
      ltb→lt (suc m) (2 ^ prec f) (and_r A B (and_l (A && B) C (and_l (A && B && C) D F)))

  field_low : down e ≤ 2 ^ low f
  unfolding fits
  field_low =
      let A = eqb (suc m % 2) 1 in
      let B = ltb (suc m) (2 ^ prec f) in
      let C = leb (down e) (2 ^ low f) in
      let D = ltb (suc m * up e) (2 ^ suc (emax f) * down e) in
      leb→le (down e) (2 ^ low f) (and_r (A && B) C (and_l (A && B && C) D F))

  field_high : suc m * up e < 2 ^ suc (emax f) * down e
  unfolding fits
  field_high =
      let A = eqb (suc m % 2) 1 in
      let B = ltb (suc m) (2 ^ prec f) in
      let C = leb (down e) (2 ^ low f) in
      let D = ltb (suc m * up e) (2 ^ suc (emax f) * down e) in
      ltb→lt (suc m * up e) (2 ^ suc (emax f) * down e) (and_r (A && B && C) D F)

  below_of : (u : ℕ) → suc m * up e * 2 ^ low f ≡ u * down e → u < 2 ^ (low f + suc (emax f))
  below_of u v =
      lt_of_mul-lt-mul_right (down e)
      (lt_of_le_of_lt (le_of_eq (sym v))
      (lt_of_lt_of_le (mul-lt-mul_of_pos_right field_high (pow_pos (low f)))
      (le_of_eq
      (mul_right_comm (2 ^ suc (emax f)) (down e) (2 ^ low f)
      ∙ ap (λ (x : ℕ). x * down e) (mul_comm (2 ^ suc (emax f)) (2 ^ low f) ∙ sym (pow-add 2 (low f) (suc (emax f))))))))

  counted_at : (j : ℕ) → suc m * up e * 2 ^ low f ≡ suc m * 2 ^ j * down e → Counted f (fin false (suc m) e)
  counted_at j v =
      record {
        u = suc m * 2 ^ j;
        m = suc m;
        j = j;
        value = v;
        is = refl;
        short = field_short;
        below = below_of (suc m * 2 ^ j) v;
      }

pub counted : (f : Format) (y : Float) → T (fits f y) → T (not_negative y) → Counted f y
counted f nan F p = absurd p
counted f (inf s) F p = absurd p
counted f (fin true m e) F p = absurd p
counted f (fin false zero e) F p =
    record {
      u = 0;
      m = 0;
      j = 0;
      value = ap (λ (x : ℕ). x * 2 ^ low f) (zero-mul (up e)) ∙ zero-mul (2 ^ low f) ∙ sym (zero-mul (down e));
      is = refl;
      short = pow_pos (prec f);
      below = pow_pos (low f + suc (emax f));
    }
counted f (fin false (suc m) (pos k)) F p =
    counted_at f m (pos k) F (k + low f)
    (mul_assoc (suc m) (2 ^ k) (2 ^ low f) ∙ ap (λ (x : ℕ). suc m * x) (sym (pow-add 2 k (low f))) ∙ sym (mul-one (suc m * 2 ^ (k + low f))))
counted f (fin false (suc m) (negsuc k)) F p =
    let l : suc k ≤ low f = le_of_suc-le-suc (lt_of_not-le (λ (g : suc (low f) ≤ suc k). not-le_of_lt (pow-lt g) (field_low f m (negsuc k) F))) in
    counted_at f m (negsuc k) F (low f - suc k)
    (ap (λ (x : ℕ). x * 2 ^ low f) (mul-one (suc m))
    ∙ ap (λ (x : ℕ). suc m * x) (ap (λ (x : ℕ). 2 ^ x) (sym (back (low f) (suc k) l)) ∙ pow-add 2 (low f - suc k) (suc k))
    ∙ sym (mul_assoc (suc m) (2 ^ (low f - suc k)) (2 ^ suc k)))

-- from 2 ^ (prec + k) units on a value is a multiple of 2 ^ (k + 1) units
pub on_grid : (f : Format) (y : Float) (Y : Counted f y) (k : ℕ) → 2 ^ (prec f + k) ≤ Y.u → (v : ℕ) × (Y.u ≡ v * 2 * 2 ^ k)
on_grid f y Y k h =
    let l : suc k ≤ Y.j = lt_of_not-le (λ (g : Y.j ≤ k). not-le_of_lt (too_small g) h) in (
      Y.m * 2 ^ (Y.j - suc k),
      Y.is
          ∙ ap (λ (x : ℕ). Y.m * x) (ap (λ (x : ℕ). 2 ^ x) (sym (back Y.j (suc k) l)) ∙ pow-add 2 (Y.j - suc k) (suc k))
          ∙ sym (mul_assoc Y.m (2 ^ (Y.j - suc k)) (2 ^ suc k))
          ∙ ap (λ (x : ℕ). Y.m * 2 ^ (Y.j - suc k) * x) (pow-suc 2 k ∙ mul_comm (2 ^ k) 2)
          ∙ sym (mul_assoc (Y.m * 2 ^ (Y.j - suc k)) 2 (2 ^ k)),
    )
  where
    too_small : Y.j ≤ k → Y.u < 2 ^ (prec f + k)
    too_small g =
        lt_of_le_of_lt (le_of_eq Y.is)
        (lt_of_lt_of_le (mul-lt-mul_of_pos_right Y.short (pow_pos Y.j))
        (le_trans (mul-le-mul_left (2 ^ prec f) (pow_mono g)) (le_of_eq (sym (pow-add 2 (prec f) k)))))

-- ---- no tie: the square of an odd number with more digits than the format keeps is no value of the format

odd_times : (o w m i : ℕ) → o ≡ 2 * w + 1 → o * o ≡ m * 2 ^ suc i → ⊥
odd_times o w m i O e =
    let a : o * o ≡ 2 * w * (2 * w) + 2 * (2 * w) + 1 = ap (λ (x : ℕ). x * x) O ∙ sq_suc (2 * w) in
    let b = sq_dbl w in
    let c : m * 2 ^ suc i ≡ m * 2 ^ i * 2 = ap (λ (x : ℕ). m * x) (pow-suc 2 i) ∙ sym (mul_assoc m (2 ^ i) 2) in
    omega arith

pub tie_free : (p m j s o w k : ℕ) → m < 2 ^ p → 2 ^ (p + k) ≤ s → o ≡ 2 * w + 1 → s ≡ o * 2 ^ k → s * s ≡ m * 2 ^ j → ⊥
tie_free p m j s o w k M S O e q = go (dec_le j (k + k))
  where
    square : o * o * 2 ^ (k + k) ≡ m * 2 ^ j
    square = ap (λ (x : ℕ). o * o * x) (pow-add 2 k k) ∙ mul-mul-mul_comm o o (2 ^ k) (2 ^ k) ∙ ap (λ (x : ℕ). x * x) (sym e) ∙ q

    go : Dec (j ≤ k + k) → ⊥
    go (yes l) =
        let a : 2 ^ p ≤ o = le_of_mul-le-mul_right (le_trans (le_of_eq (sym (pow-add 2 p k))) (le_trans S (le_of_eq e))) (pow_pos k) in
        let b : 2 ^ p * 1 ≤ o * o = mul-le-mul a (let i : 1 ≤ o = omega arith in i) in
        let c : 2 ^ p * 1 * 2 ^ j ≤ o * o * 2 ^ (k + k) = mul-le-mul b (pow_mono l) in
        let d : m * 2 ^ j < 2 ^ p * 2 ^ j = mul-lt-mul_of_pos_right M (pow_pos j) in
        let g : 2 ^ p * 1 * 2 ^ j ≡ 2 ^ p * 2 ^ j = ap (λ (x : ℕ). x * 2 ^ j) (mul-one (2 ^ p)) in
        let h = square in
        omega arith
    go (no n) =
        let l : suc (k + k) ≤ j = lt_of_not-le n in
        odd_times o w m (j - suc (k + k)) O (cancel (j - suc (k + k)) (exponent j (k + k) l))
      where
        exponent : (j i : ℕ) → suc i ≤ j → j ≡ suc (j - suc i) + i
        exponent j i h = omega arith

        cancel : (i : ℕ) → j ≡ suc i + (k + k) → o * o ≡ m * 2 ^ suc i
        cancel i h =
            eq_of_mul-eq-mul_right (2 ^ (k + k)) (pow_pos (k + k)) (o * o) (m * 2 ^ suc i)
            (square ∙ ap (λ (x : ℕ). m * 2 ^ x) h ∙ ap (λ (x : ℕ). m * x) (pow-add 2 (suc i) (k + k)) ∙ sym (mul_assoc m (2 ^ suc i) (2 ^ (k + k))))

-- ---- from counts of units, r / L and y / L and n / (L * L), to fractions

module _ (nr dr ny dy nx dx r y n L : ℕ) (R : nr * L ≡ r * dr) (Y : ny * L ≡ y * dy) (X : nx * (L * L) ≡ n * dx) (P : 0 < L) where
  abbrev S : ℕ
  S = nr * dy + ny * dr

  abbrev D : ℕ
  D = dr * dy

  first : nr * dy * L ≡ r * (dr * dy)
  first = mul_right_comm nr dy L ∙ ap (λ (x : ℕ). x * dy) R ∙ mul_assoc r dr dy

  second : ny * dr * L ≡ y * (dr * dy)
  second = mul_right_comm ny dr L ∙ ap (λ (x : ℕ). x * dr) Y ∙ mul_assoc y dy dr ∙ ap (λ (x : ℕ). y * x) (mul_comm dy dr)

  pub units_less : nr * dy < ny * dr → r < y
  units_less h =
      lt_of_mul-lt-mul_right (dr * dy)
      (lt_of_le_of_lt (le_of_eq (sym first)) (lt_of_lt_of_le (mul-lt-mul_of_pos_right h P) (le_of_eq second)))

  total : S * L ≡ (r + y) * D
  total = add-mul (nr * dy) (ny * dr) L ∙ ap (λ (x : ℕ). x + ny * dr * L) first ∙ ap (λ (x : ℕ). r * D + x) second ∙ sym (add-mul r y D)

  sums : S * S * dx * (L * L) ≡ (r + y) * (r + y) * (D * D * dx)
  sums =
      mul_right_comm (S * S) dx (L * L)
      ∙ ap (λ (x : ℕ). x * dx) (mul-mul-mul_comm S S L L ∙ ap (λ (x : ℕ). x * x) total ∙ mul-mul-mul_comm (r + y) D (r + y) D)
      ∙ mul_assoc ((r + y) * (r + y)) (D * D) dx

  fours : 4 * nx * (D * D) * (L * L) ≡ 4 * n * (D * D * dx)
  fours =
      mul_right_comm (4 * nx) (D * D) (L * L)
      ∙ ap (λ (x : ℕ). x * (D * D)) (mul_assoc 4 nx (L * L) ∙ ap (λ (x : ℕ). 4 * x) X ∙ sym (mul_assoc 4 n dx))
      ∙ mul_assoc (4 * n) dx (D * D)
      ∙ ap (λ (x : ℕ). 4 * n * x) (mul_comm dx (D * D))

  pub above_fractions : 0 < D * D * dx → 4 * n < (r + y) * (r + y) → 4 * nx * (D * D) < S * S * dx
  above_fractions K h =
      lt_of_mul-lt-mul_right (L * L) (lt_of_le_of_lt (le_of_eq fours) (lt_of_lt_of_le (mul-lt-mul_of_pos_right h K) (le_of_eq (sym sums))))

  pub below_fractions : 0 < D * D * dx → (r + y) * (r + y) < 4 * n → S * S * dx < 4 * nx * (D * D)
  below_fractions K h =
      lt_of_mul-lt-mul_right (L * L) (lt_of_le_of_lt (le_of_eq sums) (lt_of_lt_of_le (mul-lt-mul_of_pos_right h K) (le_of_eq (sym fours))))
