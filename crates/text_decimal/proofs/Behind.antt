-- The digits behind the point: k of them belong to r / 2 ^ k, the first is the whole number of r * 5 / 2 ^ (k - 1), and what that leaves gives the
-- others. Assumes nothing.
use mathlib.Core.Path.{◌≡◌, refl, sym, ap, ap₂, ◌∙◌}
use Prim.Native.Nat.{ℕ, zero, suc, ◌+◌, ◌*◌, ◌/◌, ◌%◌, ◌^◌, ◌≤◌, ◌<◌}
use mathlib.Core.List.{List, [], ◌∷◌, ◌++◌}
use native.Mathlib.Nat.{mul_assoc, add-mul, mul-mul-mul_comm, mul-div-mul_right, div-lt_iff_lt-mul, mod-lt, mod-eq_of_lt}
use native.Mathlib.Nat.{pow-suc, pow-succ', one-le-pow, pow-le-pow_right}
use native.Mathlib.Omega.{arith}
use lib.Pow.{pow_pos, split}
use Rattle.text_digits.specs.Hex.{glyph_of, digits, places_of, decimal_digits}
use Rattle.text_digits.specs.Text.{Put}
use Rattle.text_decimal.proofs.FirstDigit.{digits_front}
use Rattle.text_digits.proofs.Counting.{places_one}
use Rattle.text_digits.proofs.Putting.{put_nothing, put_put}

-- ---- powers of ten

pub tens : (k : ℕ) → 10 ^ k ≡ 2 ^ k * 5 ^ k
tens zero = refl
tens (suc k) =
    pow-suc 10 k ∙ ap (λ (p : ℕ). p * (2 * 5)) (tens k) ∙ mul-mul-mul_comm (2 ^ k) (5 ^ k) 2 5
    ∙ sym (ap₂ (λ (p q : ℕ). p * q) (pow-suc 2 k) (pow-suc 5 k))

fives_pos : (k : ℕ) → 0 < 5 ^ k
fives_pos k = one-le-pow k 5 (omega arith)

-- the whole number of m / 2 ^ k, and of the same over 10 ^ k
pub whole_tens : (m k : ℕ) → m * 5 ^ k / 10 ^ k ≡ m / 2 ^ k
whole_tens m k = ap (λ (p : ℕ). m * 5 ^ k / p) (tens k) ∙ mul-div-mul_right m (2 ^ k) (fives_pos k)

-- 2 ^ k by a shift, which loses nothing
pub record IsUnit (unit k : ℕ) : Type 0 where
  pub power : unit ≡ 2 ^ k
  pub some : 0 < unit
  pub small : unit ≤ 2 ^ 60

pub shifted_unit : (k : ℕ) → k ≤ 60 → IsUnit (1 * 2 ^ k % 2 ^ 64) k
shifted_unit k h =
    let some = pow_pos k in
    let most : 2 ^ k ≤ 2 ^ 60 = pow-le-pow_right (omega arith) h in
    record { power = omega arith; some = omega arith; small = omega arith }

-- ---- the last digits

-- a number's last k digits do not depend on what stands before them
digits_above : (k q n : ℕ) → digits 10 k (q * 10 ^ k + n) ≡ digits 10 k n
unfolding digits
digits_above zero q n = refl
digits_above (suc k) q n =
    let power : q * 10 ^ suc k ≡ q * 10 ^ k * 10 = ap (λ (p : ℕ). q * p) (pow-suc 10 k) ∙ sym (mul_assoc q (10 ^ k) 10) in
    let upper : (q * 10 ^ suc k + n) / 10 ≡ q * 10 ^ k + n / 10 = omega arith in
    let last : (q * 10 ^ suc k + n) % 10 ≡ n % 10 = omega arith in
    rw (upper, last, digits_above k q (n / 10))

-- so the whole number may be left out
pub digits_rest : (m k : ℕ) → digits 10 k (m * 5 ^ k) ≡ digits 10 k (m % 2 ^ k * 5 ^ k)
digits_rest m k =
    let parts : m * 5 ^ k ≡ m / 2 ^ k * 10 ^ k + m % 2 ^ k * 5 ^ k =
    ap (λ (n : ℕ). n * 5 ^ k) (sym (split m k)) ∙ add-mul (m / 2 ^ k * 2 ^ k) (m % 2 ^ k) (5 ^ k)
    ∙ ap (λ (n : ℕ). n + m % 2 ^ k * 5 ^ k) (mul_assoc (m / 2 ^ k) (2 ^ k) (5 ^ k) ∙ ap (λ (p : ℕ). m / 2 ^ k * p) (sym (tens k))) in
    ap (digits 10 k) parts ∙ digits_above k (m / 2 ^ k) (m % 2 ^ k * 5 ^ k)

-- ---- the first digit

one_digit : (d : ℕ) → d < 10 → decimal_digits d ≡ glyph_of d ∷ []
unfolding decimal_digits places_of digits
one_digit d h = rw (places_one 10 d d h, mod-eq_of_lt h)

pub digits_next : (r j : ℕ) → r < 2 ^ suc j
    → digits 10 (suc j) (r * 5 ^ suc j) ≡ decimal_digits (r * 5 / 2 ^ j) ++ digits 10 j (r * 5 % 2 ^ j * 5 ^ j)
digits_next r j h =
    let five : r * 5 ^ suc j ≡ r * 5 * 5 ^ j = ap (λ (p : ℕ). r * p) (pow-succ' 5 j) ∙ sym (mul_assoc r 5 (5 ^ j)) in
    let power = pow-suc 2 j in
    let few : r * 5 / 2 ^ j < 10 = (div-lt_iff_lt-mul (pow_pos j)).1 (omega arith) in
    let first : r * 5 * 5 ^ j / 10 ^ j % 10 ≡ r * 5 / 2 ^ j = ap (λ (n : ℕ). n % 10) (whole_tens (r * 5) j) ∙ mod-eq_of_lt few in
    ap (digits 10 (suc j)) five ∙ digits_front 10 j (r * 5 * 5 ^ j)
    ∙ rw (first, digits_rest (r * 5) j, one_digit (r * 5 / 2 ^ j) few)

-- ---- the loop

-- of the k digits of rest / 2 ^ k the last `left` are still to be put into d at p, those of r / 2 ^ left
pub record Going (rest k : ℕ) (d₀ : List ℕ) (at : ℕ) (d : List ℕ) (p r left : ℕ) : Type 0 where
  pub few : left ≤ 60
  pub below : r < 2 ^ left
  pub goes : (d' : List ℕ) (q : ℕ) → Put d p (digits 10 left (r * 5 ^ left)) d' q → Put d₀ at (digits 10 k (rest * 5 ^ k)) d' q

module _ (rest k : ℕ) (d₀ : List ℕ) (at : ℕ) where
  pub going_start : k ≤ 60 → rest < 2 ^ k → Going rest k d₀ at d₀ at rest k
  going_start h b = record { few = h; below = b; goes = λ d' q w. w }

  module _ (d : List ℕ) (p r left : ℕ) (g : Going rest k d₀ at d p r left) where
    -- five times what is left fits a u64
    pub going_small : r * 5 < 2 ^ 64
    going_small =
        let b = g.below in
        let most : 2 ^ left ≤ 2 ^ 60 = pow-le-pow_right (omega arith) g.few in
        omega arith

    pub going_turn : (less : ℕ) (d₁ : List ℕ) (p₁ unit : ℕ) → left ≡ less + 1 → unit ≡ 2 ^ less → Put d p (decimal_digits (r * 5 / unit)) d₁ p₁
        → Going rest k d₀ at d₁ p₁ (r * 5 % unit) less
    going_turn less d₁ p₁ unit e u w =
        let b = g.below in
        let f = g.few in
        let one : left ≡ suc less = omega arith in
        let inside : r < 2 ^ suc less = rw one at b in
        let next : digits 10 left (r * 5 ^ left) ≡ decimal_digits (r * 5 / unit) ++ digits 10 less (r * 5 % unit * 5 ^ less) =
        ap (λ (n : ℕ). digits 10 n (r * 5 ^ n)) one ∙ digits_next r less inside ∙ rw u in
        record {
          few = omega arith;
          below = rw u (mod-lt (r * 5) (pow_pos less));
          goes = λ d' q others. g.goes d' q (rw next (put_put d p _ d₁ p₁ _ d' q w others));
        }

    pub going_end : left ≡ 0 → Put d₀ at (digits 10 k (rest * 5 ^ k)) d p
    going_end z = g.goes d p (rw z (unfold digits in put_nothing d p))
