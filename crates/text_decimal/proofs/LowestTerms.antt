-- A fraction over a power of two has one form in lowest terms, and a double's parts are that form. What the loop that takes out twos keeps.
-- Assumes nothing.
use mathlib.Core.Path.{◌≡◌, refl, sym, ap, ◌∙◌}
use mathlib.Core.Bool.{Bool, ◌&&◌}
use Prim.Native.Nat.{ℕ, zero, suc, ◌+◌, ◌-◌, ◌*◌, ◌/◌, ◌%◌, ◌^◌, ◌<◌}
use native.Mathlib.Nat.{mul_assoc, mul_right_comm, eq_of_mul-eq-mul_right, pow-suc}
use native.Mathlib.Omega.{arith}
use lib.Dec.{T, eqb, ltb, leb, eqb→eq, ltb→lt}
use lib.Pow.{pow_pos}
use lib.IntN.{pos, negsuc}
use lib.Ieee.{Float, nan, inf, fin, binary64, fits, of_bits}
use lib.Ieee.Bits.{of_bits-fits}
use lib.Ieee.Fits.{and_l, and_r}
use lib.Ieee.Positive.{num, den}
use Rattle.facts.proofs.Orders.{by_order}
use Rattle.text_ticks.proofs.Patterns.{IsFraction, pattern_low, pattern_mid}
use Rattle.text_decimal.specs.Decimal.{places_behind}
use Rattle.text_decimal.specs.Lowest.{IsLowest, IsSize}
use Rattle.text_decimal.proofs.Powers.{crossed, base_divides}

-- a power of two taken out by one
twice : (a j : ℕ) → a * 2 ^ suc j ≡ a * 2 ^ j * 2
twice a j = ap (λ (p : ℕ). a * p) (pow-suc 2 j) ∙ sym (mul_assoc a (2 ^ j) 2)

-- two equal fractions in lowest terms have the same parts
lowest_unique : (a k n j : ℕ) → (0 < k → a % 2 ≡ 1) → (0 < j → n % 2 ≡ 1) → n * 2 ^ k ≡ a * 2 ^ j → (n ≡ a) × (j ≡ k)
lowest_unique a k n j p q e =
    let same : j ≡ k =
    by_order j k
    (λ h. by_order k j (λ g. omega arith) (λ g. absurd (omega (arith, p (omega arith), base_divides 2 n j a k (omega arith) e g))))
    (λ h. absurd (omega (arith, q (omega arith), base_divides 2 a k n j (omega arith) (sym e) h))) in
    (eq_of_mul-eq-mul_right (2 ^ k) (pow_pos k) n a (e ∙ ap (λ (i : ℕ). a * 2 ^ i) same), same)

-- ---- a double's parts

pub places_den : (x : Float) → den x ≡ 2 ^ places_behind x
places_den nan = refl
places_den (inf s) = refl
places_den (fin s m (pos e)) = refl
places_den (fin s m (negsuc e)) = refl

both_first : (a b c d : Bool) → T (a && b && c && d) → T a × T b
both_first a b c d t = let ab = and_l (a && b) c (and_l (a && b && c) d t) in (and_l a b ab, and_r a b ab)

-- with digits behind the point its upper part is odd, and has at most 53 binary digits
pub own_parts : (x : Float) → T (fits binary64 x) → 0 < places_behind x → (num x % 2 ≡ 1) × (num x < 2 ^ 53)
unfolding fits
own_parts nan f h = absurd (omega arith)
own_parts (inf s) f h = absurd (omega arith)
own_parts (fin s m (pos e)) f h = absurd (omega arith)
own_parts (fin s zero (negsuc e)) f h =
    let one = eqb→eq (1 * 2 ^ suc e) 1 f in
    let t = twice 1 e in
    absurd (omega arith)
own_parts (fin s (suc m) (negsuc e)) f h =
    let told = both_first (eqb (suc m % 2) 1) (ltb (suc m) (2 ^ 53)) (leb (2 ^ suc e) (2 ^ 1074)) (ltb (suc m * 1) (2 ^ 1024 * 2 ^ suc e)) f in
    let odd = eqb→eq (suc m % 2) 1 told.0 in
    let few = ltb→lt (suc m) (2 ^ 53) told.1 in
    (omega arith, omega arith)

-- the fraction that a pattern gives, in lowest terms, has the double's parts
size_of_lem : (x : Float) (s : Bool) (a k n j : ℕ) → T (fits binary64 x) → IsFraction x s a (2 ^ k) → IsLowest a k n j → IsSize x n j
size_of_lem x s a k n j f g l =
    let own = g.cross ∙ ap (λ (d : ℕ). a * d) (places_den x) in
    let same = crossed a (2 ^ k) (num x) (2 ^ places_behind x) n (2 ^ j) (pow_pos k) own l.same in
    let both = lowest_unique n j (num x) (places_behind x) l.odd (λ h. (own_parts x f h).0) same in
    record { upper = sym both.0; lower = sym both.1 }

-- by the exponent's field of its pattern
pub low_size : (b n j : ℕ) → b % 2 ^ 63 / 2 ^ 52 ≡ 0 → IsLowest (b % 2 ^ 52) 1074 n j → IsSize (of_bits binary64 b) n j
low_size b n j e l = size_of_lem (of_bits binary64 b) (leb (2 ^ 63) b) (b % 2 ^ 52) 1074 n j (of_bits-fits binary64 b) (pattern_low b e) l

pub mid_size : (b n j : ℕ) → b % 2 ^ 63 < 1076 * 2 ^ 52 → (b % 2 ^ 63 / 2 ^ 52 ≡ 0 → ⊥)
    → IsLowest (2 ^ 52 + b % 2 ^ 52) (1075 - b % 2 ^ 63 / 2 ^ 52) n j → IsSize (of_bits binary64 b) n j
mid_size b n j h z l =
    let x : ℕ = b % 2 ^ 63 / 2 ^ 52 - 1 in
    let k : ℕ = 1075 - b % 2 ^ 63 / 2 ^ 52 in
    let field : b % 2 ^ 63 / 2 ^ 52 ≡ suc x = omega arith in
    let sum : k + x ≡ 1074 = omega arith in
    size_of_lem (of_bits binary64 b) (leb (2 ^ 63) b) (2 ^ 52 + b % 2 ^ 52) k n j (of_bits-fits binary64 b) (pattern_mid b x k field sum) l

-- ---- the loop

-- a turn halves both
pub lowest_turn : (m k n j : ℕ) → 0 < j → n % 2 ≡ 0 → n * 2 ^ k ≡ m * 2 ^ j → n / 2 * 2 ^ k ≡ m * 2 ^ (j - 1)
lowest_turn m k n zero h o e = absurd (omega arith)
lowest_turn m k n (suc j) h o e =
    let z : suc j - 1 ≡ j = omega arith in
    let even : n ≡ n / 2 * 2 = omega arith in
    let left : n * 2 ^ k ≡ n / 2 * 2 ^ k * 2 = ap (λ (a : ℕ). a * 2 ^ k) even ∙ mul_right_comm (n / 2) 2 (2 ^ k) in
    let right = twice m j in
    rw z (omega arith)
