-- Rounding a fraction to whole numbers, down and up: what bounds the results and determines them, that they are the same for equal fractions, and
-- that the halves of twice a number give its own roundings. Assumes nothing.
use mathlib.Core.Path.{◌≡◌, sym, ap, ◌∙◌}
use Prim.Native.Nat.{ℕ, ◌+◌, ◌-◌, ◌*◌, ◌/◌, ◌≤◌, ◌<◌}
use native.Mathlib.Nat.{mul_comm, mul_assoc, mul_right_comm, add-mul, mul-le-mul_right, mul-lt-mul_of_pos_right, le_of_mul-le-mul_right}
use native.Mathlib.Nat.{lt_of_mul-lt-mul_right, lt-div-mul-add, div-mul-le_self, div-eq_of_lt-le, div-div-eq-div-mul, mul-div-mul_left, add-div_right}
use native.Mathlib.Omega.{arith}
use Rattle.text_ticks.specs.Ticks.{ceiling}

-- ---- rounding up

pub ceiling_over : (n d : ℕ) → 0 < d → n ≤ ceiling n d * d
ceiling_over n d h = let top = lt-div-mul-add {a = n + (d - 1)} h in omega arith

pub ceiling_under : (n d : ℕ) → 0 < d → ceiling n d * d < n + d
ceiling_under n d h = let most = div-mul-le_self (n + (d - 1)) d in omega arith

-- no other whole number lies there
pub ceiling_is : (n d q : ℕ) → 0 < d → n ≤ q * d → q * d < n + d → ceiling n d ≡ q
ceiling_is n d q h l u =
    let next : (q + 1) * d ≡ q * d + 1 * d = add-mul q 1 d in
    div-eq_of_lt-le d (omega arith) (rw next (omega arith))

-- equal fractions
pub ceiling_same : (n d a c : ℕ) → 0 < d → 0 < c → n * c ≡ a * d → ceiling n d ≡ ceiling a c
ceiling_same n d a c h k e =
    let q : ℕ = ceiling a c in
    let over = mul-le-mul_right d (ceiling_over a c k) in
    let under = mul-lt-mul_of_pos_right (ceiling_under a c k) h in
    let swap : q * c * d ≡ q * d * c = mul_right_comm q c d in
    let sum : (a + c) * d ≡ a * d + c * d = add-mul a c d in
    let other : (n + d) * c ≡ n * c + d * c = add-mul n d c in
    let turn : c * d ≡ d * c = mul_comm c d in
    let low : n * c ≤ q * d * c = omega arith in
    let high : q * d * c < (n + d) * c = omega arith in
    ceiling_is n d q h (le_of_mul-le-mul_right low k) (lt_of_mul-lt-mul_right c high)

-- not below the fraction rounded down
pub floor_ceiling : (n d : ℕ) → 0 < d → n / d ≤ ceiling n d
floor_ceiling n d h =
    let low = div-mul-le_self n d in
    let high = ceiling_over n d h in
    let both : n / d * d ≤ ceiling n d * d = omega arith in
    le_of_mul-le-mul_right both h

-- ---- from the halves of twice a number

-- rounded down, down
pub half_down : (a c : ℕ) → 2 * a / c / 2 ≡ a / c
half_down a c = div-div-eq-div-mul (2 * a) c 2 ∙ ap (λ (d : ℕ). 2 * a / d) (mul_comm c 2) ∙ mul-div-mul_left a c (omega arith)

-- rounded down, to the nearest
pub half_near : (a c : ℕ) → 0 < c → (2 * a / c + 1) / 2 ≡ (2 * a + c) / (2 * c)
half_near a c h =
    ap (λ (q : ℕ). q / 2) (sym (add-div_right (2 * a) h))
    ∙ div-div-eq-div-mul (2 * a + c) c 2
    ∙ ap (λ (d : ℕ). (2 * a + c) / d) (mul_comm c 2)

-- rounded up, to the nearest
pub half_near_up : (a c : ℕ) → ceiling (2 * a) c / 2 ≡ (2 * a + (c - 1)) / (2 * c)
half_near_up a c = div-div-eq-div-mul (2 * a + (c - 1)) c 2 ∙ ap (λ (d : ℕ). (2 * a + (c - 1)) / d) (mul_comm c 2)

-- rounded up, up
pub half_up : (a c : ℕ) → 0 < c → (ceiling (2 * a) c + 1) / 2 ≡ ceiling a c
half_up a c h =
    let q : ℕ = ceiling (2 * a) c in
    let r : ℕ = (q + 1) / 2 in
    let over = ceiling_over (2 * a) c h in
    let under = ceiling_under (2 * a) c h in
    let more = mul-le-mul_right {m = q} {n = 2 * r} c (omega arith) in
    let less = mul-le-mul_right {m = 2 * r} {n = q + 1} c (omega arith) in
    let twice : 2 * r * c ≡ 2 * (r * c) = mul_assoc 2 r c in
    let next : (q + 1) * c ≡ q * c + 1 * c = add-mul q 1 c in
    sym (ceiling_is a c r h (omega arith) (omega arith))
