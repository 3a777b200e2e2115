-- The last step of the root: what `round` makes of a whole root with its remainder, as a count of units and as a bit pattern. Assumes nothing.
-- Where the root s has one binary digit more than the format keeps, the result is half of s, to nearest, a tie to even (`round_root_carried`).
use Rattle.std.proofs.Common.{◌≡◌, ℕ, zero, suc, ◌+◌, ◌-◌, ◌*◌, ◌/◌, ◌%◌, ◌^◌, ◌<◌, ◌≤◌, Bool, true, false, cond, not, T, eqb, ◌⊎◌, sym, refl, ap, ◌∙◌, subst, inl, inr, le_trans, le_of_eq, lt_of_lt_of_le, lt_of_le_of_lt, add-zero, add-suc, mul-le-mul_right, zero-lt-suc, mul_assoc, lt-suc_self, suc-mul, mul_comm, add-mul, mul-le-mul, suc-add, eq-or-lt_of_le, mul-lt-mul_of_pos_right, mul-pos, pow-suc, zero-add, mul_right_comm, mul-div_cancel, mul_left_comm, add-one, arith, lit<, eqb→eq, leb→le, pow_pos, pow_mono, pow-add, shl_lt}
use Prim.Native.Nat.{compare, Ordering}
use native.Mathlib.Nat.{mul-mul-mul_comm}
use native.Mathlib.Nat.{eq_of_mul-eq-mul_right, mul-div-mul_right}
use lib.Dec.{is_le, compare_is_eq, nleb→lt, eqb-suc-zero}
use lib.Arith.{digits_div, digits_mod}
use lib.Pow.{pow-lt}
use lib.Ieee.{Float, Format, binary64, prec, emax, low, size, nearest, units, round, to_bits, of_bits, fits}
use lib.Ieee.Exact.{units_val}
use lib.Ieee.Fits.{core, round_is, round-fits}
use lib.Ieee.Nearest.{closest, closest_same}
use lib.Ieee.Bits.{of_bits-to_bits}
use Rattle.sqrt.specs.Sqrt.{IsRoot, isqrt, round_root, round_sqrt}
use Rattle.sqrt.specs.Steps.{IsRest, Carried}
use Rattle.double_bits.proofs.Digits.{size_exact}
use Rattle.double_bits.proofs.Patterns.{bits_of_units}
use Rattle.sqrt.proofs.Squares.{sq_suc, sq_dbl, root_lt, root_le, rest_root, isqrt_is}

-- ---- to the nearest whole number

near_down : (h x b : ℕ) → x < b → nearest h (compare x b) ≡ h
near_down h x b l = go (compare x b) (eqb→eq x b) (nleb→lt x b)
  where
    go : (o : Ordering) → (T (compare_is_eq o) → x ≡ b) → (T (not (is_le o)) → b < x) → nearest h o ≡ h
    go Ordering.lt e g = refl
    go Ordering.eq e g = let q = e tt in absurd (omega arith)
    go Ordering.gt e g = let q = g tt in absurd (omega arith)

near_up : (h x b : ℕ) → b < x → nearest h (compare x b) ≡ suc h
near_up h x b l = go (compare x b) (eqb→eq x b) (leb→le x b)
  where
    go : (o : Ordering) → (T (compare_is_eq o) → x ≡ b) → (T (is_le o) → x ≤ b) → nearest h o ≡ suc h
    go Ordering.lt e g = let q = g tt in absurd (omega arith)
    go Ordering.eq e g = let q = e tt in absurd (omega arith)
    go Ordering.gt e g = refl

closest_down : (h b r : ℕ) → r * 2 < b → closest (h * b + r) b ≡ h
closest_down h b r l =
    let m : r < b = omega arith in
    ap (λ (x : ℕ). nearest x (compare ((h * b + r) % b * 2) b)) (digits_div h m)
    ∙ ap (λ (x : ℕ). nearest h (compare (x * 2) b)) (digits_mod h m)
    ∙ near_down h (r * 2) b l

closest_up : (h b r : ℕ) → r < b → b < r * 2 → closest (h * b + r) b ≡ suc h
closest_up h b r m l =
    ap (λ (x : ℕ). nearest x (compare ((h * b + r) % b * 2) b)) (digits_div h m)
    ∙ ap (λ (x : ℕ). nearest h (compare (x * 2) b)) (digits_mod h m)
    ∙ near_up h (r * 2) b l

closest_tie : (h : ℕ) → closest (h * 4 + 2) 4 ≡ h + h % 2
closest_tie h =
    let m : 2 < 4 = omega arith in
    ap (λ (x : ℕ). nearest x (compare ((h * 4 + 2) % 4 * 2) 4)) (digits_div h m)
    ∙ ap (λ (x : ℕ). nearest h (compare (x * 2) 4)) (digits_mod h m)

-- ---- half of r, for an s between r * p and (r + 1) * p: up where r is odd, if s is above r * p then or a remainder is left

even_half : (h p s t : ℕ) → h * 2 * p ≤ s → s < (h * 2 + 1) * p → t ≤ 1 → closest (2 * s + t) (4 * p) ≡ h
even_half h p s t lo hi T1 =
    let a : h * (4 * p) ≡ 4 * (h * p) = mul_left_comm h 4 p in
    let b : h * 2 * p ≡ h * p * 2 = mul_right_comm h 2 p in
    let c : (h * 2 + 1) * p ≡ h * 2 * p + 1 * p = add-mul (h * 2) 1 p in
    let e : 2 * s + t ≡ h * (4 * p) + (2 * (s - h * 2 * p) + t) = omega arith in
    ap (λ (x : ℕ). closest x (4 * p)) e ∙ closest_down h (4 * p) (2 * (s - h * 2 * p) + t) (omega arith)

odd_half : (h p s t : ℕ) → (h * 2 + 1) * p ≤ s → s < (h * 2 + 2) * p → t ≤ 1 → (s ≡ (h * 2 + 1) * p → 1 ≤ t)
    → closest (2 * s + t) (4 * p) ≡ suc h
odd_half h p s t lo hi T1 no_tie =
    let a : h * (4 * p) ≡ 4 * (h * p) = mul_left_comm h 4 p in
    let b : h * 2 * p ≡ h * p * 2 = mul_right_comm h 2 p in
    let c : (h * 2 + 1) * p ≡ h * 2 * p + 1 * p = add-mul (h * 2) 1 p in
    let d : (h * 2 + 2) * p ≡ h * 2 * p + 2 * p = add-mul (h * 2) 2 p in
    let e : 2 * s + t ≡ h * (4 * p) + (2 * (s - h * 2 * p) + t) = omega arith in
    let more : (h * 2 + 1) * p < s + t = above (eq-or-lt_of_le lo) in
    ap (λ (x : ℕ). closest x (4 * p)) e ∙ closest_up h (4 * p) (2 * (s - h * 2 * p) + t) (omega arith) (omega arith)
  where
    above : ((h * 2 + 1) * p ≡ s) ⊎ ((h * 2 + 1) * p < s) → (h * 2 + 1) * p < s + t
    above (inl q) = let l = no_tie (sym q) in omega arith
    above (inr l) = omega arith

half : (r p s t : ℕ) → r * p ≤ s → s < (r + 1) * p → t ≤ 1 → (r % 2 ≡ 1 → s ≡ r * p → 1 ≤ t) → closest (2 * s + t) (4 * p) ≡ (r + 1) / 2
half r p s t lo hi T1 no_tie = go (r % 2) refl (lt2 r)
  where
    lt2 : (r : ℕ) → r % 2 < 2
    lt2 r = omega arith

    go : (b : ℕ) → r % 2 ≡ b → b < 2 → closest (2 * s + t) (4 * p) ≡ (r + 1) / 2
    go zero q l =
        let w : r ≡ r / 2 * 2 = omega arith in
        let v : (r + 1) / 2 ≡ r / 2 = omega arith in
        even_half (r / 2) p s t (rw w at lo) (rw w at hi) T1 ∙ sym v
    go (suc zero) q l =
        let w : r ≡ r / 2 * 2 + 1 = omega arith in
        let v : (r + 1) / 2 ≡ suc (r / 2) = omega arith in
        let u : r + 1 ≡ r / 2 * 2 + 2 = omega arith in
        odd_half (r / 2) p s t (subst (λ (x : ℕ). x * p ≤ s) w lo) (subst (λ (x : ℕ). s < x * p) u hi) T1
        (λ (g : s ≡ (r / 2 * 2 + 1) * p). no_tie q (g ∙ ap (λ (x : ℕ). x * p) (sym w))) ∙ sym v
    go (suc (suc b)) q l = absurd (omega arith)

-- ---- `round` at (s + t / 2) * 2 ^ z units, where s has k + 1 binary digits more than the format keeps

module _ (f : Format) (s t k z : ℕ) (T1 : t ≤ 1) (lo : 2 ^ (prec f + k) ≤ s) (hi : s < 2 ^ suc (prec f + k)) where
  apart : (2 * s + t) * 2 ^ z ≡ 2 * (s * 2 ^ z) + t * 2 ^ z
  apart = add-mul (2 * s) t (2 ^ z) ∙ ap (λ (x : ℕ). x + t * 2 ^ z) (mul_assoc 2 s (2 ^ z))

  small : t * 2 ^ z ≤ 1 * 2 ^ z
  small = mul-le-mul_right (2 ^ z) T1

  whole_ge : 2 ^ (prec f + k + z) ≤ (2 * s + t) * 2 ^ z / 2
  whole_ge =
      let a = apart in
      let b : 2 ^ (prec f + k + z) ≤ s * 2 ^ z = le_trans (le_of_eq (pow-add 2 (prec f + k) z)) (mul-le-mul_right (2 ^ z) lo) in
      omega arith

  whole_lt : (2 * s + t) * 2 ^ z / 2 < 2 ^ suc (prec f + k + z)
  whole_lt =
      let a = apart in
      let b = small in
      let c : suc s * 2 ^ z ≤ 2 ^ suc (prec f + k) * 2 ^ z = mul-le-mul_right (2 ^ z) hi in
      let d : 2 ^ suc (prec f + k) * 2 ^ z ≡ 2 ^ suc (prec f + k + z) =
      sym (pow-add 2 (suc (prec f + k)) z) ∙ ap (λ (x : ℕ). 2 ^ x) (suc-add (prec f + k) z) in
      let e = suc-mul s (2 ^ z) in
      let p = pow_pos z in
      omega arith

  drops : size ((2 * s + t) * 2 ^ z / 2) - prec f ≡ suc (k + z)
  drops = ap (λ (x : ℕ). x - prec f) (size_exact (prec f + k + z) ((2 * s + t) * 2 ^ z / 2) whole_ge whole_lt) ∙ less (prec f) k z
    where
      less : (p k z : ℕ) → suc (p + k + z) - p ≡ suc (k + z)
      less p k z = omega arith

  pub round_units : round f false ((2 * s + t) * 2 ^ z) (2 * 2 ^ low f) ≡ units f false (closest (2 * s + t) (4 * 2 ^ k)) (suc (k + z))
  round_units =
      let a = (2 * s + t) * 2 ^ z in
      round_is f false a (2 * 2 ^ low f)
      ∙ ap (λ (x : ℕ). core f false (a * 2 ^ low f) (2 * 2 ^ low f) x)
      (ap (λ (x : ℕ). size x - prec f) (mul-div-mul_right a 2 (pow_pos (low f))) ∙ drops)
      ∙ ap (λ (x : ℕ). units f false x (suc (k + z)))
      (closest_same (a * 2 ^ low f) (2 * 2 ^ low f * 2 ^ suc (k + z)) (2 * s + t) (4 * 2 ^ k)
      (mul-pos (mul-pos (zero-lt-suc 1) (pow_pos (low f))) (pow_pos (suc (k + z)))) (mul-pos (zero-lt-suc 3) (pow_pos k)) cross)
    where
      regroup : (a z l k : ℕ) → a * z * l * (4 * k) ≡ a * (2 * l * (k * z * 2))
      regroup a z l k =
          let h : 2 * l * (k * z * 2) ≡ z * l * (4 * k) =
          mul_assoc 2 l (k * z * 2) ∙ ap (λ (x : ℕ). 2 * x) (mul_left_comm l (k * z) 2 ∙ ap (λ (x : ℕ). k * z * x) (mul_comm l 2))
          ∙ mul_left_comm 2 (k * z) (2 * l) ∙ ap (λ (x : ℕ). k * z * x) (sym (mul_assoc 2 2 l)) ∙ mul_right_comm k z (4 * l)
          ∙ ap (λ (x : ℕ). x * z) (mul_left_comm k 4 l) ∙ mul_comm (4 * (k * l)) z
          ∙ ap (λ (x : ℕ). z * x) (ap (λ (x : ℕ). 4 * x) (mul_comm k l) ∙ mul_left_comm 4 l k)
          ∙ sym (mul_assoc z l (4 * k)) in
          ap (λ (x : ℕ). x * (4 * k)) (mul_assoc a z l) ∙ mul_assoc a (z * l) (4 * k) ∙ ap (λ (x : ℕ). a * x) (sym h)

      cross : (2 * s + t) * 2 ^ z * 2 ^ low f * (4 * 2 ^ k) ≡ (2 * s + t) * (2 * 2 ^ low f * 2 ^ suc (k + z))
      cross =
          regroup (2 * s + t) (2 ^ z) (2 ^ low f) (2 ^ k)
          ∙ ap (λ (x : ℕ). (2 * s + t) * (2 * 2 ^ low f * x)) (ap (λ (x : ℕ). x * 2) (sym (pow-add 2 k z)) ∙ sym (pow-suc 2 (k + z)))

-- ---- the half that is added where a remainder is left

pub sticky_le : (r : ℕ) → cond (eqb r 0) 0 1 ≤ 1
sticky_le r = go (eqb r 0)
  where
    go : (b : Bool) → cond b 0 1 ≤ 1
    go true = omega arith
    go false = omega arith

pub sticky_one : (r : ℕ) → (r ≡ 0 → ⊥) → 1 ≤ cond (eqb r 0) 0 1
sticky_one r h = go (eqb r 0) (eqb→eq r 0)
  where
    go : (b : Bool) → (T b → r ≡ 0) → 1 ≤ cond b 0 1
    go true e = absurd (h (e tt))
    go false e = omega arith

-- an odd number is no root of an even one
pub odd_square : (s m : ℕ) → s * s ≡ m → s % 2 ≡ 1 → m % 2 ≡ 0 → ⊥
odd_square s m q o e =
    let w : s ≡ 2 * (s / 2) + 1 = omega arith in
    let x : (2 * (s / 2) + 1) * (2 * (s / 2) + 1) ≡ m = ap (λ (y : ℕ). y * y) (sym w) ∙ q in
    omega (arith, sq_suc (2 * (s / 2)), sq_dbl (s / 2))

-- ---- a root of one binary digit more than the format keeps

-- what the dropped digit and the remainder make of half the root
carried_closest : (s r c : ℕ) → Carried (s / 2) (s % 2) r c → closest (2 * s + cond (eqb r 0) 0 1) 4 ≡ s / 2 + c
carried_closest s r c k = go (s % 2) refl (digit s) r refl
  where
    digit : (s : ℕ) → s % 2 < 2
    digit s = omega arith

    at : (h t x : ℕ) → 2 * s + t ≡ h * 4 + x → closest (2 * s + t) 4 ≡ closest (h * 4 + x) 4
    at h t x e = ap (λ (n : ℕ). closest n 4) e

    go : (d : ℕ) → s % 2 ≡ d → d < 2 → (n : ℕ) → r ≡ n → closest (2 * s + cond (eqb n 0) 0 1) 4 ≡ s / 2 + c
    go zero q l n e =
        let z = k.below_half q in
        let t : ℕ = cond (eqb n 0) 0 1 in
        let t1 : t ≤ 1 = sticky_le n in
        at (s / 2) t t (omega arith) ∙ closest_down (s / 2) 4 t (omega arith) ∙ omega arith
    go (suc zero) q l zero e =
        let z = k.half q e in
        at (s / 2) 0 2 (omega arith) ∙ closest_tie (s / 2) ∙ omega arith
    go (suc zero) q l (suc n) e =
        let z = k.above_half q (omega arith) in
        ap (λ (b : Bool). closest (2 * s + cond b 0 1) 4) (eqb-suc-zero n)
        ∙ at (s / 2) 1 3 (omega arith)
        ∙ closest_up (s / 2) 4 3 (omega arith) (omega arith)
        ∙ omega arith
    go (suc (suc d)) q l n e = absurd (omega arith)

carried_le : (s r c : ℕ) → Carried (s / 2) (s % 2) r c → c ≤ 1
carried_le s r c k = go (s % 2) refl (digit s) r refl
  where
    digit : (s : ℕ) → s % 2 < 2
    digit s = omega arith

    go : (d : ℕ) → s % 2 ≡ d → d < 2 → (n : ℕ) → r ≡ n → c ≤ 1
    go zero q l n e = let z = k.below_half q in omega arith
    go (suc zero) q l zero e = let z = k.half q e in omega arith
    go (suc zero) q l (suc n) e = let z = k.above_half q (omega arith) in omega arith
    go (suc (suc d)) q l n e = absurd (omega arith)

-- where there is no tie the dropped digit decides, and in a tie the digit before it
pub carried_digit : (s r : ℕ) → (r ≡ 0 → s % 2 ≡ 1 → ⊥) → Carried (s / 2) (s % 2) r (s % 2)
carried_digit s r free = record { below_half = λ z. z; above_half = λ o l. o; half = λ o n. absurd (free n o) }

pub carried_tie : (s r : ℕ) → r ≡ 0 → s % 2 ≡ 1 → Carried (s / 2) (s % 2) r (s / 2 % 2)
carried_tie s r n o = record { below_half = λ z. absurd (omega arith); above_half = λ o l. absurd (omega arith); half = λ o e. refl }

module _ (f : Format) (s r z : ℕ) (lo : 2 ^ prec f ≤ s) (hi : s < 2 ^ suc (prec f)) where
  pub round_root_carried : (c : ℕ) → Carried (s / 2) (s % 2) r c → round_root f s r z ≡ units f false (s / 2 + c) (suc z)
  unfolding round_root
  round_root_carried c k =
      let t : ℕ = cond (eqb r 0) 0 1 in
      round_units f s t 0 z (sticky_le r) (subst (λ (x : ℕ). 2 ^ x ≤ s) (sym (add-zero (prec f))) lo)
      (subst (λ (x : ℕ). s < 2 ^ suc x) (sym (add-zero (prec f))) hi)
      ∙ ap (λ (x : ℕ). units f false (closest (2 * s + t) (4 * 2 ^ 0)) (suc x)) (zero-add z)
      ∙ ap (λ (x : ℕ). units f false x (suc z)) (carried_closest s r c k)

-- where the number under the root is even there is no tie
no_tie : (s r : ℕ) → (s * s + r) % 2 ≡ 0 → r ≡ 0 → s % 2 ≡ 1 → ⊥
no_tie s r even n o =
    let e : s * s ≡ s * s + r = omega arith in
    odd_square s (s * s + r) e o even

pub round_root_units : (f : Format) (s r z : ℕ) (even : (s * s + r) % 2 ≡ 0) (lo : 2 ^ prec f ≤ s) (hi : s < 2 ^ suc (prec f))
    → round_root f s r z ≡ units f false ((s + 1) / 2) (suc z)
round_root_units f s r z even lo hi =
    let h : s / 2 + s % 2 ≡ (s + 1) / 2 = omega arith in
    round_root_carried f s r z lo hi (s % 2) (carried_digit s r (no_tie s r even)) ∙ ap (λ (x : ℕ). units f false x (suc z)) h

-- ---- the whole root of m * 4 ^ z, by the whole root s of m

pub four_pow : (z : ℕ) → 4 ^ z ≡ 2 ^ z * 2 ^ z
four_pow zero = refl
four_pow (suc z) =
    pow-suc 4 z ∙ ap (λ (x : ℕ). x * 4) (four_pow z) ∙ mul-mul-mul_comm (2 ^ z) (2 ^ z) 2 2 ∙ sym (ap (λ (x : ℕ). x * x) (pow-suc 2 z))

module _ (m s z : ℕ) (R : IsRoot m s) where
  square_at : (a : ℕ) → (a * 2 ^ z) * (a * 2 ^ z) ≡ a * a * 4 ^ z
  square_at a = mul-mul-mul_comm a (2 ^ z) a (2 ^ z) ∙ ap (λ (x : ℕ). a * a * x) (sym (four_pow z))

  four_pos : 0 < 4 ^ z
  four_pos = subst (λ (x : ℕ). 0 < x) (sym (four_pow z)) (mul-pos (pow_pos z) (pow_pos z))

  scaled_ge : s * 2 ^ z ≤ isqrt (m * 4 ^ z)
  scaled_ge =
      root_le (s * 2 ^ z) (isqrt (m * 4 ^ z)) (m * 4 ^ z) (le_trans (le_of_eq (square_at s)) (mul-le-mul_right (4 ^ z) R.low))
      (isqrt_is (m * 4 ^ z)).high

  scaled_lt : isqrt (m * 4 ^ z) < (s + 1) * 2 ^ z
  scaled_lt =
      root_lt (isqrt (m * 4 ^ z)) ((s + 1) * 2 ^ z)
      (lt_of_le_of_lt (isqrt_is (m * 4 ^ z)).low (lt_of_lt_of_le (mul-lt-mul_of_pos_right R.high four_pos) (le_of_eq (sym (square_at (s + 1))))))

  -- the scaled root is exact only where s is
  exact_back : isqrt (m * 4 ^ z) ≡ s * 2 ^ z → m * 4 ^ z - isqrt (m * 4 ^ z) * isqrt (m * 4 ^ z) ≡ 0 → s * s ≡ m
  exact_back e q =
      let S = isqrt (m * 4 ^ z) in
      let g : S * S ≡ m * 4 ^ z = let l = (isqrt_is (m * 4 ^ z)).low in omega arith in
      eq_of_mul-eq-mul_right (4 ^ z) four_pos (s * s) m (sym (square_at s) ∙ ap (λ (x : ℕ). x * x) (sym e) ∙ g)

module _ (f : Format) (m s z : ℕ) (R : IsRoot m s) (even : m % 2 ≡ 0) (lo : 2 ^ prec f ≤ s) (hi : s < 2 ^ suc (prec f)) where
  root_ge : 2 ^ (prec f + z) ≤ isqrt (m * 4 ^ z)
  root_ge = le_trans (le_of_eq (pow-add 2 (prec f) z)) (le_trans (mul-le-mul_right (2 ^ z) lo) (scaled_ge m s z R))

  root_under : isqrt (m * 4 ^ z) < 2 ^ suc (prec f + z)
  root_under =
      lt_of_lt_of_le (scaled_lt m s z R)
      (le_trans (mul-le-mul_right (2 ^ z) (subst (λ (x : ℕ). x ≤ 2 ^ suc (prec f)) (sym (add-one s)) hi))
      (le_of_eq (sym (pow-add 2 (suc (prec f)) z) ∙ ap (λ (x : ℕ). 2 ^ x) (suc-add (prec f) z))))

  round_sqrt_units : round_sqrt f (m * 4 ^ z) ≡ units f false ((s + 1) / 2) (suc z)
  unfolding round_sqrt round_root
  round_sqrt_units =
      let S = isqrt (m * 4 ^ z) in
      let r = m * 4 ^ z - S * S in
      let t : ℕ = cond (eqb r 0) 0 1 in
      round_units f S t z 0 (sticky_le r) root_ge root_under
      ∙ ap (λ (x : ℕ). units f false (closest (2 * S + t) (4 * 2 ^ z)) (suc x)) (add-zero z)
      ∙ ap (λ (x : ℕ). units f false x (suc z))
      (half s (2 ^ z) S t (scaled_ge m s z R) (scaled_lt m s z R) (sticky_le r)
      (λ (o : s % 2 ≡ 1) (e : S ≡ s * 2 ^ z). sticky_one r (λ (n : r ≡ 0). odd_square s m (exact_back m s z R e n) o even)))

-- the root of m * 4 ^ z is rounded once, from the whole root of m and its remainder
pub round_sqrt_scaled : (f : Format) (m s r z : ℕ) → IsRest m s r → m % 2 ≡ 0 → 2 ^ prec f ≤ s → s < 2 ^ suc (prec f)
    → round_root f s r z ≡ round_sqrt f (m * 4 ^ z)
round_sqrt_scaled f m s r z R even lo hi =
    round_root_units f s r z (subst (λ (x : ℕ). x % 2 ≡ 0) R.sum even) lo hi ∙ sym (round_sqrt_units f m s z (rest_root m s r R) even lo hi)

-- ---- the bits of q * 2 ^ k units, for a q of as many digits as f keeps, or one more where it is a power of two

-- p is one less than the format's precision
unit_bits : (p q k : ℕ) → 2 ^ p ≤ q → q ≤ 2 ^ suc p
    → (size (q * 2 ^ k) - suc p) * 2 ^ p + q * 2 ^ k / 2 ^ (size (q * 2 ^ k) - suc p) ≡ k * 2 ^ p + q
unit_bits p q k lo hi = go (eq-or-lt_of_le hi)
  where
    at : (j : ℕ) → size (q * 2 ^ k) - suc p ≡ j
        → (size (q * 2 ^ k) - suc p) * 2 ^ p + q * 2 ^ k / 2 ^ (size (q * 2 ^ k) - suc p) ≡ j * 2 ^ p + q * 2 ^ k / 2 ^ j
    at j e = ap (λ (x : ℕ). x * 2 ^ p + q * 2 ^ k / 2 ^ x) e

    over : 2 ^ (p + k) ≤ q * 2 ^ k
    over = le_trans (le_of_eq (pow-add 2 p k)) (mul-le-mul_right (2 ^ k) lo)

    less : (p z : ℕ) → suc (p + z) - suc p ≡ z
    less p z = omega arith

    less_one : (p z : ℕ) → suc (suc p + z) - suc p ≡ suc z
    less_one p z = omega arith

    go : (q ≡ 2 ^ suc p) ⊎ (q < 2 ^ suc p)
        → (size (q * 2 ^ k) - suc p) * 2 ^ p + q * 2 ^ k / 2 ^ (size (q * 2 ^ k) - suc p) ≡ k * 2 ^ p + q
    go (inl e) =
        let w : q * 2 ^ k ≡ 2 ^ (suc p + k) = ap (λ (x : ℕ). x * 2 ^ k) e ∙ sym (pow-add 2 (suc p) k) in
        let d : size (q * 2 ^ k) ≡ suc (suc p + k) =
        size_exact (suc p + k) (q * 2 ^ k) (le_of_eq (sym w)) (lt_of_le_of_lt (le_of_eq w) (pow-lt (lt-suc_self (suc p + k)))) in
        let v : q * 2 ^ k ≡ 2 ^ p * 2 ^ suc k = w ∙ ap (λ (x : ℕ). 2 ^ x) (suc-add p k ∙ sym (add-suc p k)) ∙ pow-add 2 p (suc k) in
        at (suc k) (ap (λ (x : ℕ). x - suc p) d ∙ less_one p k)
        ∙ ap (λ (x : ℕ). suc k * 2 ^ p + x / 2 ^ suc k) v
        ∙ ap (λ (x : ℕ). suc k * 2 ^ p + x) (mul-div_cancel (2 ^ p) (pow_pos (suc k)))
        ∙ (let g : suc k * 2 ^ p ≡ k * 2 ^ p + 2 ^ p = suc-mul k (2 ^ p) in
        let i : 2 ^ suc p ≡ 2 ^ p * 2 = pow-suc 2 p in
        omega arith)
    go (inr l) =
        let d : size (q * 2 ^ k) ≡ suc (p + k) =
        size_exact (p + k) (q * 2 ^ k) over (subst (λ (x : ℕ). q * 2 ^ k < 2 ^ x) (suc-add p k) (shl_lt (suc p) k l)) in
        at k (ap (λ (x : ℕ). x - suc p) d ∙ less p k) ∙ ap (λ (x : ℕ). k * 2 ^ p + x) (mul-div_cancel q (pow_pos k))

-- ---- for binary64

overflow_free : (q k : ℕ) → q ≤ 2 ^ 53 → k ≤ 2000 → q * 2 ^ k < 2 ^ (low binary64 + suc (emax binary64))
overflow_free q k h g = lt_of_le_of_lt (mul-le-mul h (pow_mono g)) (lit< tt)

pub round_root_fits : (f : Format) (s r z : ℕ) → T (fits f (round_root f s r z))
unfolding round_root
round_root_fits f s r z = round-fits f false ((2 * s + cond (eqb r 0) 0 1) * 2 ^ z) (2 * 2 ^ low f)

pub round_root_bits : (s r z c : ℕ) → 2 ^ 53 ≤ s → s < 2 ^ 54 → z < 2000 → Carried (s / 2) (s % 2) r c
    → of_bits binary64 (suc z * 2 ^ 52 + (s / 2 + c)) ≡ round_root binary64 s r z
round_root_bits s r z c lo hi Z k =
    let q = s / 2 + c in
    let u = round_root_carried binary64 s r z lo hi c k in
    let c-le = carried_le s r c k in
    let q-hi : q ≤ 2 ^ 53 = omega arith in
    let q-lo : 2 ^ 52 ≤ q = omega arith in
    let v = units_val binary64 false q (suc z) (overflow_free q (suc z) q-hi Z) in
    let b : to_bits binary64 (units binary64 false q (suc z)) ≡ suc z * 2 ^ 52 + q =
    bits_of_units binary64 (units binary64 false q (suc z)) false (q * 2 ^ suc z) v
    ∙ ap (λ (x : ℕ). x + q * 2 ^ suc z / 2 ^ (size (q * 2 ^ suc z) - 53)) (zero-add ((size (q * 2 ^ suc z) - 53) * 2 ^ 52))
    ∙ unit_bits 52 q (suc z) q-lo q-hi in
    ap (of_bits binary64) (sym b)
    ∙ of_bits-to_bits binary64 (units binary64 false q (suc z)) (subst (λ (x : Float). T (fits binary64 x)) u (round_root_fits binary64 s r z)) ∙ sym u
