-- Fast2Sum (`from_exact_add`), where the first addend is at least four times the second in size: the parts add up to the sum, so that adding
-- them once more gives the same parts. The sum is rounded to its last place. Where the second addend is below half of that place, the rounded
-- sum is the first addend; else the rounding error is a multiple of the second addend's last place, with at most 53 digits. Assumes nothing.
use mathlib.Core.Path.{◌≡◌, sym, ap, ◌∙◌, subst}
use mathlib.Core.Bool.{Bool, true, false, not, cond}
use Prim.Native.Nat.{ℕ, suc, ◌+◌, ◌-◌, ◌*◌, ◌^◌, ◌≤◌, ◌<◌}
use native.Mathlib.Nat.{le_trans, le_of_eq, lt_of_lt_of_le, lt_of_le_of_lt, mul-one, mul_assoc, pow-suc}
use native.Mathlib.Nat.{mul-le-mul_right, le_of_mul-le-mul_right, lt_of_mul-lt-mul_right}
use native.Mathlib.Omega.{arith}
use lib.Dec.{T, ltb, ltb→lt, nltb→le, lit≤}
use lib.Pow.{pow-add, pow_pos, pow_mono}
use lib.Ieee.{Float, binary64, size, unlike, fits, add, sub}
use lib.Ieee.Digits.{size-lt, size-le, size_reaches}
use lib.Ieee.Exact.{HasValue}
use lib.Ieee.Fits.{add-fits, sub-fits}
use Rattle.double_bits.proofs.Digits.{size_above, lt_of_pow_lt}
use Rattle.pxfm.specs.DoubleDouble.{new_of, from_exact_add}
use Rattle.pxfm.specs.Argument.{zero}
use Rattle.pxfm.proofs.Units.{units_multiple, val_of_units}
use Rattle.pxfm.proofs.Unique.{val_unique, sub_self}
use Rattle.law_exact.specs.FastSum.{Addends}
use Rattle.law_exact.proofs.Signed.{Signed, SignedRounds, add_signed, sub_signed, exact_signed}
use Rattle.law_exact.proofs.Multiple.{multiple}
use Rattle.law_exact.proofs.Own.{rounds_unique}
use Rattle.law_exact.proofs.Zeros.{sub_zero}

-- ---- the digits of a whole number

-- n has 53 + k digits
record Places (n k : ℕ) : Type 0 where
  low : 2 ^ (52 + k) ≤ n
  high : n < 2 ^ (53 + k)

places_of : (n : ℕ) → 2 ^ 53 ≤ n → Places n (size n - 53)
places_of n h =
    let z : 53 < size n = size_above 53 n h in
    let e : size n ≡ 53 + (size n - 53) = omega arith in
    record { low = size_reaches n (52 + (size n - 53)) (omega arith); high = subst (λ (z : ℕ). n < 2 ^ z) e (size-lt n) }

-- The sum has at most one digit more or less than the first addend.
place_beside : (K k A B m : ℕ) → Places A K → Places m k → m ≤ A + B → A ≤ m + B → 4 * B ≤ A → (k ≤ K + 1) × (K ≤ k + 1)
place_beside K k A B m a p i j h =
    let u : 2 ^ (53 + K) ≡ 2 ^ 53 * 2 ^ K = pow-add 2 53 K in
    let v : 2 ^ (54 + K) ≡ 2 ^ 54 * 2 ^ K = pow-add 2 54 K in
    let w : 2 ^ (52 + K) ≡ 2 ^ 52 * 2 ^ K = pow-add 2 52 K in
    let x : 2 ^ (51 + K) ≡ 2 ^ 51 * 2 ^ K = pow-add 2 51 K in
    let o = lt_of_pow_lt (52 + k) (54 + K) (omega (arith, p.low, a.high)) in
    let l = lt_of_pow_lt (51 + K) (53 + k) (omega (arith, p.high, a.low)) in
    (omega arith, omega arith)

-- two multiples of u that are less than u apart are one
multiples_same : (u c d : ℕ) → c * u < d * u + u → d * u < c * u + u → c ≡ d
multiples_same u c d h k =
    let a : c < d + 1 = lt_of_mul-lt-mul_right u (omega arith) in
    let b : d < c + 1 = lt_of_mul-lt-mul_right u (omega arith) in
    omega arith

-- 2 ^ i is 2 ^ j times a power
split_power : (i j : ℕ) → j ≤ i → 2 ^ i ≡ 2 ^ (i - j) * 2 ^ j
split_power i j h = let e : i ≡ i - j + j = omega arith in ap (λ (z : ℕ). 2 ^ z) e ∙ pow-add 2 (i - j) j

-- ---- numbers with a sign

signed_own : {x : Float} (s : Bool) {a : ℕ} (q j : ℕ) → HasValue x s a (2 ^ 1074) → a ≡ q * 2 ^ j → Signed s x q 0 j
signed_own false q j h e = record { is = val_of_units q j h e }
signed_own {x = x} true q j h e =
    record { is = record { sign = true; mag = q; val = subst (λ (z : ℕ). HasValue x true z (2 ^ 1074)) e h; gap = omega arith } }

-- m where the signs are alike, and where they are not
abbrev with : Bool → ℕ → ℕ
with u m = cond u 0 m

abbrev against : Bool → ℕ → ℕ
against u m = cond u m 0

both : (u : Bool) (m : ℕ) → with u m + against u m ≡ m
both false m = omega arith
both true m = omega arith

signed_beside : {x : Float} (s t : Bool) {a : ℕ} (q j : ℕ) → HasValue x t a (2 ^ 1074) → a ≡ q * 2 ^ j
    → Signed s x (with (unlike s t) q) (against (unlike s t) q) j
signed_beside false false q j h e = record { is = (signed_own false q j h e).is }
signed_beside false true q j h e = record { is = (signed_own true q j h e).is }
signed_beside true false q j h e = record { is = (signed_own false q j h e).is }
signed_beside true true q j h e = record { is = (signed_own true q j h e).is }

signed_unique : {s : Bool} {y z : Float} {p n q m j : ℕ} → SignedRounds s y p n j → SignedRounds s z q m j → p + m ≡ q + n → (p ≡ n → ⊥) → y ≡ z
signed_unique {s = false} r w e d = rounds_unique r.is w.is e d
signed_unique {s = true} r w e d = rounds_unique r.is w.is (omega arith) (λ k. d (sym k))

signed_val_unique : {s : Bool} {y z : Float} {p n q m j : ℕ} → T (fits binary64 y) → T (fits binary64 z) → Signed s y p n j → Signed s z q m j
    → p + m ≡ q + n → (p ≡ n → ⊥) → y ≡ z
signed_val_unique {s = false} f g v w e d = val_unique f g v.is w.is e d
signed_val_unique {s = true} f g v w e d = val_unique f g v.is w.is (omega arith) (λ k. d (sym k))

signed_less_itself : {s : Bool} {x : Float} {p n j : ℕ} → Signed s x p n j → sub binary64 x x ≡ zero
signed_less_itself {s = false} {x = x} {j = j} v = sub_self x v.is.sign (v.is.mag * 2 ^ j) (2 ^ 1074) v.is.val
signed_less_itself {s = true} {x = x} {j = j} v = sub_self x v.is.sign (v.is.mag * 2 ^ j) (2 ^ 1074) v.is.val

-- ---- the sum of the parts

-- the rounded sum, and what it lacks
abbrev high : Float → Float → Float
high a b = add binary64 a b

abbrev rest : Float → Float → Float
rest a b = sub binary64 b (sub binary64 (high a b) a)

-- The second addend is below half of the sum's last place.
same_sum : (a b : Float) → T (fits binary64 b) → sub binary64 a a ≡ zero → high a b ≡ a → add binary64 (high a b) (rest a b) ≡ high a b
same_sum a b f z e =
    let r : rest a b ≡ b = ap (λ (x : Float). sub binary64 b (sub binary64 x a)) e ∙ ap (λ (x : Float). sub binary64 b x) z ∙ sub_zero b f in
    ap (λ (x : Float). add binary64 (high a b) x) r ∙ ap (λ (x : Float). add binary64 x b) e

tiny_size : (u c d m A B : ℕ) → A ≡ d * u → m ≤ A + B → A ≤ m + B → 2 * (u * c) ≤ 2 * m + u → 2 * m ≤ 2 * (u * c) + u → 2 * B < u → u * c ≡ A
tiny_size u c d m A B e i j o l h =
    let s : c ≡ d = multiples_same u c d (omega arith) (omega arith) in
    omega (arith, ap (λ (z : ℕ). u * z) s)

not_tiny : (u q A B m : ℕ) → A ≡ q * u → A < 2 ^ 53 * u → 2 ^ 53 * u ≤ m → m ≤ A + B → 2 * B < 2 * u → ⊥
not_tiny u q A B m e h l i k =
    let g : q < 2 ^ 53 = lt_of_mul-lt-mul_right u (omega arith) in
    let g' = mul-le-mul_right u g in
    omega arith

-- The second addend reaches half of the sum's last place. In units of the second addend's last place a is 2 * n, b is q - r, and the sum is m.
large_sum : {a b : Float} {s : Bool} (n q r m e W : ℕ) → Signed s a (2 * n) 0 W → Signed s b q r W → m + r ≡ 2 * n + q → q + r < 2 ^ 53
    → Places m (suc e) → e ≤ 52 → W ≤ 1900 → add binary64 (high a b) (rest a b) ≡ high a b
large_sum n q r m e W a b sum short p le room =
    let lo = p.low in
    let hi = p.high in
    let some : 0 < m = lt_of_lt_of_le (pow_pos (52 + suc e)) lo in
    let h = multiple (add_signed a b) m (suc e) (omega arith, lo, hi, omega arith) in
    let place : 2 ^ suc e ≡ 2 ^ e * 2 = pow-suc 2 e in
    let twice : 2 ^ suc e * h.c ≡ 2 * (2 ^ e * h.c) = ap (λ (z : ℕ). z * h.c) place ∙ half (2 ^ e) h.c in
    let few : 2 ^ e ≤ 2 ^ 52 = pow_mono le in
    let over = h.over in
    let under = h.under in
    let t = exact_signed (sub_signed h.val a) 1 (2 ^ e * h.c) n (omega arith) in
    let l = exact_signed (sub_signed b t) 0 (q + 2 * n) (r + 2 * (2 ^ e * h.c)) (omega arith) in
    signed_unique (add_signed h.val l) (add_signed a b) (omega arith) (λ z. absurd (omega arith))
  where
    half : (u c : ℕ) → u * 2 * c ≡ 2 * (u * c)
    half u c = omega arith

-- ---- the two cases

-- The sum's size m, for the sizes of the addends and their signs' likeness.
record Sizes (A B m : ℕ) (u : Bool) : Type 0 where
  sum : m + against u B ≡ A + with u B
  over : m ≤ A + B
  under : A ≤ m + B
  from : 2 ^ 53 ≤ m

sizes_of : (A B : ℕ) (u : Bool) → 4 * B ≤ A → 2 ^ 54 ≤ A → Sizes A B (A + with u B - against u B) u
sizes_of A B false h l = record { sum = omega arith; over = omega arith; under = omega arith; from = omega arith }
sizes_of A B true h l = record { sum = omega arith; over = omega arith; under = omega arith; from = omega arith }

-- The numbers of digits: K + 53 of the first addend, k + 53 of the sum.
record Digits (A m K k : ℕ) : Type 0 where
  first : Places A K
  whole : Places m k
  above : k ≤ K + 1
  below : K ≤ k + 1
  least : 100 ≤ K
  most : K ≤ 1447

-- The second addend's last place is below that of the first by two digits at least, and below that of the sum by at most 53.
second_place : (W K k A B : ℕ) → Places B W → Places A K → 4 * B ≤ A → 2 ^ k ≤ 2 * B → (W + 2 ≤ K) × (k ≤ W + 53)
second_place W K k A B b a h l =
    let x : 2 ^ (52 + W) ≡ 2 ^ 52 * 2 ^ W = pow-add 2 52 W in
    let y : 2 ^ (53 + W) ≡ 2 ^ 53 * 2 ^ W = pow-add 2 53 W in
    let z : 2 ^ (54 + W) ≡ 2 ^ 54 * 2 ^ W = pow-add 2 54 W in
    let o = lt_of_pow_lt (54 + W) (53 + K) (omega (arith, b.low, a.high)) in
    let i = lt_of_pow_lt k (54 + W) (omega (arith, b.high)) in
    (omega arith, omega arith)

-- The sum in units of w.
scaled_sum : (A B m n q w : ℕ) (u : Bool) → 0 < w → A ≡ 2 * n * w → B ≡ q * w → 4 * B ≤ A → m + against u B ≡ A + with u B
    → (g : ℕ) × ((g + against u q ≡ 2 * n + with u q) × (m ≡ g * w))
scaled_sum A B m n q w false P a b h s = (2 * n + q, (omega arith, omega arith))
scaled_sum A B m n q w true P a b h s =
    let l : q ≤ 2 * n = le_of_mul-le-mul_right {k = w} (omega arith) P in
    (2 * n - q, (omega arith, times (2 * n - q) (omega arith)))
  where
    times : (g : ℕ) → g + q ≡ 2 * n → m ≡ g * w
    times g e = let k = ap (λ (z : ℕ). z * w) e in omega arith

scaled_places : (m g k e W : ℕ) → m ≡ g * 2 ^ W → suc e + W ≡ k → Places m k → Places g (suc e)
scaled_places m g k e W i j p =
    let x : 2 ^ (52 + suc e) * 2 ^ W ≡ 2 ^ (52 + k) = sym (pow-add 2 (52 + suc e) W) ∙ ap (λ (z : ℕ). 2 ^ z) (omega arith) in
    let y : 2 ^ (53 + suc e) * 2 ^ W ≡ 2 ^ (53 + k) = sym (pow-add 2 (53 + suc e) W) ∙ ap (λ (z : ℕ). 2 ^ z) (omega arith) in
    record {
      low = le_of_mul-le-mul_right (le_trans (le_of_eq x) (le_trans p.low (le_of_eq i))) (pow_pos W);
      high = lt_of_mul-lt-mul_right (2 ^ W) (lt_of_lt_of_le (lt_of_le_of_lt (le_of_eq (sym i)) p.high) (le_of_eq (sym y)));
    }

module _ {a b : Float} (h : Addends a b) where
  u : Bool
  u = unlike h.s h.t

  m : ℕ
  m = h.A + with u h.B - against u h.B

  K : ℕ
  K = size h.A - 53

  k : ℕ
  k = size m - 53

  large : 2 ^ 54 ≤ h.A
  large = le_trans (lit≤ tt) h.from

  sizes : Sizes h.A h.B m u
  unfolding m
  sizes = sizes_of h.A h.B u h.small large

  digits : Digits h.A m K k
  unfolding K k
  digits =
      let p = places_of h.A (le_trans (lit≤ tt) h.from) in
      let q = places_of m sizes.from in
      let n = place_beside K k h.A h.B m p q sizes.over sizes.under h.small in
      let i : 200 < size h.A = size_above 200 h.A h.from in
      let j : size h.A ≤ 1500 = size-le h.A 1500 h.to in
      record { first = p; whole = q; above = n.0; below = n.1; least = omega arith; most = omega arith }

  multiple_of : (q : ℕ) × (h.A ≡ q * 2 ^ K)
  multiple_of = units_multiple K a h.s h.A h.first_fits h.first digits.first.low

  own : Signed h.s a h.A 0 0
  own = signed_own h.s h.A 0 h.first (sym (mul-one h.A))

  beside : Signed h.s b (with u h.B) (against u h.B) 0
  unfolding u
  beside = signed_beside h.s h.t h.B 0 h.second (sym (mul-one h.B))

  -- below half of the last place
  tiny_high : 2 * h.B < 2 ^ k → high a b ≡ a
  tiny_high l =
      let g = digits in
      let z = sizes in
      let s = z.sum in
      let i = g.above in
      let j = g.most in
      let c = multiple (add_signed own beside) m k (omega arith, g.whole.low, g.whole.high, omega arith) in
      let e = go c.c c.over c.under (ltb K k) (ltb→lt K k) (nltb→le K k) in
      signed_val_unique (add-fits binary64 a b) h.first_fits c.val own (omega arith) (not_zero c.c e)
    where
      not_zero : (c : ℕ) → 2 ^ k * c ≡ h.A → 2 ^ k * c ≡ 0 → ⊥
      not_zero c e f = let l = large in omega arith

      go : (c : ℕ) → 2 * (2 ^ k * c) ≤ 2 * m + 2 ^ k → 2 * m ≤ 2 * (2 ^ k * c) + 2 ^ k → (t : Bool) → (T t → K < k) → (T (not t) → k ≤ K)
          → 2 ^ k * c ≡ h.A
      go c o w true f g =
          let n = f tt in
          let i = digits.above in
          let e : k ≡ suc K = omega arith in
          let p : 2 ^ k ≡ 2 ^ K * 2 = ap (λ (z : ℕ). 2 ^ z) e ∙ pow-suc 2 K in
          let y : 2 ^ (53 + K) ≡ 2 ^ 53 * 2 ^ K = pow-add 2 53 K in
          let e' : 52 + k ≡ 53 + K = omega arith in
          let x = le_trans (le_of_eq (sym (ap (λ (z : ℕ). 2 ^ z) e'))) digits.whole.low in
          let q = multiple_of in
          absurd (not_tiny (2 ^ K) q.0 h.A h.B m q.1 (omega (arith, digits.first.high)) (omega arith) sizes.over (omega arith))
      go c o w false f g =
          let q = multiple_of.0 in
          let e : h.A ≡ q * 2 ^ (K - k) * 2 ^ k =
          multiple_of.1 ∙ ap (λ (z : ℕ). q * z) (split_power K k (g tt)) ∙ sym (mul_assoc q (2 ^ (K - k)) (2 ^ k)) in
          tiny_size (2 ^ k) c (q * 2 ^ (K - k)) m h.A h.B e sizes.over sizes.under o w l

  -- from half of the last place on
  large_again : 2 ^ k ≤ 2 * h.B → add binary64 (high a b) (rest a b) ≡ high a b
  unfolding u
  large_again l =
      let g = digits in
      let few : 54 ≤ k = omega (arith, g.below, g.least) in
      let many : 2 ^ 54 ≤ 2 ^ k = pow_mono few in
      let W = size h.B - 53 in
      let p = places_of h.B (omega arith) in
      let o = second_place W K k h.A h.B p g.first h.small l in
      let y = units_multiple W b h.t h.B h.second_fits h.second p.low in
      let q = multiple_of.0 in
      let n = q * 2 ^ (K - suc W) in
      let f : h.A ≡ 2 * n * 2 ^ W =
      multiple_of.1
      ∙ ap (λ (z : ℕ). q * z) (split_power K (suc W) (omega arith))
      ∙ ap (λ (z : ℕ). q * (2 ^ (K - suc W) * z)) (pow-suc 2 W)
      ∙ regroup q (2 ^ (K - suc W)) (2 ^ W) in
      let z = scaled_sum h.A h.B m n y.0 (2 ^ W) u (pow_pos W) f y.1 h.small sizes.sum in
      let wide : y.0 * 2 ^ W < 2 ^ 53 * 2 ^ W = lt_of_lt_of_le (lt_of_le_of_lt (le_of_eq (sym y.1)) p.high) (le_of_eq (pow-add 2 53 W)) in
      let short : y.0 < 2 ^ 53 = lt_of_mul-lt-mul_right (2 ^ W) wide in
      let e : suc (k - suc W) + W ≡ k = omega (arith, g.below) in
      large_sum n (with u y.0) (against u y.0) z.0 (k - suc W) W (signed_own h.s (2 * n) W h.first f)
      (signed_beside h.s h.t y.0 W h.second y.1) z.1.0 (omega (arith, both u y.0))
      (scaled_places m z.0 k (k - suc W) W z.1.1 e g.whole) (omega (arith, g.below)) (omega (arith, g.most))
    where
      regroup : (q p w : ℕ) → q * (p * (w * 2)) ≡ 2 * (q * p) * w
      regroup q p w = omega arith

  high_less_itself : sub binary64 (high a b) (high a b) ≡ zero
  high_less_itself =
      let g = digits in
      let s = sizes.sum in
      let i = g.above in
      let j = g.most in
      signed_less_itself (multiple (add_signed own beside) m k (omega arith, g.whole.low, g.whole.high, omega arith)).val

  again : add binary64 (high a b) (rest a b) ≡ high a b
  again = go (ltb (2 * h.B) (2 ^ k)) (ltb→lt (2 * h.B) (2 ^ k)) (nltb→le (2 * h.B) (2 ^ k))
    where
      go : (t : Bool) → (T t → 2 * h.B < 2 ^ k) → (T (not t) → 2 ^ k ≤ 2 * h.B) → add binary64 (high a b) (rest a b) ≡ high a b
      go true f g = same_sum a b h.second_fits (signed_less_itself own) (tiny_high (f tt))
      go false f g = large_again (g tt)

-- ---- the pair

pub exact_add_twice : {a b : Float} → Addends a b → from_exact_add (from_exact_add a b).hi (from_exact_add a b).lo ≡ from_exact_add a b
unfolding from_exact_add
exact_add_twice {a = a} {b = b} h =
    let l = rest a b in
    ap (λ (z : Float). new_of (sub binary64 l (sub binary64 z (high a b))) z) (again h)
    ∙ ap (λ (z : Float). new_of (sub binary64 l z) (high a b)) (high_less_itself h)
    ∙ ap (λ (z : Float). new_of z (high a b)) (sub_zero l (sub-fits binary64 b (sub binary64 (high a b) a)))
