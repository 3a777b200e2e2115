-- The value of a float as a whole number of units, and the number that a sum or a difference rounds.
-- A signed number is a pair of whole numbers p and n that stands for p - n: the signs are told apart once, here,
-- by the definition of the sum, and whoever uses the laws works with whole numbers alone. Assumes nothing.
use Rattle.std.proofs.Common.{◌≡◌, ℕ, ◌+◌, ◌-◌, ◌*◌, ◌^◌, ◌<◌, ◌≤◌, Bool, true, false, cond, not, T, ltb, sym, refl, ap, ◌∙◌, le_trans, le_of_eq, le_of_lt, mul-le-mul_right, mul-pos, le_of_mul-le-mul_right, arith, ltb→lt, nltb→le, pow_pos}
use lib.Ieee.{Float, nan, inf, fin, Format, low, up, down, round, sum, add, sub, neg}
use lib.Ieee.Exact.{HasValue}
use lib.Ieee.Fits.{down_pos}

-- The number p - n has the size a, and s tells whether it is negative.
abbrev pub Gap : Bool → ℕ → ℕ → ℕ → Type 0
Gap false a p n = a + n ≡ p
Gap true a p n = a + p ≡ n

-- x is p - n times 2 ^ j units, where a unit is the smallest value of f.
pub record Val (f : Format) (x : Float) (p n j : ℕ) : Type 0 where
  pub sign : Bool
  pub mag : ℕ
  pub val : HasValue x sign (mag * 2 ^ j) (2 ^ low f)
  pub gap : Gap sign mag p n

-- x is what that number rounds to; the number's size is num / den.
pub record Rounds (f : Format) (x : Float) (p n j : ℕ) : Type 0 where
  pub sign : Bool
  pub mag : ℕ
  pub num : ℕ
  pub den : ℕ
  pub den_pos : 0 < den
  pub is : x ≡ round f sign num den
  pub val : num * 2 ^ low f ≡ mag * 2 ^ j * den
  pub gap : Gap sign mag p n

-- ---- the same number, from another pair

pub gap_same : (s : Bool) (a p n p' n' : ℕ) → p + n' ≡ p' + n → Gap s a p n → Gap s a p' n'
gap_same false a p n p' n' e h = omega arith
gap_same true a p n p' n' e h = omega arith

gap_swap : (s : Bool) (a p n : ℕ) → Gap s a p n → Gap (not s) a n p
gap_swap false a p n h = h
gap_swap true a p n h = h

pub val_same : {f : Format} {x : Float} {p n j : ℕ} (p' n' : ℕ) → p + n' ≡ p' + n → Val f x p n j → Val f x p' n' j
val_same {p = p} {n = n} p' n' e v =
    record { sign = v.sign; mag = v.mag; val = v.val; gap = gap_same v.sign v.mag p n p' n' e v.gap }

pub neg_val : {f : Format} {x : Float} {p n j : ℕ} → Val f x p n j → Val f (neg x) n p j
unfolding neg
neg_val {x = nan} v = absurd v.val
neg_val {x = inf a} v = absurd v.val
neg_val {x = fin a b c} {p = p} {n = n} v =
    record { sign = not v.sign; mag = v.mag; val = (ap not v.val.0, v.val.1); gap = gap_swap v.sign v.mag p n v.gap }

-- ---- sums and differences

gap_add : (s : Bool) (q r p n p' n' : ℕ) → Gap s q p n → Gap s r p' n' → Gap s (q + r) (p + p') (n + n')
gap_add false q r p n p' n' g h = omega arith
gap_add true q r p n p' n' g h = omega arith

gap_sub : (s : Bool) (q r p n p' n' : ℕ) → q ≤ r → Gap (not s) q p n → Gap s r p' n' → Gap s (r - q) (p + p') (n + n')
gap_sub false q r p n p' n' l g h = omega arith
gap_sub true q r p n p' n' l g h = omega arith

-- a and b count q and r times d / l, so b - a counts r - q times it.
difference : (a b l q r d : ℕ) → 0 < d → a * l ≡ q * d → b * l ≡ r * d → a ≤ b → (q ≤ r) × ((b - a) * l ≡ (r - q) * d)
difference a b l q r d D h k g =
    let o : q ≤ r = le_of_mul-le-mul_right (le_trans (le_of_eq (sym h)) (le_trans (mul-le-mul_right l g) (le_of_eq k))) D in
    (o, cancel (b - a) (r - q) (omega arith) (omega arith))
  where
    cancel : (x y : ℕ) → x + a ≡ b → y + q ≡ r → x * l ≡ y * d
    cancel x y e e' = let c = ap (λ (z : ℕ). z * l) e in let c' = ap (λ (z : ℕ). z * d) e' in omega arith

-- The sum of two sizes a / c and b / c, with signs: q and r times 2 ^ j units.
module _ (f : Format) (a b c q r p n p' n' j : ℕ) (C : 0 < c)
    (A : a * 2 ^ low f ≡ q * (2 ^ j * c)) (B : b * 2 ^ low f ≡ r * (2 ^ j * c)) where
  abbrev Summed : Float → Type 0
  Summed x = Rounds f x (p + p') (n + n') j

  summed : (s : Bool) (x y : ℕ) → x * 2 ^ low f ≡ y * (2 ^ j * c) → Gap s y (p + p') (n + n') → Summed (round f s x c)
  summed s x y h g = record { sign = s; mag = y; num = x; den = c; den_pos = C; is = refl; val = omega arith; gap = g }

  rising : a ≤ b → (q ≤ r) × ((b - a) * 2 ^ low f ≡ (r - q) * (2 ^ j * c))
  rising l = difference a b (2 ^ low f) q r (2 ^ j * c) (mul-pos (pow_pos j) C) A B l

  falling : b ≤ a → (r ≤ q) × ((a - b) * 2 ^ low f ≡ (q - r) * (2 ^ j * c))
  falling l = difference b a (2 ^ low f) r q (2 ^ j * c) (mul-pos (pow_pos j) C) B A l

  second_larger : (s : Bool) → a ≤ b → Gap (not s) q p n → Gap s r p' n' → Summed (round f s (b - a) c)
  second_larger s l g h = let d = rising l in summed s (b - a) (r - q) d.1 (gap_sub s q r p n p' n' d.0 g h)

  first_larger : (s : Bool) → b ≤ a → Gap s q p n → Gap (not s) r p' n' → Summed (round f s (a - b) c)
  first_larger s l g h =
      let d = falling l in
      let e : p' + p + (n + n') ≡ p + p' + (n' + n) = omega arith in
      summed s (a - b) (q - r) d.1
      (gap_same s (q - r) (p' + p) (n' + n) (p + p') (n + n') e (gap_sub s r q p' n' p n d.0 h g))

  -- The sum of opposite numbers is +0.
  equal_sizes : a ≤ b → b ≤ a → Gap true q p n → Gap false r p' n' → Summed (round f false (a - b) c)
  equal_sizes l l' g h =
      let d = rising l in
      let e : a - b ≡ b - a = omega arith in
      summed false (a - b) (r - q) (rw e d.1) (gap_sub false q r p n p' n' d.0 g h)

  sum_rounds : (s t : Bool) → Gap s q p n → Gap t r p' n' → Summed (sum f s a t b c)
  unfolding sum
  sum_rounds false false g h = summed false (a + b) (q + r) (omega arith) (gap_add false q r p n p' n' g h)
  sum_rounds true true g h = summed true (a + b) (q + r) (omega arith) (gap_add true q r p n p' n' g h)
  sum_rounds false true g h = go (ltb a b) (ltb→lt a b) (nltb→le a b)
    where
      go : (u : Bool) → (T u → a < b) → (T (not u) → b ≤ a)
          → Summed (cond u (round f true (b - a) c) (round f false (a - b) c))
      go true l k = second_larger true (le_of_lt (l tt)) g h
      go false l k = first_larger false (k tt) g h
  sum_rounds true false g h = go (ltb a b) (ltb→lt a b) (nltb→le a b) (ltb b a) (nltb→le b a)
    where
      go : (u : Bool) → (T u → a < b) → (T (not u) → b ≤ a) → (w : Bool) → (T (not w) → a ≤ b)
          → Summed (cond u (round f false (b - a) c) (round f w (a - b) c))
      go true l k w k' = second_larger false (le_of_lt (l tt)) g h
      go false l k true k' = first_larger true (k tt) g h
      go false l k false k' = equal_sizes (k' tt) (k tt) g h

-- The size x / d over the denominator c, which is d * e.
over_common : (x l y u d e c : ℕ) → d * e ≡ c → x * l ≡ y * u * d → x * e * l ≡ y * (u * c)
over_common x l y u d e c k h =
    let a : x * e * l ≡ x * l * e = omega arith in
    let b : y * u * d * e ≡ y * (u * (d * e)) = omega arith in
    a ∙ ap (λ (z : ℕ). z * e) h ∙ b ∙ ap (λ (z : ℕ). y * (u * z)) k

pub add_rounds : {f : Format} {x y : Float} {p n q m j : ℕ} → Val f x p n j → Val f y q m j → Rounds f (add f x y) (p + q) (n + m) j
unfolding add
add_rounds {x = nan} v w = absurd v.val
add_rounds {x = inf a} v w = absurd v.val
add_rounds {x = fin a b c} {y = nan} v w = absurd w.val
add_rounds {x = fin a b c} {y = inf d} v w = absurd w.val
add_rounds {f = f} {x = fin a b c} {y = fin a' b' c'} {p = p} {n = n} {q = q} {m = m} {j = j} v w =
    let d = down c * down c' in
    sum_rounds f (b * up c * down c') (b' * up c' * down c) d v.mag w.mag p n q m j (mul-pos (down_pos c) (down_pos c'))
    (over_common (b * up c) (2 ^ low f) v.mag (2 ^ j) (down c) (down c') d refl v.val.1)
    (over_common (b' * up c') (2 ^ low f) w.mag (2 ^ j) (down c') (down c) d (omega arith) w.val.1)
    a a' (rw v.val.0 v.gap) (rw w.val.0 w.gap)

pub sub_rounds : {f : Format} {x y : Float} {p n q m j : ℕ} → Val f x p n j → Val f y q m j → Rounds f (sub f x y) (p + m) (n + q) j
unfolding sub
sub_rounds v w = add_rounds v (neg_val w)
