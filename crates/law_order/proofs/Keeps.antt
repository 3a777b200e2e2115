-- Rounding keeps order: of two numbers the smaller is not rounded to the larger double, whatever their signs; so the rounded sum, difference and
-- product keep it too. One law for `round`, one line for each operation. Assumes nothing.
use mathlib.Core.Path.{◌≡◌, refl, sym, ap, ◌∙◌, subst}
use mathlib.Core.Bool.{Bool, true, false, not, ◌&&◌, ◌||◌, beq, cond}
use mathlib.Core.Logic.{◌⊎◌, inl, inr}
use Prim.Native.Nat.{ℕ, zero, suc, ◌+◌, ◌*◌, ◌^◌, ◌≤◌, ◌<◌}
use native.Mathlib.Nat.{add_comm, mul-pos, mul-one, zero-mul, mul-le-mul_left, mul-le-mul_right, eq_of_mul-eq-mul_right}
use native.Mathlib.Omega.{arith}
use lib.Dec.{T, ltb, eqb, nltb→le, eqb→eq, lit<}
use lib.Pow.{pow_pos}
use lib.Ieee.{Float, nan, inf, fin, Format, binary64, prec, emax, low, unlike, up, down, odd, units, round, neg, add, sub, mul, below, level, lt, le, eq}
use denote.Floats.{passes}
use lib.Ieee.Bits.{is_true}
use lib.Ieee.Exact.{HasValue, round_exact}
use lib.Ieee.Fits.{down_pos, eq→eqb, and_i, and_l, and_r, round_is}
use lib.Ieee.Order.{transfer, round_mono}
use Rattle.facts.proofs.Tests.{either, or_left, or_right}
use Rattle.pxfm.proofs.Value.{Gap, add_rounds}
use Rattle.pxfm.proofs.Exact.{value_same}
use Rattle.pxfm.proofs.Order.{le_of_val, val_of_le}
use Rattle.pxfm.proofs.Units.{val_whole, val_whole_negative}
use Rattle.law_bounds.specs.Interval.{P, N}
use Rattle.law_bounds.proofs.Operations.{val_of, neg_value}
use Rattle.law_order.specs.Order.{AtMost}

-- ---- the other sign turns the order round

below_turned : (s t : Bool) (a b : ℕ) → T (below s a t b) → T (below (not t) b (not s) a)
below_turned false false a b h = h
below_turned false true a b h = absurd h
below_turned true false a b h = subst (λ (k : ℕ). T (ltb 0 k)) (add_comm a b) h
below_turned true true a b h = h

level_turned : (s t : Bool) (a b : ℕ) → T (level s a t b) → T (level (not t) b (not s) a)
level_turned s t a b h =
    let e : a ≡ b = eqb→eq a b (and_l (eqb a b) (beq s t || eqb a 0) h) in
    and_i (eqb b a) (beq (not t) (not s) || eqb b 0) (eq→eqb (sym e)) (go s t (subst (λ (k : ℕ). T (beq s t || eqb k 0)) e (and_r (eqb a b) _ h)))
  where
    go : (s t : Bool) → T (beq s t || eqb b 0) → T (beq (not t) (not s) || eqb b 0)
    go false false g = g
    go false true g = g
    go true false g = g
    go true true g = g

lt_turned : (x y : Float) → T (lt x y) → T (lt (neg y) (neg x))
unfolding lt neg
lt_turned nan y h = absurd h
lt_turned (inf s) nan h = absurd h
lt_turned (inf false) (inf t) h = absurd h
lt_turned (inf true) (inf false) h = tt
lt_turned (inf true) (inf true) h = absurd h
lt_turned (inf false) (fin t n d) h = absurd h
lt_turned (inf true) (fin t n d) h = tt
lt_turned (fin s m e) nan h = absurd h
lt_turned (fin s m e) (inf false) h = tt
lt_turned (fin s m e) (inf true) h = absurd h
lt_turned (fin s m e) (fin t n d) h = below_turned s t (m * up e * down d) (n * up d * down e) h

eq_turned : (x y : Float) → T (eq x y) → T (eq (neg y) (neg x))
unfolding eq neg
eq_turned nan y h = absurd h
eq_turned (inf s) nan h = absurd h
eq_turned (inf false) (inf false) h = tt
eq_turned (inf false) (inf true) h = absurd h
eq_turned (inf true) (inf false) h = absurd h
eq_turned (inf true) (inf true) h = tt
eq_turned (inf s) (fin t n d) h = absurd h
eq_turned (fin s m e) nan h = absurd h
eq_turned (fin s m e) (inf t) h = absurd h
eq_turned (fin s m e) (fin t n d) h = level_turned s t (m * up e * down d) (n * up d * down e) h

pub le_turned : (x y : Float) → T (le x y) → T (le (neg y) (neg x))
unfolding le
le_turned x y h = go (either (lt x y) (eq x y) h)
  where
    go : T (lt x y) ⊎ T (eq x y) → T (lt (neg y) (neg x) || eq (neg y) (neg x))
    go (inl l) = or_left (lt (neg y) (neg x)) (eq (neg y) (neg x)) (lt_turned x y l)
    go (inr e) = or_right (lt (neg y) (neg x)) (eq (neg y) (neg x)) (eq_turned x y e)

-- ---- a rounded fraction has the sign that it is given

odd_minus : (d q k l : ℕ) → odd d true q k l ≡ neg (odd d false q k l)
unfolding odd neg
odd_minus d zero k l = refl
odd_minus d (suc q) k l = refl

units_minus : (f : Format) (q k : ℕ) → units f true q k ≡ neg (units f false q k)
unfolding units neg
units_minus f q k = go (ltb (q * 2 ^ k) (2 ^ (low f + suc (emax f))))
  where
    go : (b : Bool) → cond b (odd (suc (prec f)) true q k (low f)) (inf true) ≡ neg (cond b (odd (suc (prec f)) false q k (low f)) (inf false))
    go true = odd_minus (suc (prec f)) q k (low f)
    go false = refl

pub round_minus : (f : Format) (a c : ℕ) → round f true a c ≡ neg (round f false a c)
round_minus f a c = round_is f true a c ∙ units_minus f _ _ ∙ ap neg (sym (round_is f false a c))

-- x has the sign s; a NaN has none
abbrev HasSign : Float → Bool → Type 0
HasSign nan s = ⊥
HasSign (inf t) s = t ≡ s
HasSign (fin t m e) s = t ≡ s

odd_sign : (d : ℕ) (s : Bool) (q k l : ℕ) → HasSign (odd d s q k l) s
unfolding odd
odd_sign d s zero k l = refl
odd_sign d s (suc q) k l = refl

units_sign : (f : Format) (s : Bool) (q k : ℕ) → HasSign (units f s q k) s
unfolding units
units_sign f s q k = go (ltb (q * 2 ^ k) (2 ^ (low f + suc (emax f))))
  where
    go : (b : Bool) → HasSign (cond b (odd (suc (prec f)) s q k (low f)) (inf s)) s
    go true = odd_sign (suc (prec f)) s q k (low f)
    go false = refl

round_sign : (f : Format) (s : Bool) (a c : ℕ) → HasSign (round f s a c) s
round_sign f s a c = rw (round_is f s a c) (units_sign f s _ _)

none_or_some : (a b : ℕ) → T (ltb 0 (a + b) || (eqb a b && (false || eqb a 0)))
none_or_some a b = go (ltb 0 (a + b)) (nltb→le 0 (a + b))
  where
    go : (c : Bool) → (T (not c) → a + b ≤ 0) → T (c || (eqb a b && (false || eqb a 0)))
    go true h = tt
    go false h =
        let z = h tt in
        let i : a ≡ b = omega arith in
        let j : a ≡ 0 = omega arith in
        and_i (eqb a b) (eqb a 0) (eq→eqb i) (eq→eqb j)

minus_plus : (x y : Float) → HasSign x true → HasSign y false → T (le x y)
unfolding le lt eq
minus_plus nan y p q = absurd p
minus_plus (inf s) nan p q = absurd q
minus_plus (inf s) (inf t) p q = rw (p, q) tt
minus_plus (inf s) (fin t n d) p q = rw p tt
minus_plus (fin s m e) nan p q = absurd q
minus_plus (fin s m e) (inf t) p q = rw q tt
minus_plus (fin s m e) (fin t n d) p q = rw (p, q) (none_or_some (m * up e * down d) (n * up d * down e))

-- ---- the double nearest to a number

-- x is what (p - n) / c rounds to; the number's size is num / den
pub record Nearest (x : Float) (p n c : ℕ) : Type 0 where
  pub sign : Bool
  pub mag : ℕ
  pub num : ℕ
  pub den : ℕ
  pub den_pos : 0 < den
  pub is : x ≡ round binary64 sign num den
  pub val : num * c ≡ mag * den
  pub gap : Gap sign mag p n

-- a number of no size
none_of : (num c den : ℕ) → 0 < c → num * c ≡ 0 * den → num ≡ 0
none_of num c den C e = eq_of_mul-eq-mul_right c C num 0 (e ∙ zero-mul den ∙ sym (zero-mul c))

pub round_none : (s : Bool) (num den : ℕ) → 0 < den → num ≡ 0 → HasValue (round binary64 s num den) s 0 (2 ^ 1074)
round_none s num den D e =
    let z : num * 2 ^ 1074 ≡ 0 * 2 ^ 0 * den = ap (λ (k : ℕ). k * 2 ^ 1074) e ∙ zero-mul (2 ^ 1074) ∙ sym (zero-mul den) in
    let v = round_exact binary64 s num den 0 0 D (lit< tt) (lit< tt) z in
    value_same (round binary64 s num den) s num den 0 (2 ^ 1074) D (sym z) v

-- Rounding keeps order.
pub nearest_mono : {x y : Float} {p n q m c : ℕ} → 0 < c → Nearest x p n c → Nearest y q m c → p + m ≤ q + n → T (le x y)
nearest_mono {p = p} {n = n} {q = q} {m = m} {c = c} C X Y h = rw (X.is, Y.is) (go X.sign Y.sign X.gap Y.gap)
  where
    across : X.mag ≤ Y.mag → X.num * Y.den ≤ Y.num * X.den
    across l = transfer X.num Y.num X.den Y.den X.mag Y.mag c c C C X.val Y.val (mul-le-mul_right c l)

    back : Y.mag ≤ X.mag → Y.num * X.den ≤ X.num * Y.den
    back l = transfer Y.num X.num Y.den X.den Y.mag X.mag c c C C Y.val X.val (mul-le-mul_right c l)

    go : (s t : Bool) → Gap s X.mag p n → Gap t Y.mag q m → T (le (round binary64 s X.num X.den) (round binary64 t Y.num Y.den))
    go false false g k = round_mono binary64 X.num X.den Y.num Y.den X.den_pos Y.den_pos (across (omega arith))
    go true true g k =
        rw (round_minus binary64 X.num X.den, round_minus binary64 Y.num Y.den)
        (le_turned _ _ (round_mono binary64 Y.num Y.den X.num X.den Y.den_pos X.den_pos (back (omega arith))))
    go true false g k =
        minus_plus (round binary64 true X.num X.den) (round binary64 false Y.num Y.den) (round_sign binary64 true X.num X.den)
        (round_sign binary64 false Y.num Y.den)
    go false true g k =
        let a : X.mag ≡ 0 = omega arith in
        let b : Y.mag ≡ 0 = omega arith in
        let v = round_none false X.num X.den X.den_pos (none_of X.num c X.den C (X.val ∙ ap (λ (z : ℕ). z * X.den) a)) in
        let w = round_none true Y.num Y.den Y.den_pos (none_of Y.num c Y.den C (Y.val ∙ ap (λ (z : ℕ). z * Y.den) b)) in
        le_of_val (val_whole v) (val_whole_negative w) (omega arith)

-- ---- a sum

module _ (x y : Float) (s t : Bool) (m n : ℕ) (v : HasValue x s m (2 ^ 1074)) (w : HasValue y t n (2 ^ 1074)) where
  add_nearest : Nearest (add binary64 x y) (P s m + P t n) (N s m + N t n) (2 ^ 1074)
  add_nearest =
      let r = add_rounds {x = x} {y = y} (val_of s m v) (val_of t n w) in
      record {
        sign = r.sign;
        mag = r.mag;
        num = r.num;
        den = r.den;
        den_pos = r.den_pos;
        is = r.is;
        val = r.val ∙ ap (λ (z : ℕ). z * r.den) (mul-one r.mag);
        gap = r.gap;
      }

-- ---- a product

product_cross : (x y l m n d e : ℕ) → x * l ≡ m * d → y * l ≡ n * e → x * y * (l * l) ≡ m * n * (d * e)
product_cross x y l m n d e X Y = let a = ap (λ (z : ℕ). z * (y * l)) X in let b = ap (λ (z : ℕ). m * d * z) Y in omega arith

own_gap : (s : Bool) (m : ℕ) → Gap s m (P s m) (N s m)
own_gap false m = omega arith
own_gap true m = omega arith

-- a factor that is not below zero leaves the other's sign
factor_gap : (s t : Bool) (m n : ℕ) → N s m ≤ P s m → Gap (unlike s t) (m * n) (P t (m * n)) (N t (m * n))
factor_gap false false m n h = own_gap false (m * n)
factor_gap false true m n h = own_gap true (m * n)
factor_gap true t m n h = let z : m ≡ 0 = omega arith in rw (z, zero-mul n) (none t)
  where
    none : (t : Bool) → Gap (unlike true t) 0 (P t 0) (N t 0)
    none false = refl
    none true = refl

mul_nearest : (x y : Float) (s t : Bool) (m n : ℕ) → HasValue x s m (2 ^ 1074) → HasValue y t n (2 ^ 1074) → N s m ≤ P s m
    → Nearest (mul binary64 x y) (P t (m * n)) (N t (m * n)) (2 ^ 1074 * 2 ^ 1074)
unfolding mul
mul_nearest nan y s t m n v w h = absurd v
mul_nearest (inf b) y s t m n v w h = absurd v
mul_nearest (fin b i e) nan s t m n v w h = absurd w
mul_nearest (fin b i e) (inf c) s t m n v w h = absurd w
mul_nearest (fin b i e) (fin c j d) s t m n v w h =
    record {
      sign = unlike s t;
      mag = m * n;
      num = i * up e * (j * up d);
      den = down e * down d;
      den_pos = mul-pos (down_pos e) (down_pos d);
      is = rw (v.0, w.0);
      val = product_cross (i * up e) (j * up d) (2 ^ 1074) m n (down e) (down d) v.1 w.1;
      gap = factor_gap s t m n h;
    }

-- k times two numbers
times_order : (k m n : ℕ) (s t : Bool) → P s m + N t n ≤ P t n + N s m → P s (k * m) + N t (k * n) ≤ P t (k * n) + N s (k * m)
times_order k m n false false h = let l : m ≤ n = omega arith in let g = mul-le-mul_left k l in omega arith
times_order k m n false true h = let a : m ≡ 0 = omega arith in let b : n ≡ 0 = omega arith in rw (a, b) (omega arith)
times_order k m n true false h = omega arith
times_order k m n true true h = let l : n ≤ m = omega arith in let g = mul-le-mul_left k l in omega arith

-- ---- finite doubles

-- x is ±m of the smallest doubles
pub record Units (x : Float) : Type 0 where
  pub s : Bool
  pub m : ℕ
  pub val : HasValue x s m (2 ^ 1074)

-- ---- the laws

module _ {x y z : Float} (X : Units x) (Y : Units y) (Z : Units z) (h : AtMost y z) where
  compared : P Y.s Y.m + N Z.s Z.m ≤ P Z.s Z.m + N Y.s Y.m
  compared = val_of_le (val_of Y.s Y.m Y.val) (val_of Z.s Z.m Z.val) (passes (le y z) h)

  -- x + y ≤ x + z
  pub add_order : AtMost (add binary64 x y) (add binary64 x z)
  add_order =
      is_true (le (add binary64 x y) (add binary64 x z))
      (nearest_mono (pow_pos 1074) (add_nearest x y X.s Y.s X.m Y.m X.val Y.val)
      (add_nearest x z X.s Z.s X.m Z.m X.val Z.val)
      (beside (P X.s X.m) (N X.s X.m) (P Y.s Y.m) (N Y.s Y.m) (P Z.s Z.m) (N Z.s Z.m) compared))
    where
      beside : (a b p n q m : ℕ) → p + m ≤ q + n → a + p + (b + m) ≤ a + q + (b + n)
      beside a b p n q m g = omega arith

  -- x × y ≤ x × z, for an x that is not below zero
  pub mul_order : N X.s X.m ≤ P X.s X.m → AtMost (mul binary64 x y) (mul binary64 x z)
  mul_order g =
      is_true (le (mul binary64 x y) (mul binary64 x z))
      (nearest_mono (mul-pos (pow_pos 1074) (pow_pos 1074)) (mul_nearest x y X.s Y.s X.m Y.m X.val Y.val g)
      (mul_nearest x z X.s Z.s X.m Z.m X.val Z.val g) (times_order X.m Y.m Z.m Y.s Z.s compared))

pub neg_units : {x : Float} → Units x → Units (neg x)
neg_units {x = x} X = record { s = not X.s; m = X.m; val = neg_value x X.s X.m X.val }

-- x - z ≤ x - y where y ≤ z
pub sub_order : {x y z : Float} → Units x → Units y → Units z → AtMost y z → AtMost (sub binary64 x z) (sub binary64 x y)
unfolding sub
sub_order {x = x} {y = y} {z = z} X Y Z h =
    add_order X (neg_units Z) (neg_units Y) (is_true (le (neg z) (neg y)) (le_turned y z (passes (le y z) h)))

-- ---- what is not below zero

pub record NotBelow (x : Float) : Type 0 where
  pub units : Units x
  pub sign : N units.s units.m ≤ P units.s units.m
