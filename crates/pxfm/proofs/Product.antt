-- The number that a product rounds, and the same number said in another pair.
-- The units' exponents add up: 2 ^ i units times 2 ^ k units are 2 ^ j units, with i + k = j + low. Assumes nothing.
use Rattle.std.proofs.Common.{◌≡◌, ℕ, ◌+◌, ◌*◌, ◌^◌, ◌<◌, Bool, true, false, sym, ap, ◌∙◌, mul-pos, arith, pow_pos, pow-add}
use native.Mathlib.Nat.{eq_of_mul-eq-mul_right}
use lib.Ieee.{Float, nan, inf, fin, Format, low, up, down, unlike, round, mul}
use lib.Ieee.Fits.{down_pos}
use Rattle.pxfm.proofs.Value.{Gap, Val, Rounds, gap_same}

-- ---- the same number

pub rounds_same : {f : Format} {x : Float} {p n j : ℕ} (p' n' : ℕ) → p + n' ≡ p' + n → Rounds f x p n j → Rounds f x p' n' j
rounds_same {p = p} {n = n} p' n' e v =
    record {
      sign = v.sign;
      mag = v.mag;
      num = v.num;
      den = v.den;
      den_pos = v.den_pos;
      is = v.is;
      val = v.val;
      gap = gap_same v.sign v.mag p n p' n' e v.gap;
    }

-- ---- products

pub cross_gap : (a b p n q m : ℕ) → a + n ≡ p → b + m ≡ q → a * b + (p * m + n * q) ≡ p * q + n * m
cross_gap a b p n q m h k = rw (← h, ← k) (omega arith)

gap_mul : (s t : Bool) (a b p n q m : ℕ) → Gap s a p n → Gap t b q m → Gap (unlike s t) (a * b) (p * q + n * m) (p * m + n * q)
gap_mul false false a b p n q m h k = cross_gap a b p n q m h k
gap_mul false true a b p n q m h k = cross_gap a b p n m q h k
gap_mul true false a b p n q m h k = let e = cross_gap a b n p q m h k in omega arith
gap_mul true true a b p n q m h k = let e = cross_gap a b n p m q h k in omega arith

-- The sizes x / d and y / e are q * u and r * v times 1 / l, so their product is q * r * w times it.
size_mul : (x y l q u d r v e w : ℕ) → 0 < l → x * l ≡ q * u * d → y * l ≡ r * v * e → u * v ≡ w * l → x * y * l ≡ q * r * w * (d * e)
size_mul x y l q u d r v e w L h k g =
    eq_of_mul-eq-mul_right l L (x * y * l) (q * r * w * (d * e))
    (let a : x * y * l * l ≡ x * l * (y * l) = omega arith in
    let b : q * u * d * (r * v * e) ≡ q * r * (u * v) * (d * e) = omega arith in
    let c : q * r * (w * l) * (d * e) ≡ q * r * w * (d * e) * l = omega arith in
    a ∙ ap (λ (z : ℕ). z * (y * l)) h ∙ ap (λ (z : ℕ). q * u * d * z) k ∙ b ∙ ap (λ (z : ℕ). q * r * z * (d * e)) g ∙ c)

pub mul_rounds : {f : Format} {x y : Float} {p n q m i k : ℕ} (j : ℕ) → i + k ≡ j + low f → Val f x p n i → Val f y q m k
    → Rounds f (mul f x y) (p * q + n * m) (p * m + n * q) j
unfolding mul
mul_rounds {x = nan} j e v w = absurd v.val
mul_rounds {x = inf a} j e v w = absurd v.val
mul_rounds {x = fin a b c} {y = nan} j e v w = absurd w.val
mul_rounds {x = fin a b c} {y = inf d} j e v w = absurd w.val
mul_rounds {f = f} {x = fin a b c} {y = fin a' b' c'} {p = p} {n = n} {q = q} {m = m} {i = i} {k = k} j e v w =
    let num = b * up c * (b' * up c') in
    let den = down c * down c' in
    record {
      sign = unlike v.sign w.sign;
      mag = v.mag * w.mag;
      num = num;
      den = den;
      den_pos = mul-pos (down_pos c) (down_pos c');
      is =
          ap (λ (z : Bool). round f (unlike z a') num den) v.val.0
          ∙ ap (λ (z : Bool). round f (unlike v.sign z) num den) w.val.0;
      val =
          size_mul (b * up c) (b' * up c') (2 ^ low f) v.mag (2 ^ i) (down c) w.mag (2 ^ k) (down c') (2 ^ j) (pow_pos (low f))
          v.val.1 w.val.1 (sym (pow-add 2 i k) ∙ ap (λ (z : ℕ). 2 ^ z) e ∙ pow-add 2 j (low f));
      gap = gap_mul v.sign w.sign v.mag w.mag p n q m v.gap w.gap;
    }
