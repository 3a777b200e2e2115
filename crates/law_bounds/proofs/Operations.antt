-- The operations on intervals hold what the operations on doubles give. Assumes nothing.
use mathlib.Core.Path.{◌≡◌, refl, sym, ap, ◌∙◌, subst}
use mathlib.Core.Bool.{Bool, true, false, not, ◌&&◌, cond}
use Prim.Native.Nat.{ℕ, ◌+◌, ◌-◌, ◌*◌, ◌/◌, ◌^◌, ◌≤◌, ◌<◌, max}
use native.Mathlib.Nat.{le_refl, le_of_eq, le_trans, lt_of_lt_of_le, mul-pos, mul-one, mul-le-mul, mul-le-mul_left, mul-le-mul_right}
use native.Mathlib.Nat.{le_of_mul-le-mul_right, eq_of_mul-eq-mul_right, div-mul-le_self, div-add-mod', mod-lt, le-max_left, le-max_right}
use native.Mathlib.Omega.{arith}
use borrow.Author.Tests.{le-leb, ne_eqb}
use lib.Dec.{T, leb, ltb, eqb, lit<, leb→le, ltb→lt, eqb→eq}
use lib.Pow.{pow_pos}
use lib.Ieee.{Float, nan, inf, fin, binary64, unlike, up, down, add, sub, mul, div, neg}
use lib.Ieee.Exact.{HasValue}
use lib.Ieee.Fits.{down_pos, and_l, and_r}
use lib.Ieee.Positive.{first_pos}
use lib.Ieee.Scale.{finite}
use Rattle.pxfm.proofs.Value.{Gap, Val, add_rounds}
use Rattle.law_bounds.specs.Interval.{Interval, P, N, Holds, Inside, In, SizeAtMost, ranged, between, about}
use Rattle.law_bounds.proofs.Arithmetic.{limit, raised, lowered, span, least, depth, height, most, outward, sum_b, add_b, neg_b, sub_b, over, mul_b, share}
use Rattle.law_bounds.proofs.Arithmetic.{div_b, point_b, within}
use Rattle.law_bounds.proofs.Rounding.{Rounded, rounded, at_most, at_least}

-- ---- sizes

sizes : (b : Interval) (s : Bool) (m : ℕ) → Holds b s m → (least b ≤ m) × (m ≤ cond s (depth b) (height b)) × (m ≤ most b)
sizes b false m h = omega (arith, h.low, h.high)
sizes b true m h = omega (arith, h.low, h.high)

module _ {x : Float} {b : Interval} (v : Inside x b) where
  pub least_le : least b ≤ v.m
  least_le = (sizes b v.s v.m v.holds).0

  pub le_side : v.m ≤ cond v.s (depth b) (height b)
  le_side = (sizes b v.s v.m v.holds).1

  pub le_most : v.m ≤ most b
  le_most = (sizes b v.s v.m v.holds).2

pub span_holds : (o : Bool) (l d u : ℕ) (s : Bool) (m : ℕ) → l ≤ m → m ≤ cond s d u → Holds (span o l d u) s m
span_holds o l d u s m i j = go s (eqb d 0) (eqb→eq d 0) (eqb u 0) (eqb→eq u 0) j
  where
    go : (s x : Bool) → (T x → d ≡ 0) → (y : Bool) → (T y → u ≡ 0) → m ≤ cond s d u
        → Holds (record { ok = o; lp = cond x l 0; ln = d; hp = u; hn = cond y l 0 }) s m
    go false true f true g j = let z = g tt in record { low = omega arith; high = omega arith }
    go false true f false g j = record { low = omega arith; high = omega arith }
    go false false f true g j = let z = g tt in record { low = omega arith; high = omega arith }
    go false false f false g j = record { low = omega arith; high = omega arith }
    go true true f true g j = let z = f tt in record { low = omega arith; high = omega arith }
    go true true f false g j = let z = f tt in record { low = omega arith; high = omega arith }
    go true false f true g j = record { low = omega arith; high = omega arith }
    go true false f false g j = record { low = omega arith; high = omega arith }

pub ranged_holds : (o : Bool) (l h m : ℕ) → l ≤ m → m ≤ h → Holds (ranged o l h) false m
ranged_holds o l h m i j = record { low = omega arith; high = omega arith }

-- a rounded fraction with the sign s, between l and d or u
rounded_inside : {x : Float} {s : Bool} {n c : ℕ} (o : Bool) (l d u : ℕ) → 0 < c → Rounded x s n c → l * c ≤ n → n ≤ cond s d u * c
    → Inside x (span o (lowered l) (raised d) (raised u))
rounded_inside {s = s} o l d u C r i j =
    let h = span_holds o (lowered l) (raised d) (raised u) s r.m (at_least r C l i) (top s (at_most r C (cond s d u) j)) in
    record { s = s; m = r.m; val = r.val; holds = h }
  where
    top : (s : Bool) {m : ℕ} → m ≤ raised (cond s d u) → m ≤ cond s (raised d) (raised u)
    top false h = h
    top true h = h

-- ---- a sum

pub val_of : {x : Float} (s : Bool) (m : ℕ) → HasValue x s m (2 ^ 1074) → Val binary64 x (P s m) (N s m) 0
val_of {x = x} s m v =
    record { sign = s; mag = m; val = subst (λ (z : ℕ). HasValue x s z (2 ^ 1074)) (sym (mul-one m)) v; gap = gap s }
  where
    gap : (s : Bool) → Gap s m (P s m) (N s m)
    gap false = omega arith
    gap true = omega arith

-- z is the sum of ±m and ±n, which is ±k, rounded
pub record Summed (z : Float) (s t : Bool) (m n : ℕ) : Type 0 where
  pub u : Bool
  pub k : ℕ
  pub near : k ≤ limit → Rounded z u k 1
  pub gap : Gap u k (P s m + P t n) (N s m + N t n)

pub sum_of : (x y : Float) (s t : Bool) (m n : ℕ) → HasValue x s m (2 ^ 1074) → HasValue y t n (2 ^ 1074) → Summed (add binary64 x y) s t m n
sum_of x y s t m n v w =
    let r = add_rounds {x = x} {y = y} (val_of s m v) (val_of t n w) in
    record {
      u = r.sign;
      k = r.mag;
      near = λ h.
          rw r.is
          (rounded r.sign r.num r.den r.mag 1 r.den_pos (lit< tt) (unit (r.num * 2 ^ 1074) r.mag r.den r.val)
          (wide r.mag limit h));
      gap = r.gap;
    }
  where
    unit : (a k c : ℕ) → a ≡ k * 2 ^ 0 * c → a * 1 ≡ k * c
    unit a k c e = mul-one a ∙ e ∙ ap (λ (z : ℕ). z * c) (mul-one k)

    wide : (k l : ℕ) → k ≤ l → k ≤ l * 1
    wide k l h = omega arith

pub sum_holds : (a b : Interval) (s t u : Bool) (m n k : ℕ) → Holds a s m → Holds b t n → Gap u k (P s m + P t n) (N s m + N t n) → Holds (sum_b a b) u k
sum_holds a b s t false m n k h g e = record { low = omega (arith, h.low, g.low); high = omega (arith, h.high, g.high) }
sum_holds a b s t true m n k h g e = record { low = omega (arith, h.low, g.low); high = omega (arith, h.high, g.high) }

top_of : (b : Interval) (s : Bool) (k : ℕ) → Holds b s k → k ≤ b.ln + b.hp
top_of b false k h = omega (arith, h.high)
top_of b true k h = omega (arith, h.low)

outward_holds : (b : Interval) (s : Bool) (k r : ℕ) → Holds b s k → ((l : ℕ) → l * 1 ≤ k → lowered l ≤ r) → ((h : ℕ) → k ≤ h * 1 → r ≤ raised h)
    → Holds (outward b) s r
unfolding lowered
outward_holds b s k r h low high = go s h
  where
    above : {i r : ℕ} (j : ℕ) → i ≤ r → (i + 0 ≤ r + j) × (0 + i ≤ j + r)
    above j h = omega arith

    below : {r j z : ℕ} → r ≤ j → z ≡ 0 → (r + z ≤ j + 0) × (z + r ≤ 0 + j)
    below h e = omega arith

    go : (s : Bool) → Holds b s k → Holds (outward b) s r
    go false h =
        let i = low (b.lp - b.ln) (omega (arith, h.low)) in
        let j = high (b.hp - b.hn) (omega (arith, h.high)) in
        let z : b.hn - b.hp ≡ 0 = omega (arith, h.high) in
        record { low = (above (raised (b.ln - b.lp)) i).0; high = (below j (ap lowered z)).0 }
    go true h =
        let i = low (b.hn - b.hp) (omega (arith, h.high)) in
        let j = high (b.ln - b.lp) (omega (arith, h.low)) in
        let z : b.lp - b.ln ≡ 0 = omega (arith, h.low) in
        record { low = (below j (ap lowered z)).1; high = (above (raised (b.hp - b.hn)) i).1 }

pub add_in : {x y : Float} {a b : Interval} → In x a → In y b → In (add binary64 x y) (add_b a b)
unfolding add_b
add_in {x = x} {y = y} {a = a} {b = b} p q =
    record { at = λ t. let o = and_l (a.ok && b.ok) _ t in go (and_r (a.ok && b.ok) _ t) (p.at (and_l a.ok _ o)) (q.at (and_r a.ok _ o)) }
  where
    go : T (leb (a.ln + b.ln + (a.hp + b.hp)) limit) → Inside x a → Inside y b → Inside (add binary64 x y) (outward (sum_b a b))
    go t v w =
        let z = sum_of x y v.s w.s v.m w.m v.val w.val in
        let h = sum_holds a b v.s w.s z.u v.m w.m z.k v.holds w.holds z.gap in
        let r = z.near (le_trans (top_of (sum_b a b) z.u z.k h) (leb→le _ _ t)) in
        record { s = z.u; m = r.m; val = r.val; holds = outward_holds (sum_b a b) z.u z.k r.m h (at_least r (lit< tt)) (at_most r (lit< tt)) }

-- ---- the other sign, and a difference

pub neg_value : (x : Float) (s : Bool) (m : ℕ) → HasValue x s m (2 ^ 1074) → HasValue (neg x) (not s) m (2 ^ 1074)
unfolding neg
neg_value nan s m v = v
neg_value (inf t) s m v = v
neg_value (fin t n e) s m v = (ap not v.0, v.1)

pub neg_inside : {x : Float} {b : Interval} → Inside x b → Inside (neg x) (neg_b b)
unfolding neg_b
neg_inside {x = x} {b = b} v = record { s = not v.s; m = v.m; val = neg_value x v.s v.m v.val; holds = go v.s v.holds }
  where
    go : (s : Bool) → Holds b s v.m → Holds (neg_b b) (not s) v.m
    go false h = record { low = omega (arith, h.high); high = omega (arith, h.low) }
    go true h = record { low = omega (arith, h.high); high = omega (arith, h.low) }

pub neg_in : {x : Float} {a : Interval} → In x a → In (neg x) (neg_b a)
unfolding neg_b
neg_in p = record { at = λ t. neg_inside (p.at t) }

pub sub_in : {x y : Float} {a b : Interval} → In x a → In y b → In (sub binary64 x y) (sub_b a b)
unfolding sub sub_b
sub_in p q = add_in p (neg_in q)

-- ---- a product

pub over_mul : (a b : ℕ) → 0 < b → a ≤ over a b * b
over_mul a b B = let r = div-add-mod' (a + (b - 1)) b in let t = mod-lt (a + (b - 1)) B in omega arith

-- x and y are m and n units of 1 / l
crossed : (x y l m n d e : ℕ) → x * l ≡ m * d → y * l ≡ n * e → x * y * l * l ≡ m * n * (d * e)
crossed x y l m n d e X Y = let a = ap (λ (z : ℕ). z * (y * l)) X in let b = ap (λ (z : ℕ). m * d * z) Y in omega arith

pub mul_rounded : (x y : Float) (s t : Bool) (m n : ℕ) → HasValue x s m (2 ^ 1074) → HasValue y t n (2 ^ 1074) → m * n ≤ limit * 2 ^ 1074
    → Rounded (mul binary64 x y) (unlike s t) (m * n) (2 ^ 1074)
unfolding mul
mul_rounded nan y s t m n v w h = absurd v
mul_rounded (inf b) y s t m n v w h = absurd v
mul_rounded (fin b i e) nan s t m n v w h = absurd w
mul_rounded (fin b i e) (inf c) s t m n v w h = absurd w
mul_rounded (fin b i e) (fin c j d) s t m n v w h =
    rw (v.0, w.0)
    (rounded (unlike s t) (i * up e * (j * up d)) (down e * down d) (m * n) (2 ^ 1074) (mul-pos (down_pos e) (down_pos d)) (pow_pos 1074)
    (crossed (i * up e) (j * up d) (2 ^ 1074) m n (down e) (down d) v.1 w.1) h)

-- the bound of a product, by the signs
product_side : (i j k l : ℕ) (s t : Bool) (m n : ℕ) → m ≤ cond s i j → n ≤ cond t k l
    → m * n ≤ cond (unlike s t) (max (j * k) (i * l)) (max (j * l) (i * k))
product_side i j k l false false m n p q = le_trans (mul-le-mul p q) (le-max_left (j * l) (i * k))
product_side i j k l false true m n p q = le_trans (mul-le-mul p q) (le-max_left (j * k) (i * l))
product_side i j k l true false m n p q = le_trans (mul-le-mul p q) (le-max_right (j * k) (i * l))
product_side i j k l true true m n p q = le_trans (mul-le-mul p q) (le-max_right (j * l) (i * k))

side_over : (s : Bool) (k i j c : ℕ) → 0 < c → k ≤ cond s i j → k ≤ cond s (over i c) (over j c) * c
side_over false k i j c C h = le_trans h (over_mul j c C)
side_over true k i j c C h = le_trans h (over_mul i c C)

side_limit : (s : Bool) (k d u c l : ℕ) → k ≤ cond s d u * c → d + u ≤ l → k ≤ l * c
side_limit false k d u c l h t = le_trans h (mul-le-mul_right c (omega arith))
side_limit true k d u c l h t = le_trans h (mul-le-mul_right c (omega arith))

pub mul_in : {x y : Float} {a b : Interval} → In x a → In y b → In (mul binary64 x y) (mul_b a b)
unfolding mul_b
mul_in {x = x} {y = y} {a = a} {b = b} p q =
    record {
      at = λ t.
          let o = and_l (a.ok && b.ok) _ t in
          go (leb→le _ _ (and_r (a.ok && b.ok) _ t)) (p.at (and_l a.ok _ o)) (q.at (and_r a.ok _ o));
    }
  where
    l : ℕ
    l = 2 ^ 1074

    D : ℕ
    D = max (height a * depth b) (depth a * height b)

    U : ℕ
    U = max (height a * height b) (depth a * depth b)

    go : over D l + over U l ≤ limit → Inside x a → Inside y b → Inside (mul binary64 x y) (mul_b a b)
    go t v w =
        let k = product_side (depth a) (height a) (depth b) (height b) v.s w.s v.m w.m (le_side v) (le_side w) in
        let j = side_over (unlike v.s w.s) (v.m * w.m) D U l (pow_pos 1074) k in
        let r = mul_rounded x y v.s w.s v.m w.m v.val w.val (side_limit (unlike v.s w.s) _ _ _ l limit j t) in
        rounded_inside _ (least a * least b / l) (over D l) (over U l) (pow_pos 1074) r
        (le_trans (div-mul-le_self (least a * least b) l) (mul-le-mul (least_le v) (least_le w))) j

-- ---- a quotient

divided : (x y l m n d e : ℕ) → 0 < l → x * l ≡ m * d → y * l ≡ n * e → x * e * n ≡ m * (y * d)
divided x y l m n d e L X Y =
    let a = ap (λ (z : ℕ). z * (e * n)) X in
    let b = ap (λ (z : ℕ). m * d * z) Y in
    eq_of_mul-eq-mul_right l L (x * e * n) (m * (y * d)) (omega arith)

-- a divisor of n units is not zero
not_zero : (y l n e : ℕ) → 0 < n → 0 < e → y * l ≡ n * e → 0 < y
not_zero y l n e N E Y = first_pos y l (lt_of_lt_of_le (mul-pos N E) (le_of_eq (sym Y)))

pub div_rounded : (x y : Float) (s t : Bool) (m n : ℕ) → HasValue x s m (2 ^ 1074) → HasValue y t n (2 ^ 1074) → 0 < n → m * 2 ^ 1074 ≤ limit * n
    → Rounded (div binary64 x y) (unlike s t) (m * 2 ^ 1074) n
unfolding div
div_rounded nan y s t m n v w N h = absurd v
div_rounded (inf b) y s t m n v w N h = absurd v
div_rounded (fin b i e) nan s t m n v w N h = absurd w
div_rounded (fin b i e) (inf c) s t m n v w N h = absurd w
div_rounded (fin b i e) (fin c j d) s t m n v w N h =
    let Y = not_zero (j * up d) (2 ^ 1074) n (down d) N (down_pos d) w.1 in
    let f = divided (i * up e) (j * up d) (2 ^ 1074) m n (down e) (down d) (pow_pos 1074) v.1 w.1 in
    rw (ne_eqb j 0 (λ (z : j ≡ 0). some j (up d) z Y), v.0, w.0)
    (rounded (unlike s t) (i * up e * down d) (j * up d * down e) (m * 2 ^ 1074) n (mul-pos Y (down_pos e)) N
    (units (i * up e * down d) (2 ^ 1074) n m (j * up d * down e) f) h)
  where
    some : (j u : ℕ) → j ≡ 0 → 0 < j * u → ⊥
    some j u z p = let q = first_pos j u p in omega arith

    units : (x l n m y : ℕ) → x * n ≡ m * y → x * l * n ≡ m * l * y
    units x l n m y h = let k = ap (λ (z : ℕ). z * l) h in omega arith

share_over : (m i n j k : ℕ) → 0 < k → m ≤ i → n ≤ j → k ≤ n → m * 2 ^ 1074 ≤ share i j k * n
share_over m i n j k K p q r =
    rw (le-leb k j (le_trans r q))
    (le_trans (mul-le-mul_right (2 ^ 1074) p) (le_trans (over_mul (i * 2 ^ 1074) k K) (mul-le-mul_left (over (i * 2 ^ 1074) k) r)))

quotient_side : (i j k l c : ℕ) → 0 < c → (s t : Bool) (m n : ℕ) → m ≤ cond s i j → n ≤ cond t k l → c ≤ n
    → m * 2 ^ 1074 ≤ cond (unlike s t) (max (share j k c) (share i l c)) (max (share j l c) (share i k c)) * n
quotient_side i j k l c C false false m n p q r = le_trans (share_over m j n l c C p q r) (mul-le-mul_right n (le-max_left (share j l c) (share i k c)))
quotient_side i j k l c C false true m n p q r = le_trans (share_over m j n k c C p q r) (mul-le-mul_right n (le-max_left (share j k c) (share i l c)))
quotient_side i j k l c C true false m n p q r = le_trans (share_over m i n l c C p q r) (mul-le-mul_right n (le-max_right (share j k c) (share i l c)))
quotient_side i j k l c C true true m n p q r = le_trans (share_over m i n k c C p q r) (mul-le-mul_right n (le-max_right (share j l c) (share i k c)))

pub div_in : {x y : Float} {a b : Interval} → In x a → In y b → In (div binary64 x y) (div_b a b)
unfolding div_b
div_in {x = x} {y = y} {a = a} {b = b} p q =
    record {
      at = λ t.
          let o = and_l (a.ok && b.ok && ltb 0 (least b)) _ t in
          let o2 = and_l (a.ok && b.ok) _ o in
          let d = leb→le _ _ (and_r (a.ok && b.ok && ltb 0 (least b)) _ t) in
          go d (ltb→lt _ _ (and_r (a.ok && b.ok) _ o)) (p.at (and_l a.ok _ o2)) (q.at (and_r a.ok _ o2));
    }
  where
    k : ℕ
    k = least b

    D : ℕ
    D = max (share (height a) (depth b) k) (share (depth a) (height b) k)

    U : ℕ
    U = max (share (height a) (height b) k) (share (depth a) (depth b) k)

    go : D + U ≤ limit → 0 < k → Inside x a → Inside y b → Inside (div binary64 x y) (div_b a b)
    go t K v w =
        let r = least_le w in
        let j = quotient_side (depth a) (height a) (depth b) (height b) k K v.s w.s v.m w.m (le_side v) (le_side w) r in
        let N = lt_of_lt_of_le K r in
        let z = div_rounded x y v.s w.s v.m w.m v.val w.val N (side_limit (unlike v.s w.s) _ D U w.m limit j t) in
        let i = least a * 2 ^ 1074 / most b in
        rounded_inside _ i D U N z
        (le_trans (mul-le-mul_left i (le_most w))
        (le_trans (div-mul-le_self (least a * 2 ^ 1074) (most b)) (mul-le-mul_right (2 ^ 1074) (least_le v)))) j

-- ---- one double, and a wider interval

pub point_in : (x : Float) → In x (point_b x)
unfolding point_b
point_in nan = record { at = λ t. absurd t }
point_in (inf s) = record { at = λ t. absurd t }
point_in (fin s m e) =
    let k = m * up e * 2 ^ 1074 / down e in
    record { at = λ t. record { s = s; m = k; val = (refl, sym (eqb→eq _ _ t)); holds = span_holds _ k (cond s k 0) (cond s 0 k) s k (le_refl k) (own s k) } }
  where
    own : (s : Bool) (k : ℕ) → k ≤ cond s (cond s k 0) (cond s 0 k)
    own false k = le_refl k
    own true k = le_refl k

pub to : {x : Float} {a : Interval} (b : Interval) → Inside x a → b.lp + a.ln ≤ a.lp + b.ln → a.hp + b.hn ≤ b.hp + a.hn → Inside x b
to b v i j =
    record { s = v.s; m = v.m; val = v.val; holds = record { low = omega (arith, v.holds.low); high = omega (arith, v.holds.high) } }

pub widen : {x : Float} {a : Interval} (b : Interval) → T (within a b) → In x a → In x b
widen {x = x} {a = a} b t p =
    let l = and_l (a.ok && leb (b.lp + a.ln) (a.lp + b.ln)) _ t in
    let i = leb→le _ _ (and_r a.ok _ l) in
    let j = leb→le _ _ (and_r (a.ok && leb (b.lp + a.ln) (a.lp + b.ln)) _ t) in
    let v = p.at (and_l a.ok _ l) in
    record { at = λ u. to b v i j }

pub finite_of : {x : Float} {b : Interval} → In x b → T b.ok → T (finite x)
finite_of {x = nan} p t = absurd (p.at t).val
finite_of {x = inf s} p t = absurd (p.at t).val
finite_of {x = fin s m e} p t = tt

-- what an interval around zero says of the size
pub size_at_most : {x : Float} (k : ℕ) → In x (about true (k * 2 ^ 1074)) → SizeAtMost x k
size_at_most {x = x} k p = let v = p.at tt in go x v.s v.m v.val (sizes (about true (k * 2 ^ 1074)) v.s v.m v.holds).2
  where
    size : (n d m l h : ℕ) → 0 < l → n * l ≡ m * d → m ≤ h → h ≡ k * l → n ≤ k * d
    size n d m l h L e i j = let q = mul-le-mul_right d i in let r = ap (λ (z : ℕ). z * d) j in le_of_mul-le-mul_right {k = l} (omega arith) L

    go : (x : Float) (s : Bool) (m : ℕ) → HasValue x s m (2 ^ 1074) → m ≤ max (k * 2 ^ 1074 - 0) (k * 2 ^ 1074 - 0) → SizeAtMost x k
    go nan s m v h = absurd v
    go (inf t) s m v h = absurd v
    go (fin t n e) s m v h =
        record { is_finite = tt; size = size (n * up e) (down e) m (2 ^ 1074) _ (pow_pos 1074) v.1 h (same (k * 2 ^ 1074)) }
      where
        same : (a : ℕ) → max (a - 0) (a - 0) ≡ a
        same a = omega arith

-- ---- a double above zero, as its number of units

pub record Counted (x : Float) (l h : ℕ) : Type 0 where
  pub n : ℕ
  pub val : HasValue x false n (2 ^ 1074)
  pub low : l ≤ n
  pub high : n ≤ h

pub counted : {x : Float} (l h : ℕ) → 0 < l → In x (between l h) → Counted x l h
counted {x = x} l h p i = let v = i.at tt in go v.s v.m v.val v.holds
  where
    go : (s : Bool) (m : ℕ) → HasValue x s m (2 ^ 1074) → Holds (between l h) s m → Counted x l h
    go true m v w = absurd (no w.low)
      where
        no : l + m ≤ 0 + 0 → ⊥
        no q = omega arith
    go false m v w = record { n = m; val = v; low = plain w.low; high = plain w.high }
      where
        plain : {i j : ℕ} → i + 0 ≤ j + 0 → i ≤ j
        plain q = omega arith

pub counted_in : {x : Float} (l h n : ℕ) → HasValue x false n (2 ^ 1074) → l ≤ n → n ≤ h → In x (between l h)
counted_in l h n v i j = record { at = λ t. record { s = false; m = n; val = v; holds = ranged_holds true l h n i j } }
