-- Pairs of doubles, low part and high part, and the arithmetic on them (document 01, src/double_double.rs).
-- Each line is one rounded operation of IEEE 754, in the order in which the Rust takes them where there is no fma.
use Rattle.std.specs.Prelude.{ℕ, from_bits, Float}
use Rattle.std.specs.Float.{nan, binary64}
use Rattle.std.specs.Float.Ieee.{neg, add, sub, mul, div}
use Rattle.sqrt.specs.Sqrt.{sqrt_of}
use Rattle.pxfm.specs.declared.double_double.DoubleDouble.{DoubleDouble}
use Rattle.pxfm.specs.declared.double_double.BitPair.{BitPair}

-- The pair with these parts.
abbrev pub new_of : Float → Float → DoubleDouble
new_of lo hi = record { lo = lo; hi = hi }

-- The bit patterns of a pair.
abbrev pub bit_pair : ℕ → ℕ → BitPair
bit_pair lo hi = record { lo = lo; hi = hi }

-- The pair with these bit patterns.
unfoldable pub from_bit_pair : BitPair → DoubleDouble
from_bit_pair pair = new_of (from_bits binary64 pair.lo) (from_bits binary64 pair.hi)

-- A pair of NaN.
abbrev pub nan_pair : DoubleDouble
nan_pair = new_of nan nan

-- The double 1.
abbrev pub one : Float
one = from_bits binary64 0x3ff0_0000_0000_0000

-- The double 2.
abbrev pub two : Float
two = from_bits binary64 0x4000_0000_0000_0000

-- Both parts with the other sign.
unfoldable pub neg_of : DoubleDouble → DoubleDouble
neg_of a = new_of (neg a.lo) (neg a.hi)

-- Veltkamp's splitting, by 2 ^ 27 + 1.
unfoldable pub split_of : Float → DoubleDouble
split_of a =
    let t1 = mul binary64 (from_bits binary64 0x41a0_0000_0200_0000) a in
    let t2 = sub binary64 a t1 in
    let hi = add binary64 t1 t2 in
    new_of (sub binary64 a hi) hi

-- TwoProduct, by Dekker's steps. It is not symmetric: the low part takes a's high half first.
unfoldable pub from_exact_mult : Float → Float → DoubleDouble
from_exact_mult a b =
    let sa = split_of a in
    let sb = split_of b in
    let hi = mul binary64 a b in
    let t1 = sub binary64 (mul binary64 sa.hi sb.hi) hi in
    let t2 = add binary64 (mul binary64 sa.hi sb.lo) t1 in
    let t3 = add binary64 (mul binary64 sa.lo sb.hi) t2 in
    new_of (add binary64 (mul binary64 sa.lo sb.lo) t3) hi

-- Fast2Sum: the sum of two doubles and what its rounding loses, the larger one first.
unfoldable pub from_exact_add : Float → Float → DoubleDouble
from_exact_add a b =
    let hi = add binary64 a b in
    let t = sub binary64 hi a in
    new_of (sub binary64 b t) hi

-- TwoSum: the same, whichever is larger.
unfoldable pub from_full_exact_add : Float → Float → DoubleDouble
from_full_exact_add a b =
    let hi = add binary64 a b in
    let t1 = sub binary64 hi a in
    let t2 = sub binary64 hi t1 in
    let t3 = sub binary64 b t1 in
    let t4 = sub binary64 a t2 in
    new_of (add binary64 t3 t4) hi

-- TwoSum of a and -b.
unfoldable pub from_full_exact_sub : Float → Float → DoubleDouble
from_full_exact_sub a b =
    let hi = sub binary64 a b in
    let t1 = sub binary64 hi a in
    let t2 = sub binary64 hi t1 in
    let t3 = sub binary64 (neg b) t1 in
    let t4 = sub binary64 a t2 in
    new_of (add binary64 t3 t4) hi

-- a + b
unfoldable pub full_add_f64 : DoubleDouble → Float → DoubleDouble
full_add_f64 a b =
    let t = from_full_exact_add a.hi b in
    new_of (add binary64 a.lo t.lo) t.hi

-- b + a, for a b that is larger.
unfoldable pub f64_add : Float → DoubleDouble → DoubleDouble
f64_add b a =
    let t = from_exact_add b a.hi in
    new_of (add binary64 a.lo t.lo) t.hi

-- a × b: the two cross products are summed before they join the low part.
unfoldable pub quick_mult : DoubleDouble → DoubleDouble → DoubleDouble
quick_mult a b =
    let c = from_exact_mult a.hi b.hi in
    let cross = add binary64 (mul binary64 a.hi b.lo) (mul binary64 a.lo b.hi) in
    new_of (add binary64 c.lo cross) c.hi

-- a × b, for a double b.
unfoldable pub quick_mult_f64 : DoubleDouble → Float → DoubleDouble
quick_mult_f64 a b =
    let c = from_exact_mult a.hi b in
    new_of (add binary64 c.lo (mul binary64 a.lo b)) c.hi

-- a × b + c
unfoldable pub mul_add : DoubleDouble → DoubleDouble → DoubleDouble → DoubleDouble
mul_add a b c =
    let m = quick_mult a b in
    let s = full_add_f64 c m.hi in
    new_of (add binary64 m.lo s.lo) s.hi

-- a × b + c, for a double c.
unfoldable pub mul_add_f64 : DoubleDouble → DoubleDouble → Float → DoubleDouble
mul_add_f64 a b c =
    let m = quick_mult a b in
    let s = from_full_exact_add c m.hi in
    new_of (add binary64 m.lo s.lo) s.hi

-- a × b + c, for a double b.
unfoldable pub mul_f64_add : DoubleDouble → Float → DoubleDouble → DoubleDouble
mul_f64_add a b c =
    let m = quick_mult_f64 a b in
    let s = full_add_f64 c m.hi in
    new_of (add binary64 m.lo s.lo) s.hi

-- a / b, by the reciprocal of b's high part and one correction.
unfoldable pub div_of : DoubleDouble → DoubleDouble → DoubleDouble
div_of a b =
    let q = div binary64 one b.hi in
    let hi = mul binary64 a.hi q in
    let m = from_exact_mult b.hi (neg hi) in
    let n = from_exact_mult b.lo (neg hi) in
    let eHi = add binary64 (add binary64 a.hi m.hi) m.lo in
    let eLo = add binary64 (add binary64 a.lo n.hi) n.lo in
    new_of (mul binary64 q (add binary64 eHi eLo)) hi

-- 1 / a
unfoldable pub recip_of : DoubleDouble → DoubleDouble
recip_of a =
    let y = div binary64 one a.hi in
    let p = from_exact_mult a.hi y in
    let e1 = sub binary64 (sub binary64 one p.hi) p.lo in
    let q = from_exact_mult a.lo y in
    let e2 = sub binary64 (sub binary64 e1 q.hi) q.lo in
    new_of (mul binary64 y e2) y

-- The square root of a, by the root of its sum and one correction.
unfoldable pub fast_sqrt : DoubleDouble → DoubleDouble
fast_sqrt a =
    let x = sqrt_of (add binary64 a.hi a.lo) in
    let m = from_exact_mult x x in
    let r = sub binary64 (add binary64 (sub binary64 a.hi m.hi) a.lo) m.lo in
    let dx = div binary64 r (mul binary64 two x) in
    let hi = add binary64 x dx in
    new_of (add binary64 (sub binary64 x hi) dx) hi

-- The two parts as one double.
unfoldable pub to_f64 : DoubleDouble → Float
to_f64 a = add binary64 a.lo a.hi

-- a × b + c, for doubles, by the product's pair.
unfoldable pub dd_f64_mul_add : Float → Float → Float → Float
dd_f64_mul_add a b c = to_f64 (full_add_f64 (from_exact_mult a b) c)

-- The logarithm of 2.
unfoldable pub log2_dd : DoubleDouble
log2_dd = from_bit_pair (bit_pair 0x3c7a_bc9e_3b39_803f 0x3fe6_2e42_fefa_39ef)
