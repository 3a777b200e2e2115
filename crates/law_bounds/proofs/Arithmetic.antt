-- The operations on intervals, which antt computes. That they hold what the doubles' operations give is in Operations, Sums and Products.
use Prim.Native.Nat.{ℕ, ◌+◌, ◌-◌, ◌*◌, ◌/◌, ◌^◌, max}
use mathlib.Core.Bool.{Bool, false, ◌&&◌, cond}
use lib.Dec.{leb, ltb, eqb}
use lib.Ieee.{Float, nan, inf, fin, up, down}
use Rattle.law_bounds.specs.Interval.{Interval, about}

-- at least l in size, and at most d below zero or u above it; d or u is 0 where the sign is known
abbrev pub span : Bool → ℕ → ℕ → ℕ → Interval
span o l d u = record { ok = o; lp = cond (eqb d 0) l 0; ln = d; hp = u; hn = cond (eqb u 0) l 0 }

-- the three numbers of an interval
abbrev pub least : Interval → ℕ
least b = max (b.lp - b.ln) (b.hn - b.hp)

abbrev pub depth : Interval → ℕ
depth b = b.ln - b.lp

abbrev pub height : Interval → ℕ
height b = b.hp - b.hn

abbrev pub most : Interval → ℕ
most b = max (depth b) (height b)

-- ---- rounding, outward

-- a fraction of at most 2 ^ 1023, so that nothing overflows
abbrev pub limit : ℕ
limit = 2 ^ 2097

-- how far rounding moves a number of at most k units: k / 2 ^ 53, rounded up
unfoldable pub ulp : ℕ → ℕ
ulp k = (k + (2 ^ 53 - 1)) / 2 ^ 53

unfoldable pub raised : ℕ → ℕ
unfolding ulp
raised h = h + ulp h

unfoldable pub lowered : ℕ → ℕ
unfolding ulp
lowered l = l - ulp l

-- ---- operations

abbrev pub outward : Interval → Interval
outward b =
    record {
      ok = b.ok && leb (b.ln + b.hp) limit;
      lp = lowered (b.lp - b.ln);
      ln = raised (b.ln - b.lp);
      hp = raised (b.hp - b.hn);
      hn = lowered (b.hn - b.hp);
    }

abbrev pub sum_b : Interval → Interval → Interval
sum_b a b = record { ok = a.ok && b.ok; lp = a.lp + b.lp; ln = a.ln + b.ln; hp = a.hp + b.hp; hn = a.hn + b.hn }

unfoldable pub add_b : Interval → Interval → Interval
unfolding raised lowered
add_b a b = outward (sum_b a b)

unfoldable pub neg_b : Interval → Interval
neg_b a = record { ok = a.ok; lp = a.hn; ln = a.hp; hp = a.ln; hn = a.lp }

unfoldable pub sub_b : Interval → Interval → Interval
unfolding add_b neg_b
sub_b a b = add_b a (neg_b b)

-- a / b, rounded up to a whole number
abbrev pub over : ℕ → ℕ → ℕ
over a b = (a + (b - 1)) / b

-- a product's or a quotient's interval, from bounds of the exact one
abbrev pub rounded_b : Bool → ℕ → ℕ → ℕ → Interval
rounded_b o l d u = span (o && leb (d + u) limit) (lowered l) (raised d) (raised u)

unfoldable pub mul_b : Interval → Interval → Interval
unfolding raised lowered
mul_b a b =
    rounded_b (a.ok && b.ok)
    (least a * least b / 2 ^ 1074)
    (over (max (height a * depth b) (depth a * height b)) (2 ^ 1074))
    (over (max (height a * height b) (depth a * depth b)) (2 ^ 1074))

-- i / k in units, where the divisor's sign leaves it j in size and it is at least k
abbrev pub share : ℕ → ℕ → ℕ → ℕ
share i j k = cond (leb k j) (over (i * 2 ^ 1074) k) 0

unfoldable pub div_b : Interval → Interval → Interval
unfolding raised lowered
div_b a b =
    let k = least b in
    rounded_b (a.ok && b.ok && ltb 0 k)
    (least a * 2 ^ 1074 / most b)
    (max (share (height a) (depth b) k) (share (depth a) (height b) k))
    (max (share (height a) (height b) k) (share (depth a) (depth b) k))

-- one double
unfoldable pub point_b : Float → Interval
point_b nan = about false 0
point_b (inf s) = about false 0
point_b (fin s m e) =
    let k = m * up e * 2 ^ 1074 / down e in
    span (eqb (k * down e) (m * up e * 2 ^ 1074)) k (cond s k 0) (cond s 0 k)

-- b holds what a holds
abbrev pub within : Interval → Interval → Bool
within a b = a.ok && leb (b.lp + a.ln) (a.lp + b.ln) && leb (a.hp + b.hn) (b.hp + a.hn)
