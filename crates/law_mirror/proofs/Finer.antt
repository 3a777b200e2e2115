-- The same number in smaller units. Assumes nothing.
use mathlib.Core.Path.{◌≡◌, sym, ap, ◌∙◌, subst}
use mathlib.Core.Bool.{Bool, true, false}
use Prim.Native.Nat.{ℕ, ◌+◌, ◌*◌, ◌^◌}
use native.Mathlib.Nat.{mul_assoc}
use native.Mathlib.Omega.{arith}
use lib.Pow.{pow-add}
use lib.Ieee.{Float, Format, low}
use lib.Ieee.Exact.{HasValue}
use Rattle.pxfm.proofs.Value.{Gap, Val}

gap_finer : (s : Bool) (a p n u : ℕ) → Gap s a p n → Gap s (a * u) (p * u) (n * u)
gap_finer false a p n u g = let e = ap (λ (z : ℕ). z * u) g in omega arith
gap_finer true a p n u g = let e = ap (λ (z : ℕ). z * u) g in omega arith

pub val_finer : {f : Format} {x : Float} {p n : ℕ} (i j : ℕ) → Val f x p n (i + j) → Val f x (p * 2 ^ i) (n * 2 ^ i) j
val_finer {f = f} {x = x} {p = p} {n = n} i j v =
    let e : v.mag * 2 ^ (i + j) ≡ v.mag * 2 ^ i * 2 ^ j = ap (λ (z : ℕ). v.mag * z) (pow-add 2 i j) ∙ sym (mul_assoc v.mag (2 ^ i) (2 ^ j)) in
    record {
      sign = v.sign;
      mag = v.mag * 2 ^ i;
      val = subst (λ (z : ℕ). HasValue x v.sign z (2 ^ low f)) e v.val;
      gap = gap_finer v.sign v.mag p n (2 ^ i) v.gap;
    }
