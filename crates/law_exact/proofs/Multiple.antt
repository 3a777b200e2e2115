-- A number of at least 2 ^ (52 + k) units is rounded to the multiple of 2 ^ k nearest to it. Assumes nothing.
use mathlib.Core.Path.{◌≡◌, refl, ap, ◌∙◌}
use mathlib.Core.Bool.{Bool, true, false}
use Prim.Native.Nat.{ℕ, ◌+◌, ◌*◌, ◌^◌, ◌≤◌, ◌<◌}
use native.Mathlib.Nat.{lt_of_lt_of_le}
use native.Mathlib.Omega.{arith}
use lib.Pow.{pow_pos}
use lib.Ieee.{Float, binary64}
use lib.Ieee.Exact.{HasValue}
use lib.Ieee.Nearest.{closest}
use Rattle.pxfm.proofs.Error.{closest_near, closest_value}
use Rattle.pxfm.proofs.Value.{Gap, Val, Rounds}
use Rattle.law_exact.proofs.Signed.{Signed, SignedRounds}

-- x is the multiple 2 ^ k * c of 2 ^ k, no further than half of 2 ^ k from m.
pub record Multiple (s : Bool) (x : Float) (m k j : ℕ) : Type 0 where
  pub c : ℕ
  pub val : Signed s x (2 ^ k * c) 0 j
  pub over : 2 * (2 ^ k * c) ≤ 2 * m + 2 ^ k
  pub under : 2 * m ≤ 2 * (2 ^ k * c) + 2 ^ k

module _ {x : Float} {p n j : ℕ} (v : Rounds binary64 x p n j) (m k : ℕ) (lo : 2 ^ (52 + k) ≤ m) (hi : m < 2 ^ (53 + k))
    (room : k + j ≤ 2044) where
  size_value : v.mag ≡ m → HasValue x v.sign (2 ^ k * closest m (2 ^ k) * 2 ^ j) (2 ^ 1074)
  size_value e =
      rw v.is
      (closest_value binary64 v.sign v.num v.den m 52 k j v.den_pos refl lo hi (v.val ∙ ap (λ (z : ℕ). z * 2 ^ j * v.den) e) (omega arith))

  positive_val : m + n ≡ p → Val binary64 x (2 ^ k * closest m (2 ^ k)) 0 j
  positive_val e = go v.sign refl v.gap
    where
      go : (s : Bool) → v.sign ≡ s → Gap s v.mag p n → Val binary64 x (2 ^ k * closest m (2 ^ k)) 0 j
      go false q g =
          record { sign = v.sign; mag = 2 ^ k * closest m (2 ^ k); val = size_value (omega arith); gap = rw q (omega arith) }
      go true q g = let l = lt_of_lt_of_le (pow_pos (52 + k)) lo in absurd (omega arith)

  negative_val : m + p ≡ n → Val binary64 x 0 (2 ^ k * closest m (2 ^ k)) j
  negative_val e = go v.sign refl v.gap
    where
      go : (s : Bool) → v.sign ≡ s → Gap s v.mag p n → Val binary64 x 0 (2 ^ k * closest m (2 ^ k)) j
      go true q g =
          record { sign = v.sign; mag = 2 ^ k * closest m (2 ^ k); val = size_value (omega arith); gap = rw q (omega arith) }
      go false q g = let l = lt_of_lt_of_le (pow_pos (52 + k)) lo in absurd (omega arith)

pub multiple : {s : Bool} {x : Float} {p n j : ℕ} → SignedRounds s x p n j → (m k : ℕ)
    → (m + n ≡ p) × (2 ^ (52 + k) ≤ m) × (m < 2 ^ (53 + k)) × (k + j ≤ 2044) → Multiple s x m k j
multiple {s = s} {x = x} {p = p} {n = n} {j = j} v m k h =
    let c = closest m (2 ^ k) in
    let near = closest_near m (2 ^ k) (pow_pos k) in
    record { c = c; val = value s v; over = near.0; under = near.1 }
  where
    value : (s : Bool) → SignedRounds s x p n j → Signed s x (2 ^ k * closest m (2 ^ k)) 0 j
    value false v = record { is = positive_val v.is m k h.1 h.2 h.3 h.0 }
    value true v = record { is = negative_val v.is m k h.1 h.2 h.3 h.0 }
