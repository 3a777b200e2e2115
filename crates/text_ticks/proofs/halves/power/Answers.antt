-- `text_ticks::halves::power` meets its contract: the shift loses nothing. Assumes nothing.
use mathlib.Core.Path.{◌≡◌}
use Prim.Native.Nat.{ℕ, ◌*◌, ◌%◌, ◌^◌, ◌≤◌}
use native.Mathlib.Nat.{pow-le-pow_right, zero-lt-suc}
use native.Mathlib.Omega.{arith}
use lib.Pow.{pow_pos}
use Rattle.text_ticks.proofs.halves.power.Goals as goal

shifted : (p : ℕ) → 1 ≤ p → p ≤ 2 ^ 60 → (1 * p % 2 ^ 64 ≡ p) × (1 ≤ 1 * p % 2 ^ 64) × (1 * p % 2 ^ 64 ≤ 2 ^ 60)
shifted p h l = (omega arith, omega arith, omega arith)

pub returns : goal.returns
returns c = shifted (2 ^ c.args.k) (pow_pos c.args.k) (pow-le-pow_right (zero-lt-suc 1) c.requires)
