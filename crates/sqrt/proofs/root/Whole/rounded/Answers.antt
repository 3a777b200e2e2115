-- `rounded` meets its contract: the pattern that it writes is the rounded root's, in a tie and elsewhere.
-- Assumes nothing.
use Rattle.std.proofs.Common.{◌≡◌, ℕ, suc, ◌+◌, ◌*◌, ◌/◌, ◌%◌, ◌^◌, ◌<◌, ◌≤◌, ap, ◌∙◌, arith}
use lib.Ieee.{of_bits, binary64}
use Rattle.sqrt.specs.Sqrt.{round_root}
use Rattle.sqrt.specs.Steps.{Carried}
use Rattle.double_bits.proofs.Nans.{pattern_finite}
use Rattle.sqrt.proofs.OneRounding.{carried_digit, carried_tie, round_root_bits}
use Rattle.sqrt.proofs.root.Whole.rounded.Goals as goal
use Rattle.sqrt.proofs.root.Whole.rounded.Goals.{else-self-eq0-via-then-self-eq0+else-self-eq1, else-self-eq0-via-else-self-eq0}

-- the pattern has z + 1 before the digits kept and what they are raised by
pattern : (s r z b up : ℕ) → (2 ^ 53 ≤ s) × (s < 2 ^ 54) × (z < 2000) → b ≡ suc z * 2 ^ 52 + (s / 2 + up) → Carried (s / 2) (s % 2) r up
    → of_bits binary64 b ≡ round_root binary64 s r z
pattern s r z b up p e k = ap (of_bits binary64) e ∙ round_root_bits s r z up p.0 p.1 p.2 k

pub returns-then-self-eq1 : goal.returns-then-self-eq1
returns-then-self-eq1 c =
    let s = c.args.self.root in
    pattern s c.args.self.rest c.args.z _ (s / 2 % 2) c.requires (omega arith)
    (carried_tie s c.args.self.rest c.if-self-eq0.true c.if-self-eq1.true)

pub returns : goal.returns
returns c =
    let s = c.args.self.root in
    let r = c.args.self.rest in
    pattern s r c.args.z _ (s % 2) c.requires (omega arith)
    (carried_digit s r
    (λ n o. elim c.else-self-eq0.branch [
      | else-self-eq0-via-then-self-eq0+else-self-eq1 w ↦ w.if-self-eq1.false o
      | else-self-eq0-via-else-self-eq0 w ↦ w.if-self-eq0.false n
    ]))

pub float_from_bits-result : goal.float_from_bits-result
float_from_bits-result c = pattern_finite _ (omega arith)

pub float_from_bits-result-2 : goal.float_from_bits-result-2
float_from_bits-result-2 c = pattern_finite _ (omega arith)
