-- `put_digits` puts one digit a turn, by the invariant. Assumes nothing.
use Prim.Native.Nat.{◌-◌}
use native.Mathlib.Omega.{arith}
use Rattle.text_decimal.proofs.Behind.{going_small, going_turn, going_end, shifted_unit}
use Rattle.text_decimal.proofs.text.put_digits.Goals as goal

pub overflow_mul-next : goal.overflow_mul-next
overflow_mul-next c = omega (arith, going_small _ _ _ _ _ _ _ _ c.loop-left.invariant)

pub loop-left-preserved : goal.loop-left-preserved
loop-left-preserved c =
    let g = c.loop-left.invariant in
    let unit = shifted_unit (c.loop-left.left - 1) (omega (arith, g.few)) in
    going_turn _ _ _ _ _ _ _ _ g _ _ _ _ (omega arith) unit.power c.put_decimal-p.ensures

pub returns : goal.returns
returns c = going_end _ _ _ _ _ _ _ _ c.loop-left.invariant (omega arith)
