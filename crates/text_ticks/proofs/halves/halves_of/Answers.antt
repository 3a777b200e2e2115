-- `text_ticks::halves::halves_of` meets its contract: zero, less than a half, and a fraction with a power of two below it. Assumes nothing.
use mathlib.Core.Path.{refl}
use native.Mathlib.Omega.{arith}
use Rattle.text_ticks.proofs.Halving.{halves_small, halves_mid}
use Rattle.text_ticks.proofs.halves.halves_of.Goals as goal

pub returns-then-e-lt1015 : goal.returns-then-e-lt1015
returns-then-e-lt1015 c = halves_small _ (omega (arith, c.requires)) c.if-b-eq0.false c.if-e-lt1015.true

pub returns : goal.returns
returns c =
    let p = c.power-unit.ensures in
    halves_mid _ _ _ c.requires c.if-e-lt1015.false p.0 p.2 p.1 refl
