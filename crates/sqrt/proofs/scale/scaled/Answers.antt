-- `scaled` meets its contract: the pattern's fields give the scaled significand. Assumes nothing.
use Rattle.sqrt.proofs.Scaling.{scaled_low, scaled_even, scaled_odd}
use Rattle.sqrt.proofs.scale.scaled.Goals as goal
use Rattle.sqrt.proofs.scale.scaled.Goals.{then-k-eq0, else-k-eq0}

pub returns-then-e-eq0 : goal.returns-then-e-eq0
returns-then-e-eq0 c =
    let a = c.args in
    let r = c.subnormal.result in
    scaled_low a.b r.q r.z c.if-e-eq0.true c.subnormal.ensures

pub returns : goal.returns
returns c =
    elim c.if-k-eq0.branch [
      | then-k-eq0 w ↦ rw w.q-is (scaled_even c.args.b c.requires.1 c.if-e-eq0.false w.if-k-eq0.true)
      | else-k-eq0 w ↦ rw w.q-is (scaled_odd c.args.b c.requires.1 c.if-e-eq0.false w.if-k-eq0.false)
    ]
