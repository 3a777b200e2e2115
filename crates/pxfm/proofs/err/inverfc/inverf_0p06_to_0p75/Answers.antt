-- `inverf_0p06_to_0p75`: the equations of its eight calls, from the product with x back to the centred square, rewrite the result to the definition's.
-- Assumes nothing.
use Rattle.pxfm.specs.Rationals.{inverf0p06_to0p75}
use Rattle.pxfm.proofs.err.inverfc.inverf_0p06_to_0p75.Goals as goal

pub returns : goal.returns
unfolding inverf0p06_to0p75
returns c =
    rw (
      c.quick_mult.ensures,
      c.div-r.ensures,
      c.mid_den-den.ensures,
      c.mid_num-num.ensures,
      c.mul-vx8.ensures,
      c.mul-vx4.ensures,
      c.mul-vx2.ensures,
      c.centred-vz.ensures,
    )
