-- `inverf_asympt_long`: the equations of its seven calls, from the product with the root of zeta back to z's square, rewrite the result.
-- Assumes nothing.
use Rattle.pxfm.specs.Rationals.{inverf_asympt_long}
use Rattle.pxfm.proofs.err.inverfc.inverf_asympt_long.Goals as goal

pub returns : goal.returns
unfolding inverf_asympt_long
returns c =
    rw (
      c.quick_mult.ensures,
      c.div-r.ensures,
      c.long_den-den.ensures,
      c.long_num-num.ensures,
      c.mul-z8.ensures,
      c.mul-z4.ensures,
      c.mul-z2.ensures,
    )
