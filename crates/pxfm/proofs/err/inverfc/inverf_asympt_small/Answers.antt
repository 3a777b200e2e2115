-- `inverf_asympt_small`: the equations of its seven calls, from the product with the root of zeta back to z's square, rewrite the result.
-- Assumes nothing.
use Rattle.pxfm.specs.Rationals.{inverf_asympt_small}
use Rattle.pxfm.proofs.err.inverfc.inverf_asympt_small.Goals as goal

pub returns : goal.returns
unfolding inverf_asympt_small
returns c =
    rw (
      c.quick_mult.ensures,
      c.div-r.ensures,
      c.small_den-den.ensures,
      c.small_num-num.ensures,
      c.quick_mult-z8.ensures,
      c.quick_mult-z4.ensures,
      c.quick_mult-z2.ensures,
    )
