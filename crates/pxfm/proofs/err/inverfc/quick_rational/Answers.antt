-- `quick_rational`: no row of its two lists is a NaN's pattern, which is computed; the equations of its five calls, from the product with x back
-- to the centred square, rewrite the result to the definition's. Assumes nothing.
use lib.Ieee.{nan_bits}
use Rattle.pxfm.specs.Inverfc.{quick_rational}
use Rattle.pxfm.specs.Rationals.{p0p06_to0p75, q0p06_to0p75}
use Rattle.pxfm.proofs.err.inverfc.quick_rational.Goals as goal

pub horner-num-requires : goal.horner-num-requires
unfolding nan_bits
horner-num-requires c = ((tt, tt), (tt, tt), (tt, tt), (tt, tt), (tt, tt), (tt, tt), (tt, tt), (tt, tt), (tt, tt), (tt, tt))

pub horner-den-requires : goal.horner-den-requires
unfolding nan_bits
horner-den-requires c = ((tt, tt), (tt, tt), (tt, tt), (tt, tt), (tt, tt), (tt, tt), (tt, tt), (tt, tt), (tt, tt), (tt, tt))

pub returns : goal.returns
unfolding quick_rational p0p06_to0p75 q0p06_to0p75
returns c =
    rw (
      c.quick_mult.ensures,
      c.div-r.ensures,
      c.horner-den.ensures,
      c.horner-num.ensures,
      c.centred-vz.ensures,
    )
