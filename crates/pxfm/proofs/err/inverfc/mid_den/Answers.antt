-- `mid_den`: the code's rows are computed to be the entries of the definition's list, and no NaN's patterns;
-- with these the equations of its nine calls are the definition's steps. Assumes nothing.
use lib.Ieee.{nan_bits}
use Rattle.pxfm.specs.Rationals.{q0p06_to0p75}
use Rattle.pxfm.specs.DoubleDouble.{from_bit_pair}
use Rattle.pxfm.proofs.Paired.{paired10_steps}
use Rattle.pxfm.proofs.err.inverfc.mid_den.Goals as goal

pub returns : goal.returns
unfolding q0p06_to0p75 from_bit_pair
returns c =
    paired10_steps q0p06_to0p75 _ _ _ _
    c.two_terms-p0.ensures
    c.two_terms-p1.ensures
    c.two_terms-p2.ensures
    c.two_terms-p3.ensures
    c.two_terms-p4.ensures
    c.mul_add-q0.ensures
    c.mul_add-q1.ensures
    c.mul_add-r0.ensures
    c.mul_add.ensures

pub two_terms-p0-requires : goal.two_terms-p0-requires
unfolding nan_bits
two_terms-p0-requires c = ((tt, tt), (tt, tt))

pub two_terms-p1-requires : goal.two_terms-p1-requires
unfolding nan_bits
two_terms-p1-requires c = ((tt, tt), (tt, tt))

pub two_terms-p2-requires : goal.two_terms-p2-requires
unfolding nan_bits
two_terms-p2-requires c = ((tt, tt), (tt, tt))

pub two_terms-p3-requires : goal.two_terms-p3-requires
unfolding nan_bits
two_terms-p3-requires c = ((tt, tt), (tt, tt))

pub two_terms-p4-requires : goal.two_terms-p4-requires
unfolding nan_bits
two_terms-p4-requires c = ((tt, tt), (tt, tt))
