-- `long_den`: the code's rows are computed to be the entries of the definition's list, and no NaN's patterns;
-- with these the equations of its thirteen calls are the definition's steps. Assumes nothing.
use lib.Ieee.{nan_bits}
use Rattle.pxfm.specs.Rationals.{q_asympt_long}
use Rattle.pxfm.specs.DoubleDouble.{from_bit_pair}
use Rattle.pxfm.proofs.Paired.{paired14_steps}
use Rattle.pxfm.proofs.err.inverfc.long_den.Goals as goal

pub returns : goal.returns
unfolding q_asympt_long from_bit_pair
returns c =
    paired14_steps q_asympt_long _ _ _ _
    c.two_terms-g0.ensures
    c.two_terms-g1.ensures
    c.two_terms-g2.ensures
    c.two_terms-g3.ensures
    c.two_terms-g4.ensures
    c.two_terms-g5.ensures
    c.two_terms-g6.ensures
    c.mul_add-h0.ensures
    c.mul_add-h1.ensures
    c.mul_add-h2.ensures
    c.mul_add-q0.ensures
    c.mul_add-q1.ensures
    c.mul_add.ensures

pub two_terms-g0-requires : goal.two_terms-g0-requires
unfolding nan_bits
two_terms-g0-requires c = ((tt, tt), (tt, tt))

pub two_terms-g1-requires : goal.two_terms-g1-requires
unfolding nan_bits
two_terms-g1-requires c = ((tt, tt), (tt, tt))

pub two_terms-g2-requires : goal.two_terms-g2-requires
unfolding nan_bits
two_terms-g2-requires c = ((tt, tt), (tt, tt))

pub two_terms-g3-requires : goal.two_terms-g3-requires
unfolding nan_bits
two_terms-g3-requires c = ((tt, tt), (tt, tt))

pub two_terms-g4-requires : goal.two_terms-g4-requires
unfolding nan_bits
two_terms-g4-requires c = ((tt, tt), (tt, tt))

pub two_terms-g5-requires : goal.two_terms-g5-requires
unfolding nan_bits
two_terms-g5-requires c = ((tt, tt), (tt, tt))

pub two_terms-g6-requires : goal.two_terms-g6-requires
unfolding nan_bits
two_terms-g6-requires c = ((tt, tt), (tt, tt))
