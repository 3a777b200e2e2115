-- `small_den`: the code's rows are computed to be the entries of the definition's list, and no NaN's patterns;
-- with these the equations of its twelve calls are the definition's steps. Assumes nothing.
use Rattle.std.proofs.Common.{ap, ◌∙◌}
use lib.Ieee.{nan_bits}
use Rattle.pxfm.specs.declared.double_double.DoubleDouble.{DoubleDouble}
use Rattle.pxfm.specs.Rationals.{q_asympt_small}
use Rattle.pxfm.specs.DoubleDouble.{from_bit_pair, mul_add_f64, one}
use Rattle.pxfm.proofs.Paired.{paired11_steps}
use Rattle.pxfm.proofs.err.inverfc.small_den.Goals as goal

pub returns : goal.returns
unfolding q_asympt_small from_bit_pair
returns c =
    paired11_steps q_asympt_small _ _ _ _ _
    (c.mul_add_f64-q0.ensures ∙ ap (λ (a : DoubleDouble). mul_add_f64 a c.args.z one) c.pair.ensures)
    c.two_terms_turned-q1.ensures
    c.two_terms_turned-q2.ensures
    c.two_terms_turned-q3.ensures
    c.two_terms_turned-q4.ensures
    c.mul_add-r0.ensures
    c.mul_add-r1.ensures
    c.mul_add-s0.ensures
    c.pair-2.ensures
    c.mul_add-s1.ensures
    c.mul_add.ensures

pub pair-requires : goal.pair-requires
unfolding nan_bits
pair-requires c = (tt, tt)

pub two_terms_turned-q1-requires : goal.two_terms_turned-q1-requires
unfolding nan_bits
two_terms_turned-q1-requires c = ((tt, tt), (tt, tt))

pub two_terms_turned-q2-requires : goal.two_terms_turned-q2-requires
unfolding nan_bits
two_terms_turned-q2-requires c = ((tt, tt), (tt, tt))

pub two_terms_turned-q3-requires : goal.two_terms_turned-q3-requires
unfolding nan_bits
two_terms_turned-q3-requires c = ((tt, tt), (tt, tt))

pub two_terms_turned-q4-requires : goal.two_terms_turned-q4-requires
unfolding nan_bits
two_terms_turned-q4-requires c = ((tt, tt), (tt, tt))

pub pair-requires-2 : goal.pair-requires-2
unfolding nan_bits
pair-requires-2 c = (tt, tt)
