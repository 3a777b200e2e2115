-- `horner`: the rows are no NaN's patterns by what it requires; the equations of its eleven calls, the last one first, rewrite the result to the
-- definition's. Assumes nothing.
use Rattle.pxfm.specs.Inverfc.{horner10}
use Rattle.pxfm.specs.DoubleDouble.{from_bit_pair}
use Rattle.pxfm.proofs.err.inverfc.horner.Goals as goal

pub returns : goal.returns
unfolding horner10 from_bit_pair
returns c =
    rw (
      c.mul_add.ensures,
      c.mul_add-n1.ensures,
      c.mul_add-n2.ensures,
      c.mul_add-n3.ensures,
      c.mul_f64_add-n4.ensures,
      c.pair-c0.ensures,
      c.pair-c1.ensures,
      c.pair-c2.ensures,
      c.pair-c3.ensures,
      c.pair-c4.ensures,
      c.f_polyeval5-ps.ensures,
    )
