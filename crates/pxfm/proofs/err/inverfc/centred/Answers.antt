-- `centred`: the equations of the square and of the sum with -0.5625 rewrite the result to the definition's.
-- Assumes nothing.
use Rattle.pxfm.specs.Rationals.{centred_of}
use Rattle.pxfm.proofs.err.inverfc.centred.Goals as goal

pub returns : goal.returns
unfolding centred_of
returns c =
    rw (
      c.full_add_f64.ensures,
      c.quick_mult-x2.ensures,
    )
