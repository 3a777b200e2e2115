-- `core_argument`: the equations of its four calls, the last one first, rewrite the result to the definition's.
-- Assumes nothing.
use Rattle.pxfm.specs.Argument.{core_argument, complement}
use Rattle.pxfm.proofs.err.inverfc.core_argument.Goals as goal

pub returns : goal.returns
unfolding core_argument complement
returns c =
    rw (
      c.from_exact_add.ensures,
      c.full_add_f64-dx.ensures,
      c.neg.ensures,
      c.mirrored-d.ensures,
    )
