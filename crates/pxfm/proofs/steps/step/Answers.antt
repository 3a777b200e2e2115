-- `step`: the equations of the six `of_bits` and of `result` rewrite the result to the definition's.
-- Assumes nothing.
use Rattle.pxfm.specs.Steps.{step_of}
use Rattle.pxfm.proofs.steps.step.Goals as goal

pub returns : goal.returns
unfolding step_of
returns c =
    rw (
      c.result.ensures,
      c.of_bits-x5.ensures,
      c.of_bits-x4.ensures,
      c.of_bits-x3.ensures,
      c.of_bits-x2.ensures,
      c.of_bits-x1.ensures,
      c.of_bits-x0.ensures,
    )
