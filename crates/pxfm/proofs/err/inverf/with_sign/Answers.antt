-- `with_sign`: the size, and with a minus its opposite. Assumes nothing.
use Rattle.pxfm.proofs.Signs.{abs_size, minus_size}
use Rattle.pxfm.proofs.err.inverf.with_sign.Goals as goal

pub returns-then-minus : goal.returns-then-minus
returns-then-minus c = rw (c.if-minus.true, c.abs-a.ensures.value, abs_size) (minus_size _)

pub returns-else-minus : goal.returns-else-minus
returns-else-minus c = rw (c.if-minus.false, c.abs-a.ensures.value, abs_size)
