-- `value` meets its contract: the sign's weight is added, and a carry out of 64 bits is lost. Assumes nothing.
use Rattle.law_mirror.specs.Mirror.{flip_sign}
use Rattle.replay_numbers.proofs.kind.Kind.value.Goals as goal

pub returns-in-Mirror : goal.returns-in-Mirror
unfolding flip_sign
returns-in-Mirror c = rw (c.in-Mirror.is, c.f_erfcinv_bits.ensures)
