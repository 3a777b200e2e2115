-- `factor`: its test is the definition's; 0.5 and 1.0 are computed to be the definition's two doubles.
-- Assumes nothing.
use lib.Ieee.{of_bits}
use Rattle.std.proofs.Common.{le-leb}
use borrow.Author.Tests.{lt-leb}
use Rattle.pxfm.specs.FastLogDd.{factor_of}
use Rattle.pxfm.proofs.logs.fast_log_dd.factor.Goals as goal

pub returns-then-m-ge-ROOT_TWO : goal.returns-then-m-ge-ROOT_TWO
unfolding factor_of of_bits
returns-then-m-ge-ROOT_TWO c = rw (le-leb _ _ c.if-m-ge-ROOT_TWO.true)

pub returns-else-m-ge-ROOT_TWO : goal.returns-else-m-ge-ROOT_TWO
unfolding factor_of of_bits
returns-else-m-ge-ROOT_TWO c = rw (lt-leb _ _ c.if-m-ge-ROOT_TWO.false)
