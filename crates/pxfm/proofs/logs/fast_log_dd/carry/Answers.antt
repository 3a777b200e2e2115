-- `carry`: its test is the definition's, and the answer 1 or 0 is at most 1.
-- Assumes nothing.
use Rattle.std.proofs.Common.{arith, le-leb}
use borrow.Author.Tests.{lt-leb}
use Rattle.pxfm.specs.FastLogDd.{carry_of}
use Rattle.pxfm.proofs.logs.fast_log_dd.carry.Goals as goal

pub returns-then-m-ge-ROOT_TWO : goal.returns-then-m-ge-ROOT_TWO
unfolding carry_of
returns-then-m-ge-ROOT_TWO c = (rw (le-leb _ _ c.if-m-ge-ROOT_TWO.true), omega arith)

pub returns-else-m-ge-ROOT_TWO : goal.returns-else-m-ge-ROOT_TWO
unfolding carry_of
returns-else-m-ge-ROOT_TWO c = (rw (lt-leb _ _ c.if-m-ge-ROOT_TWO.false), omega arith)
