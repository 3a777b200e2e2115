-- `sign`: its test is the definition's; -1.0 and 1.0 are computed to be the definition's two doubles.
-- Assumes nothing.
use lib.Ieee.{neg, of_bits}
use Rattle.pxfm.specs.Inverfc.{sign_of}
use Rattle.pxfm.proofs.err.inverfc.sign.Goals as goal

pub returns-then-x : goal.returns-then-x
unfolding sign_of neg of_bits
returns-then-x c = rw c.if-x.true

pub returns : goal.returns
unfolding sign_of neg of_bits
returns c = rw c.if-x.false
