-- `erf_core`: each return is rewritten by its piece's equation and the outcomes of the tests before it; `tail` requires what the last test left.
-- Assumes nothing.
use Rattle.std.proofs.Common.{◌≡◌, true, false}
use lib.Ieee.{binary64, of_bits, le}
use Rattle.pxfm.specs.Argument.{three_quarters}
use Rattle.pxfm.specs.Inverfc.{erf_core}
use Rattle.pxfm.proofs.err.inverfc.erf_core.Goals as goal

-- What the tests showed, at the places behind them.
within_first : (c : goal.After-taylor4) → le c.args.x.hi (of_bits binary64 0x3f83_74bc_6a7e_f9db) ≡ true
within_first c = c.if-h.true

past_first : (c : goal.After-taylor7) → le c.args.x.hi (of_bits binary64 0x3f83_74bc_6a7e_f9db) ≡ false
past_first c = c.if-h.false

past_first_2 : (c : goal.After-middle) → le c.args.x.hi (of_bits binary64 0x3f83_74bc_6a7e_f9db) ≡ false
past_first_2 c = c.if-h.false

past_first_3 : (c : goal.After-tail) → le c.args.x.hi (of_bits binary64 0x3f83_74bc_6a7e_f9db) ≡ false
past_first_3 c = c.if-h.false

within-second : (c : goal.After-taylor7) → le c.args.x.hi (of_bits binary64 0x3fae_b851_eb85_1eb8) ≡ true
within-second c = c.if-h-2.true

past-second : (c : goal.After-middle) → le c.args.x.hi (of_bits binary64 0x3fae_b851_eb85_1eb8) ≡ false
past-second c = c.if-h-2.false

past-second_2 : (c : goal.After-tail) → le c.args.x.hi (of_bits binary64 0x3fae_b851_eb85_1eb8) ≡ false
past-second_2 c = c.if-h-2.false

within-third : (c : goal.After-middle) → le c.args.x.hi three_quarters ≡ true
within-third c = c.if-h-3.true

past-third : (c : goal.After-tail) → le c.args.x.hi three_quarters ≡ false
past-third c = c.if-h-3.false

pub returns-then-h : goal.returns-then-h
unfolding erf_core
returns-then-h c = rw (c.taylor4.ensures, within_first c)

pub returns-then-h-2 : goal.returns-then-h-2
unfolding erf_core
returns-then-h-2 c = rw (c.taylor7.ensures, past_first c, within-second c)

pub returns-then-h-3 : goal.returns-then-h-3
unfolding erf_core
returns-then-h-3 c = rw (c.middle.ensures, past_first_2 c, past-second c, within-third c)

pub returns : goal.returns
unfolding erf_core
returns c = rw (c.tail.ensures, past_first_3 c, past-second_2 c, past-third c)
