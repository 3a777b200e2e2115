-- `central`: that the pair's high part is below 1 is the law `argument_below_one`, from the three requirements;
-- the equations of its three calls rewrite the result to the definition's. Assumes nothing.
use Rattle.std.proofs.Common.{rules}
use Rattle.pxfm.specs.Inverfc.{central_of}
use Rattle.pxfm.proofs.Argument.{argument_below_one}
use Rattle.pxfm.proofs.err.inverfc.central.Goals as goal

pub erf_core_of-r-requires : goal.erf_core_of-r-requires
erf_core_of-r-requires c =
    rw c.core_argument-dx.ensures (argument_below_one c.args.x (search rules) c.requires.x_bound c.requires.one_value c.requires.tenth_value)

pub returns : goal.returns
unfolding central_of
returns c = rw (c.sign.ensures, c.erf_core_of-r.ensures, c.core_argument-dx.ensures)
