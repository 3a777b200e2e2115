-- `subnormal` meets its contract: the loop keeps q * 4 ^ z, and ends since z falls. Assumes nothing.
use Rattle.std.proofs.Common.{arith}
use Rattle.sqrt.proofs.Scaling.{shifted_start, shifted_pos, shifted_next, shifted_end}
use Rattle.sqrt.proofs.scale.subnormal.Goals as goal

pub loop-q-init : goal.loop-q-init
loop-q-init c = shifted_start c.args.m c.requires.1

pub overflow_mul-q : goal.overflow_mul-q
overflow_mul-q c = omega arith

pub overflow_sub-z : goal.overflow_sub-z
overflow_sub-z c =
    let l = c.loop-q in
    shifted_pos c.args.m l.q l.z c.requires.0 l.invariant c.loop-q-test.true

pub loop-q-smaller : goal.loop-q-smaller
loop-q-smaller c = let h = overflow_sub-z c in omega arith

pub loop-q-preserved : goal.loop-q-preserved
loop-q-preserved c =
    let l = c.loop-q in
    shifted_next c.args.m l.q l.z (overflow_sub-z c) c.loop-q-test.true l.invariant

pub returns : goal.returns
returns c =
    let l = c.loop-q in
    shifted_end c.args.m l.q l.z l.invariant c.loop-q-test.false
