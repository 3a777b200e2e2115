-- `limits_at` passes one limit a turn, and the place of its chance with it.
-- Assumes nothing.
use mathlib.Core.Path.{refl}
use Prim.Native.Nat.{◌+◌, ◌-◌}
use native.Mathlib.Omega.{arith}
use Rattle.limit.specs.Answer.{moments_meaning}
use Rattle.std.proofs.lemmas.Result.{err_from_is_err_and}
use Rattle.journal.proofs.LimitsLoop.{limiting_end, limiting_halted, limiting_more}
use Rattle.journal.proofs.limits.limits_at.Goals as goal

pub loop-i-preserved : goal.loop-i-preserved
loop-i-preserved c =
    let l = c.loop-i in
    let a = c.args in
    limiting_more a.b.now a.at a.n a.chances (moments_meaning a.worked) l.next l.chance (a.n - l.i) l.invariant
    (a.n - (l.i + 1)) (omega arith) _ c.in_ok-_bits.ensures _ refl

pub returns-in_err-_bits : goal.returns-in_err-_bits
returns-in_err-_bits c =
    let l = c.loop-i in
    let a = c.args in
    let p = err_from_is_err_and c.from_residual.result c.from_residual.ensures.1 in
    rw (p.1, p.2)
    (limiting_halted a.b.now a.at a.n a.chances (moments_meaning a.worked) l.next l.chance (a.n - l.i) l.invariant
    (a.n - (l.i + 1)) (omega arith) _ c.in_err-_bits.ensures _ refl)

pub returns : goal.returns
returns c =
    let l = c.loop-i in
    let a = c.args in
    limiting_end a.b.now a.at a.n a.chances (moments_meaning a.worked) l.next l.chance (a.n - l.i) l.invariant (omega arith)
