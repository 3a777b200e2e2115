-- `bytes_at` takes the bytes in from the last down, a turn of `NumberFromBytes` each. Assumes nothing.
use Rattle.std.proofs.Common.{◌≡◌, ◌+◌, ◌-◌, ◌<◌, arith}
use Rattle.journal_spec.proofs.NumberFromBytes.{gather_start, gather_turn, gather_fits, gather_end}
use Rattle.journal_parts.proofs.number.bytes_at.Goals as goal

pub loop-j-init : goal.loop-j-init
loop-j-init c = gather_start _ _ _

-- the byte that is taken in
byte : (c : goal.After-from) → c.from.result < 256
byte c = omega (arith, c.from.ensures, c.type_inv.b (c.args.at + (c.loop-j.j - 1)))

pub overflow_mul-value : goal.overflow_mul-value
overflow_mul-value c =
    let l = c.loop-j in
    omega (arith, gather_fits _ _ _ l.value l.j 0 l.invariant (omega arith) (omega arith) (omega arith))

pub overflow_add-value : goal.overflow_add-value
overflow_add-value c =
    let l = c.loop-j in
    omega (arith, gather_fits _ _ _ l.value l.j _ l.invariant (omega arith) (omega arith) (byte c))

pub loop-j-preserved : goal.loop-j-preserved
loop-j-preserved c =
    let l = c.loop-j in
    gather_turn _ _ _ l.value l.j _ l.invariant (omega arith) (omega arith) c.from.ensures (byte c)

pub returns : goal.returns
returns c =
    let l = c.loop-j in
    let all : c.args.w - l.j ≡ c.args.w = omega arith in
    (gather_end _ _ _ l.value l.j l.invariant (omega arith), rw all at l.invariant.small)
