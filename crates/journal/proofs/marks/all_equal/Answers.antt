-- `all_equal` meets its contract, by the invariant `Comparing`.
-- Assumes nothing.
use mathlib.Core.Path.{◌≡◌, sym}
use Prim.Native.Nat.{◌+◌, ◌-◌}
use native.Mathlib.Omega.{arith}
use Rattle.journal.proofs.Equal.{comparing_start, comparing_turn, comparing_differs, comparing_end}
use Rattle.journal.proofs.marks.all_equal.Goals as goal

pub loop-i-init : goal.loop-i-init
loop-i-init c =
    let all : c.args.n - 0 ≡ c.args.n = omega arith in
    rw all (comparing_start _ _ _ (omega arith) c.number_in-first.ensures)

pub returns-then-number_at-first : goal.returns-then-number_at-first
returns-then-number_at-first c =
    let l = c.loop-i in
    sym (comparing_differs _ _ _ _ _ l.invariant _ (omega arith) c.number_at.ensures.0 c.if-number_at-first.true)

pub loop-i-preserved : goal.loop-i-preserved
loop-i-preserved c =
    let l = c.loop-i in
    comparing_turn _ _ _ _ _ l.invariant _ _ (c.args.n - (l.i + 1)) (omega arith) (omega arith) c.number_at.ensures.0 c.if-number_at-first.false

pub returns : goal.returns
returns c = sym (comparing_end _ _ _ _ _ c.loop-i.invariant (omega arith))
