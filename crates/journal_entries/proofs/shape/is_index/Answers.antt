-- `is_index` passes one entry a turn: those left decide.
-- Assumes nothing.
use mathlib.Core.Path.{sym, ap}
use Prim.Native.Nat.{ℕ, ◌+◌}
use native.Mathlib.Omega.{arith}
use Rattle.journal_entries.proofs.ByCounts.{entry_inside}
use Rattle.journal_entries.proofs.Telling.{telling_short, telling_start, telling_room, telling_order, telling_goes, telling_ends}
use Rattle.journal_entries.proofs.shape.is_index.Goals as goal

pub returns-then-b-lt2 : goal.returns-then-b-lt2
returns-then-b-lt2 c = sym (telling_short _ (omega arith))

pub loop-init : goal.loop-init
loop-init c = telling_start _ _ (omega arith) (omega arith)

pub returns-in_default : goal.returns-in_default
returns-in_default c = let l = c.loop in sym (telling_room _ _ _ _ l.invariant (omega (arith, c.number_in-end.ensures)) c.in_default.ensures)

pub returns-then-not-is_below : goal.returns-then-not-is_below
returns-then-not-is_below c =
    let l = c.loop in
    sym (telling_order _ _ _ _ l.invariant (omega (arith, c.number_in-end.ensures)) _ _ c.in-Some.ensures _ c.is_below.ensures c.if-not-is_below.true)

pub overflow_add-at : goal.overflow_add-at
overflow_add-at c = omega (arith, entry_inside _ _ _ _ c.in-Some.ensures)

pub loop-preserved : goal.loop-preserved
loop-preserved c =
    let l = c.loop in
    telling_goes _ _ _ _ l.invariant (omega (arith, c.number_in-end.ensures)) _ _ c.in-Some.ensures _ c.is_below.ensures _ _ (omega arith)
    (ap (λ (n : ℕ). l.at + n) c.size-at.ensures) c.if-not-is_below.false

pub returns : goal.returns
returns c = let l = c.loop in sym (telling_ends _ _ _ _ l.invariant (omega (arith, c.number_in-end.ensures)))
