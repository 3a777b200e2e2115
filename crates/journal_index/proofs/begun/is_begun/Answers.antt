-- `is_begun` passes one entry a turn: those left decide.
-- Assumes nothing.
use mathlib.Core.Path.{sym, ap}
use Prim.Native.Nat.{ℕ, ◌+◌}
use native.Mathlib.Omega.{arith}
use Rattle.journal_entries.proofs.ByCounts.{entry_inside}
use Rattle.journal_index.proofs.Beginning.{begun_long, begun_many, begun_start, begun_ends, begun_behind}
use Rattle.journal_index.proofs.Beginning.{begun_range, begun_cut, begun_order, begun_goes}
use Rattle.journal_index.proofs.begun.is_begun.Goals as goal

pub returns-then-b-gt-MAX_INDEX : goal.returns-then-b-gt-MAX_INDEX
returns-then-b-gt-MAX_INDEX c = sym (begun_long _ (omega arith))

pub returns-then-count-gt-MAX_ENTRIES : goal.returns-then-count-gt-MAX_ENTRIES
returns-then-count-gt-MAX_ENTRIES c = sym (begun_many _ _ (omega arith) c.number_so_far-count.ensures (omega arith))

pub loop-init : goal.loop-init
loop-init c = begun_start _ _ (omega arith) c.number_so_far-count.ensures _ (omega (arith, c.number_so_far-count.ensures)) (omega arith)

pub returns-then-b-at : goal.returns-then-b-at
returns-then-b-at c = sym (begun_ends _ _ _ _ c.loop.invariant (omega arith))

pub returns-then-not-is_in_range : goal.returns-then-not-is_in_range
returns-then-not-is_in_range c =
    sym (begun_range _ _ _ _ c.loop.invariant (omega arith) (omega (arith, c.number_so_far-count.ensures)) _ c.is_in_range.ensures c.if-not-is_in_range.true)

pub returns-in_default : goal.returns-in_default
returns-in_default c =
    sym (begun_cut _ _ _ _ c.loop.invariant (omega arith) (omega (arith, c.number_so_far-count.ensures)) _ c.is_in_range.ensures c.if-not-is_in_range.false
    c.in_default.ensures)

pub returns-then-not-is_below : goal.returns-then-not-is_below
returns-then-not-is_below c =
    sym (begun_order _ _ _ _ c.loop.invariant (omega arith) (omega (arith, c.number_so_far-count.ensures)) _ c.is_in_range.ensures c.if-not-is_in_range.false
    _ _ c.in-Some.ensures _ c.is_below.ensures c.if-not-is_below.true)

pub overflow_add-at : goal.overflow_add-at
overflow_add-at c = omega (arith, entry_inside _ _ _ _ c.in-Some.ensures)

pub loop-preserved : goal.loop-preserved
loop-preserved c =
    let l = c.loop in
    begun_goes _ _ _ _ l.invariant (omega arith) (omega (arith, c.number_so_far-count.ensures)) _ c.is_in_range.ensures c.if-not-is_in_range.false
    _ _ c.in-Some.ensures _ c.is_below.ensures _ _ (omega arith) (ap (λ (n : ℕ). l.at + n) c.size-at.ensures) c.if-not-is_below.false

pub returns : goal.returns
returns c = sym (begun_behind _ _ _ _ c.loop.invariant (omega (arith, c.number_so_far-count.ensures)))
