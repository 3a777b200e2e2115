-- `has_entries` holds one entry a turn against the next place's record.
-- Assumes nothing.
use mathlib.Core.Path.{ap}
use Prim.Native.Nat.{ℕ, ◌+◌}
use native.Mathlib.Omega.{arith}
use Rattle.journal_entries.proofs.ByCounts.{entry_inside}
use Rattle.journal_index.proofs.Comparing.{comparing_start, comparing_none, comparing_short, comparing_other, comparing_next, comparing_end, comparing_last}
use Rattle.journal_index.proofs.own.has_entries.Goals as goal

pub loop-at-init : goal.loop-at-init
loop-at-init c = comparing_start _ _ _ _ c.number_in-left.ensures

pub returns-then-left-eq0 : goal.returns-then-left-eq0
returns-then-left-eq0 c = comparing_none _ _ _ _ _ _ c.loop-at.invariant (omega arith) c.if-left-eq0.true

pub returns-in_default : goal.returns-in_default
returns-in_default c = comparing_short _ _ _ _ _ _ c.loop-at.invariant (omega arith) c.in_default.ensures

pub returns-then-not-is_entry : goal.returns-then-not-is_entry
returns-then-not-is_entry c =
    comparing_other _ _ _ _ _ _ c.loop-at.invariant (omega arith) _ _ _ _ _ c.if-left-eq0.false c.in-Some.ensures
    c.from.ensures c.name_at.ensures c.is_entry.ensures c.if-not-is_entry.true

pub overflow_add-place : goal.overflow_add-place
overflow_add-place c = omega (arith, entry_inside _ _ _ _ c.in-Some.ensures)

pub loop-at-preserved : goal.loop-at-preserved
loop-at-preserved c =
    let l = c.loop-at in
    comparing_next _ _ _ _ _ _ l.invariant (omega arith) _ _ _ _ _ c.if-left-eq0.false c.in-Some.ensures
    c.from.ensures c.name_at.ensures c.is_entry.ensures _ (ap (λ (n : ℕ). l.place + n) c.size-place.ensures) c.if-not-is_entry.false

pub returns-then-left-eq0-2 : goal.returns-then-left-eq0-2
returns-then-left-eq0-2 c = comparing_end _ _ _ _ _ _ c.loop-at.invariant (omega arith) c.if-left-eq0-2.true

pub returns-else-left-eq0-2 : goal.returns-else-left-eq0-2
returns-else-left-eq0-2 c =
    comparing_last _ _ _ _ _ _ c.loop-at.invariant (omega arith) c.if-left-eq0-2.false _ c.entry_at-else-left-eq0-2.ensures _ c.is_none.ensures
