-- `find` compares one entry a turn: those left decide.
-- Assumes nothing.
use mathlib.Core.Path.{ap}
use Prim.Native.Nat.{ℕ, ◌+◌}
use native.Mathlib.Omega.{arith}
use Rattle.journal_entries.proofs.ByCounts.{entry_inside}
use Rattle.journal_entries.proofs.Seeking.{seek_start, seek_short, seek_done, seek_lower, seek_equal, seek_higher}
use Rattle.journal_entries.proofs.finding.find.Goals as goal

pub loop-init : goal.loop-init
loop-init c = seek_start _ _ _ (omega arith)

pub returns-in_default : goal.returns-in_default
returns-in_default c = let l = c.loop in seek_short _ _ _ _ l.invariant c.in_default.ensures

pub returns-in-Less : goal.returns-in-Less
returns-in-Less c =
    let l = c.loop in
    seek_lower _ _ _ _ l.invariant _ _ c.in-Some.ensures _ c.order_of.ensures (omega (arith, c.number_in-count.ensures)) c.in-Less.is

pub returns-in-Equal : goal.returns-in-Equal
returns-in-Equal c =
    let l = c.loop in
    seek_equal _ _ _ _ l.invariant _ _ c.in-Some.ensures _ c.order_of.ensures (omega (arith, c.number_in-count.ensures)) c.in-Equal.is

pub overflow_add-place : goal.overflow_add-place
overflow_add-place c = omega (arith, entry_inside _ _ _ _ c.in-Some.ensures)

pub loop-preserved : goal.loop-preserved
loop-preserved c =
    let l = c.loop in
    seek_higher _ _ _ _ l.invariant _ _ c.in-Some.ensures _ c.order_of.ensures (omega (arith, c.number_in-count.ensures)) _ _ (omega arith)
    (ap (λ (n : ℕ). l.place + n) c.size-place.ensures) c.in-Greater.is

pub returns : goal.returns
returns c = let l = c.loop in seek_done _ _ _ _ l.invariant (omega (arith, c.number_in-count.ensures))
