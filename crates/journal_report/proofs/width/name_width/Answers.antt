-- `name_width` looks at one entry a turn: the width so far and those left decide.
-- Assumes nothing.
use mathlib.Core.Path.{ap}
use Prim.Native.Nat.{ℕ, ◌+◌}
use native.Mathlib.Omega.{arith}
use Rattle.journal_entries.proofs.ByCounts.{entry_inside}
use Rattle.journal_report.proofs.Widths.{width_start, width_short, width_done, width_next}
use Rattle.journal_report.proofs.width.name_width.Goals as goal

pub loop-init : goal.loop-init
loop-init c = width_start _ _ (omega arith)

pub returns-in_default : goal.returns-in_default
returns-in_default c = width_short _ _ _ _ c.loop.invariant c.in_default.ensures

pub overflow_add-at : goal.overflow_add-at
overflow_add-at c = omega (arith, entry_inside _ _ _ _ c.in-Some.ensures)

pub loop-preserved : goal.loop-preserved
loop-preserved c =
    let l = c.loop in
    width_next _ _ _ _ l.invariant _ _ _ _ c.in-Some.ensures.size (omega (arith, c.number_in-end.ensures)) c.max-width.ensures (omega arith)
    (ap (λ (n : ℕ). l.at + n) c.size-at.ensures)

pub returns : goal.returns
returns c = let l = c.loop in width_done _ _ _ _ l.invariant (omega (arith, c.number_in-end.ensures))
