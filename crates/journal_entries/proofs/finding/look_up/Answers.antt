-- `look_up` compares one entry a turn: those left decide.
-- Assumes nothing.
use mathlib.Core.Path.{ap}
use Prim.Native.Nat.{ℕ, ◌+◌}
use native.Mathlib.Omega.{arith}
use Rattle.journal_entries.proofs.ByCounts.{entry_inside}
use Rattle.journal_entries.proofs.LookedUp.{look_start, look_short, look_done, look_found, look_goes}
use Rattle.journal_entries.proofs.finding.look_up.Goals as goal

pub loop-init : goal.loop-init
loop-init c = look_start _ _ _ (omega arith)

pub returns-in_err-entry : goal.returns-in_err-entry
returns-in_err-entry c = let h = look_short _ _ _ _ c.loop.invariant c.in_err-entry.ensures in cc

pub returns-then-is_name : goal.returns-then-is_name
returns-then-is_name c =
    let l = c.loop in
    look_found _ _ _ _ l.invariant _ _ c.in_ok-entry.ensures _ c.is_name.ensures (omega (arith, c.number_in-end.ensures)) c.if-is_name.true

pub overflow_add-at : goal.overflow_add-at
overflow_add-at c = omega (arith, entry_inside _ _ _ _ c.in_ok-entry.ensures)

pub loop-preserved : goal.loop-preserved
loop-preserved c =
    let l = c.loop in
    look_goes _ _ _ _ l.invariant _ _ c.in_ok-entry.ensures _ c.is_name.ensures (omega (arith, c.number_in-end.ensures)) _ _ (omega arith)
    (ap (λ (n : ℕ). l.at + n) c.size-at.ensures) c.if-is_name.false

pub returns : goal.returns
returns c = let l = c.loop in look_done _ _ _ _ l.invariant (omega (arith, c.number_in-end.ensures))
