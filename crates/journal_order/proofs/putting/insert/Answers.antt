-- `insert` moves the places behind up, and puts the new one before them. Assumes nothing.
use mathlib.Core.Path.{sym, ◌∙◌}
use native.Mathlib.Omega.{arith}
use Rattle.journal_entries.proofs.Opening.{copied_written}
use Rattle.journal_order.proofs.Inserting.{inserted}
use Rattle.journal_order.proofs.putting.insert.Goals as goal

pub returns : goal.returns
returns c =
    inserted _ _ _ _ _ (omega arith) (omega arith) (c.shift.ensures ∙ sym (copied_written _ _ _ _ (omega arith) (omega arith)))
