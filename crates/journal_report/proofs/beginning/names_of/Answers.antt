-- `names_of` counts the entries where an index is made. Assumes nothing.
use mathlib.Core.Path.{◌≡◌, refl}
use mathlib.Core.List.{List}
use Prim.Native.Nat.{ℕ}
use Rattle.std.specs.Prelude.{Err}
use Rattle.journal_index.specs.Made.{made_meaning}
use Rattle.journal_index.specs.declared.IndexError.{IndexError}
use Rattle.journal_index.specs.declared.IndexError.TheVariants as E
use Rattle.journal_entries.specs.Places.{end_of}
use Rattle.journal_report.specs.Begin.{names_made}
use Rattle.journal_report.proofs.beginning.names_of.Goals as goal

pub returns-in-Ok : goal.returns-in-Ok
unfolding made_meaning names_made end_of
returns-in-Ok c = rw (c.in-Ok.is, c.end_of.ensures) refl

no_names : (e : IndexError) (index : List ℕ) → 0 ≡ names_made (made_meaning (Err e)) index
unfolding made_meaning names_made
no_names (E.Declined r) index = refl
no_names (E.Damaged f) index = refl

pub returns-in-Err : goal.returns-in-Err
returns-in-Err c = rw c.in-Err.is (no_names _ _)
