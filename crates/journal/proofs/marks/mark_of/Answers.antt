-- `mark_of` compares as many times as the bytes hold.
-- Assumes nothing.
use mathlib.Core.Path.{refl, ◌∙◌}
use Rattle.journal_spec.specs.Read.{mark_of, times_in}
use Rattle.journal.proofs.Equal.{length_numbers}
use Rattle.journal.proofs.marks.mark_of.Goals as goal

pub returns : goal.returns
unfolding mark_of times_in
returns c = c.mark_from.ensures ∙ rw (c.all_equal-flat.ensures, length_numbers) refl
