-- `is_name` compares the last bytes, then all.
-- Assumes nothing.
use mathlib.Core.Path.{sym, ◌∙◌}
use Rattle.text_digits.proofs.Comparing.{bytes_same}
use Rattle.journal_entries.proofs.LookedUp.{other_end}
use Rattle.journal_entries.proofs.walking.Entry.is_name.Goals as goal

pub returns-then-eq : goal.returns-then-eq
returns-then-eq c = c.eq-then-eq.ensures ∙ bytes_same _ _

pub returns-else-eq : goal.returns-else-eq
returns-else-eq c = c.if-eq.false ∙ sym (other_end _ _ _ _ c.last.ensures.value c.last-2.ensures.value (sym c.eq.ensures ∙ c.if-eq.false))
