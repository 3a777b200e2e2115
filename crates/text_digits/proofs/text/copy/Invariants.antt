-- `copy` keeps the line's length, and after i turns the first i bytes of the text are pasted in.
-- Assumes nothing.
use mathlib.Core.Path.{◌≡◌}
use lib.ListN.{length}
use lib.Seq.{paste}
use Rattle.text_digits.proofs.text.copy.Given as goal

abbrev pub invariant-loop-i : goal.invariant-loop-i
invariant-loop-i l = (length l.line ≡ length l.initial.line) × (l.line ≡ paste l.initial.line l.place l.text l.i)
