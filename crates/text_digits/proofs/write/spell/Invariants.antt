-- `text_digits::write::spell` meets its contract. The invariant: the digits of what is left of the number, and then the bytes that
-- stand from `i` on, are the digits asked for. Assumes nothing.
use mathlib.Core.Path.{◌≡◌}
use mathlib.Core.List.{◌++◌}
use lib.ListN.{length, drop}
use Rattle.text_digits.specs.Hex.{digits}
use Rattle.text_digits.proofs.write.spell.Given as goal

abbrev pub invariant-loop-i : goal.invariant-loop-i
invariant-loop-i l = digits l.base (length l.initial.out) l.n ≡ digits l.base l.i l.rest ++ drop l.i l.out
