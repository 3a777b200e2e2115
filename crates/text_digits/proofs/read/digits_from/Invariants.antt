-- `text_digits::read::digits_from` meets its contract. The invariant: reading the digits that are left, behind the number so far,
-- gives what reading all of them gives; the number so far fits its digits. Assumes nothing.
use Prim.Native.Nat.{◌+◌, ◌-◌, ◌^◌, ◌<◌}
use mathlib.Core.Path.{◌≡◌}
use Rattle.text_digits.specs.Hex.{read_digits}
use Rattle.text_digits.proofs.read.digits_from.Given as goal

abbrev pub invariant-loop-at : goal.invariant-loop-at
invariant-loop-at l =
    (l.n < 16 ^ (l.at - l.place)) × (read_digits l.width l.s l.place 0 ≡ read_digits (l.place + l.width - l.at) l.s l.at l.n)
