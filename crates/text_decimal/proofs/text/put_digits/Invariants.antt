-- `put_digits` puts one digit a turn. The invariant is `Going`. Assumes nothing.
use Rattle.text_decimal.proofs.Behind.{Going}
use Rattle.text_decimal.proofs.text.put_digits.Given as goal

abbrev pub invariant-loop-left : goal.invariant-loop-left
invariant-loop-left l = Going l.rest l.k l.initial.line l.place l.line l.p l.r l.left
