-- `lay_section` lays the count and the numbers, a number a turn.
-- Assumes nothing.
use mathlib.Core.List.{map}
use Rattle.journal.proofs.Laying.{Laid}
use Rattle.journal.proofs.layout.lay_section.Given as goal

abbrev pub invariant-loop-x : goal.invariant-loop-x
invariant-loop-x g l = Laid l.initial.out l.initial.next l.w (map g.T.Number.value l.numbers) l.x-index l.out l.next
