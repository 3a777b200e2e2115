-- `lay_section` lays the count and the numbers, a number a turn.
-- Assumes nothing.
use mathlib.Core.Path.{sym, ap, ◌∙◌}
use Rattle.std.proofs.lemmas.List.{get_or-map, length-map}
use Rattle.journal.proofs.Laying.{laid_none, laid_next, laid_all}
use Rattle.journal.proofs.layout.lay_section.Goals as goal

pub loop-x-init : goal.loop-x-init
loop-x-init g c = laid_none _ _ _ _

pub loop-x-preserved : goal.loop-x-preserved
loop-x-preserved g c =
    let l = c.loop-x in
    let value = g.T.Number.value in
    laid_next _ _ _ _ _ _ _ _ _ _ l.invariant (rw length-map c.loop-x-test.true)
    (c.number.ensures ∙ ap value c.x-item.is ∙ sym (get_or-map value c.args.numbers.now l.x-index c.x-item.result 0 c.loop-x-test.true))
    c.lay_number-next-in-loop-x.ensures

pub returns : goal.returns
returns g c =
    laid_all _ _ _ _ c.args.out.now c.args.at (rw length-map c.lay_number-next.ensures) _ _ _ c.loop-x.invariant
    (rw length-map c.loop-x-test.false)
